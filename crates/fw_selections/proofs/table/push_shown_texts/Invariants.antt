use Rattle.std.proofs.Common.{◌≡◌, ◌++◌, map}
use Rattle.std.specs.Prelude.{string_bytes}
use Rattle.std.specs.List.{range_with_len}
use Rattle.fw_selections.specs.Shown.{row_value}
use Rattle.fw_selections.specs.TableText.{shown_at}
use Rattle.fw_selections.proofs.table.push_shown_texts.Given as goal

-- the texts so far
abbrev pub invariant-loop-place : goal.invariant-loop-place
invariant-loop-place l = map string_bytes l.texts.items ≡ map string_bytes l.initial.texts.items ++ map (shown_at l.keys (row_value l.row).texts) (range_with_len 0 l.place)
