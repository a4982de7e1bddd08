use Rattle.std.proofs.Common.{◌≡◌, ◌++◌, map}
use Rattle.fw_selections.specs.Shown.{row_value}
use Rattle.fw_selections.specs.Written.{texts_under}
use Rattle.fw_selections.proofs.csv_text.push_texts.Given as goal

-- the texts so far
abbrev pub invariant-loop-place : goal.invariant-loop-place
invariant-loop-place l = map (λ f. f.now) l.fields.items ≡ map (λ f. f.now) l.initial.fields.items ++ texts_under l.place (row_value l.row).texts
