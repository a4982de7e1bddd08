use Rattle.std.proofs.Common.{◌≡◌, ◌++◌, [], map, replicate}
use Rattle.std.specs.Prelude.{string_bytes}
use Rattle.fw_selections.proofs.table.push_blanks.Given as goal

-- the empty texts so far
abbrev pub invariant-loop-place : goal.invariant-loop-place
invariant-loop-place l = map string_bytes l.texts.items ≡ map string_bytes l.initial.texts.items ++ replicate l._place []
