use Rattle.std.proofs.Common.{◌≡◌, take}
use Rattle.fw_posted.specs.Marks.{selected}
use Rattle.fw_posted.proofs.part.push_selected.Given as goal

-- the rows so far whose mark is true
abbrev pub invariant-loop-place : goal.invariant-loop-place
invariant-loop-place l = l.builder ≡ selected (take l.place l.counts) (take l.place l.rows)
