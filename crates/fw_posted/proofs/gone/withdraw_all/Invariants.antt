use Rattle.std.proofs.Common.{◌≡◌, length, take}
use Rattle.fw_posted.specs.Gone.{without_all}
use Rattle.fw_posted.proofs.gone.withdraw_all.Given as goal

-- the marks without the ranges so far
abbrev pub invariant-loop-at : goal.invariant-loop-at
invariant-loop-at l = record {
  marks : l.marks ≡ without_all (take l.at l.gone) l.initial.marks;
  long : length l.marks ≡ length l.initial.marks;
}
