use Rattle.std.proofs.Common.{◌≡◌, List, ℕ, take}
use Rattle.fw_sums.specs.Sums.{sums_at}
use Rattle.fw_sums.proofs.MergeFacts.{both, kept_of}
use Rattle.fw_sums.proofs.groups.Groups.add_groups.Given as goal

-- the groups so far are added
abbrev pub invariant-loop-place : goal.invariant-loop-place
invariant-loop-place l = record {
  sums : (g : List ℕ) → sums_at l.self g ≡ both g (sums_at l.initial.self g) (kept_of g (take l.place l.other.by_group.entries));
  lines : l.self.lines ≡ l.initial.self.lines;
}
