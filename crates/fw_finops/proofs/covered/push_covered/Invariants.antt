use Rattle.std.proofs.Common.{◌≡◌, ◌++◌, [], drop, map, take}
use Rattle.fw_finops.specs.Lines.{covered_after}
use Rattle.fw_finops.proofs.CoveredFacts.{HasLeft}
use Rattle.fw_finops.proofs.covered.push_covered.Given as goal

-- the lines of the takes so far are there, and what they left of each row is known
abbrev pub invariant-loop-take : goal.invariant-loop-take
invariant-loop-take l = record {
  lines : l.lines.items ++ covered_after l.commitments (map (λ r. r.now) l.rows) l.hour (take l.take-index l.taken) (drop l.take-index l.taken)
      ≡ l.initial.lines.items ++ covered_after l.commitments (map (λ r. r.now) l.rows) l.hour [] l.taken;
  left : HasLeft (map (λ r. r.now) l.rows) (take l.take-index l.taken) l.left.items;
}
