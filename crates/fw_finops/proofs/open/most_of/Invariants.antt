use Rattle.std.proofs.Common.{◌≡◌, ◌≤◌, ◌^◌, filter, take}
use Rattle.std.specs.Prelude.{option_copied}
use Rattle.fw_finops.specs.Lines.{counts, most_usable}
use Rattle.fw_finops.proofs.OpenFacts.{first_in}
use Rattle.fw_finops.proofs.open.most_of.Given as goal

-- of those that count the row so far the first, and the most that it could have used of one
abbrev pub invariant-loop-commitment : goal.invariant-loop-commitment
invariant-loop-commitment l = record {
  first : option_copied l.first ≡ first_in (filter (counts l.hour l.row l.is_cost) (take l.commitment-index l.commitments));
  most : l.most ≡ most_usable l.hour l.row (filter (counts l.hour l.row l.is_cost) (take l.commitment-index l.commitments));
  within : l.most ≤ 10 ^ 17;
}
