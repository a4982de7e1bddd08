use Rattle.std.proofs.Common.{arith}
use Rattle.fw_owner.proofs.owned.before_of.Goals as goal

pub returns-in-Err-clause-fault : goal.returns-in-Err-clause-fault
returns-in-Err-clause-fault c =
    let ends = c.in-Some.ensures.ends in
    let some = c.requires in
    record {
      low = c.in-Some.before.from;
      high = c.in-Some.before.to;
      some = c.in-Some.ensures.some;
      ends = omega (arith, ends, some);
      refused = c.in-Err.ensures.fault;
    }
