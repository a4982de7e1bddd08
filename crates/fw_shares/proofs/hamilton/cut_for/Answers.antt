use Rattle.std.proofs.Common.{length, ◌-◌, arith}
use Rattle.fw_shares.proofs.Cuts.{above_le, ties_ge}
use Rattle.fw_shares.proofs.hamilton.cut_for.Goals as goal

pub overflow_sub-ties : goal.overflow_sub-ties
overflow_sub-ties c = omega (arith, above_le c.args.sorted.now (length c.args.sorted.now - 1 - c.args.extra) c.requires.sorted (omega arith), c.count_above-above.ensures)

pub returns-clause-all : goal.returns-clause-all
returns-clause-all c = omega (arith, above_le c.args.sorted.now (length c.args.sorted.now - 1 - c.args.extra) c.requires.sorted (omega arith), c.count_above-above.ensures)

pub returns-clause-ties : goal.returns-clause-ties
returns-clause-ties c = omega (arith, ties_ge c.args.sorted.now (length c.args.sorted.now - 1 - c.args.extra) c.requires.sorted (omega arith), c.count_above-above.ensures)
