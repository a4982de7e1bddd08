use Rattle.std.proofs.Common.{arith}
use Rattle.fw_terms.proofs.Items.{purchases_size}
use Rattle.fw_terms.proofs.lengths.purchases_len.Goals as goal

pub returns-clause-value : goal.returns-clause-value
returns-clause-value c = omega (arith, purchases_size c.args.purchases.now)
