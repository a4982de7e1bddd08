use Rattle.std.proofs.Common.{arith}
use Rattle.fw_cut.specs.declared.place.Place.TheVariants.{Quoted}
use Rattle.fw_cut.proofs.RunFacts.{goes-none}
use Rattle.fw_cut.proofs.place.quoted_len.Goals as goal

pub loop-at-init : goal.loop-at-init
loop-at-init c = (omega arith, goes-none Quoted)
