use Rattle.std.proofs.Common.{arith}
use Rattle.fw_scan.specs.declared.place.Place.TheVariants as place
use Rattle.fw_scan.proofs.RunFacts.{joins-none, plain-more}
use Rattle.fw_scan.proofs.place.plain_len.Goals as goal

pub loop-at-init : goal.loop-at-init
loop-at-init c = (omega arith, joins-none place.InField)

pub loop-at-preserved : goal.loop-at-preserved
loop-at-preserved c =
    (omega (arith, c.loop-at-test.true), plain-more c.args.text.now c.loop-at.at c.loop-at-test.true c.if-byte-eq44.false c.if-byte-eq13.false c.if-byte-eq10.false c.loop-at.invariant.1)
