use Rattle.std.proofs.Common.{arith}
use Rattle.fw_scan.specs.declared.place.Place.TheVariants as place
use Rattle.fw_scan.proofs.RunFacts.{joins-none, quoted-more, quoted-pair}
use Rattle.fw_scan.proofs.place.quoted_len.Goals as goal

pub loop-at-init : goal.loop-at-init
loop-at-init c = (omega arith, joins-none place.InQuotes)

pub loop-at-preserved-then-text-at-ne34 : goal.loop-at-preserved-then-text-at-ne34
loop-at-preserved-then-text-at-ne34 c =
    (omega (arith, c.loop-at-test.true), quoted-more c.args.text.now c.loop-at.at c.loop-at-test.true c.if-text-at-ne34.true c.loop-at.invariant.1)

pub loop-at-preserved : goal.loop-at-preserved
loop-at-preserved c =
    (omega (arith, c.if-at-text.true), quoted-pair c.args.text.now c.loop-at.at c.if-at-text.true c.if-text-at-ne34.false c.if-text-at-eq34.true c.loop-at.invariant.1)
