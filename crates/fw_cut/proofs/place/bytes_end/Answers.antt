use Rattle.std.proofs.Common.{◌<◌, length, arith}
use Rattle.fw_cut.proofs.RunFacts.{quoted-more, quoted-pair}
use Rattle.fw_cut.proofs.place.bytes_end.Goals as goal

pub loop-at-preserved-then-text-at-ne-QUOTE : goal.loop-at-preserved-then-text-at-ne-QUOTE
loop-at-preserved-then-text-at-ne-QUOTE c =
    let within : c.loop-at.at < length c.args.text.now = omega (arith, c.loop-at-test.true, c.min-end.ensures) in
    (omega (arith, c.loop-at.invariant.0), omega (arith, within), quoted-more c.args.text.now c.loop-at.at within c.if-text-at-ne-QUOTE.true c.loop-at.invariant.2)

pub loop-at-preserved : goal.loop-at-preserved
loop-at-preserved c = (
  omega (arith, c.loop-at.invariant.0),
  omega (arith, c.if-at-text.true),
  quoted-pair c.args.text.now c.loop-at.at c.if-at-text.true c.if-text-at-ne-QUOTE.false c.if-text-at-eq-QUOTE.true c.loop-at.invariant.2,
)
