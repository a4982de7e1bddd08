use Rattle.std.proofs.Common.{◌+◌, ◌<◌, length, arith}
use Rattle.fw_cut.proofs.RunFacts.{passed-one}
use Rattle.fw_cut.proofs.place.blocks_end.Goals as goal

pub loop-last-init : goal.loop-last-init
loop-last-init c =
    let more : c.args.from + 1 < length c.args.text.now = omega (arith, c.if-text-from-lt2.false) in
    (omega arith, more, passed-one c.args.text.now c.args.from (omega (arith, more)) c.if-text-from-eq-QUOTE.false c.requires.goes)
