use Rattle.std.proofs.Common.{◌≡◌, ◌+◌, ◌<◌, All, length, take, arith}
use Rattle.std.proofs.lemmas.List.Elements.{All-more}
use Rattle.fw_cut.specs.Places.{IsPlain}
use Rattle.fw_cut.proofs.RunFacts.{up-to-more}
use Rattle.fw_cut.proofs.place.plain_in_block.Goals.{then-is_plain, else-is_plain}
use Rattle.fw_cut.proofs.place.plain_in_block.Goals as goal

pub loop-index-preserved : goal.loop-index-preserved
loop-index-preserved c =
    let text = c.args.text.now in
    let index = c.loop-index.index in
    let within : c.args.at + index < length text = omega (arith, c.loop-index-test.true, c.requires.within) in
    up-to-more (λ n. All IsPlain (take (c.args.at + n) text)) c.loop-index.len index c.if-is_plain.min c.min-len.result c.min-len.ensures c.loop-index.invariant.0 c.loop-index.invariant.1
    (λ lt so. elim c.if-is_plain.branch [
      | then-is_plain w ↦
          let is = rw c.from.ensures at (c.is_plain-is_plain.ensures w.if-is_plain.true) in
          let count : c.args.at + (index + 1) ≡ c.args.at + index + 1 = omega arith in
          rw count (All-more IsPlain text (c.args.at + index) 0 within so is)
      | else-is_plain w ↦ absurd (omega (arith, lt, w.min-is))
    ])
