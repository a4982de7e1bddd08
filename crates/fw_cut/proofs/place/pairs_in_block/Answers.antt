use Rattle.std.proofs.Common.{◌≡◌, ◌+◌, arith}
use Rattle.fw_cut.specs.Places.{IsPassed}
use Rattle.fw_cut.proofs.RunFacts.{passed-more, up-to-more}
use Rattle.fw_cut.proofs.place.pairs_in_block.Goals.{then-has_other, else-has_other}
use Rattle.fw_cut.proofs.place.pairs_in_block.Goals as goal

pub loop-index-preserved : goal.loop-index-preserved
loop-index-preserved c =
    let text = c.args.text.now in
    let at = c.args.last + c.loop-index.index in
    up-to-more (λ n. IsPassed text (c.args.last + n)) c.loop-index.len c.loop-index.index c.if-has_other.min c.min-len.result c.min-len.ensures c.loop-index.invariant.0 c.loop-index.invariant.1
    (λ lt so. elim c.if-has_other.branch [
      | then-has_other w ↦ absurd (omega (arith, lt, w.min-is))
      | else-has_other w ↦
          let one = rw c.from.ensures at w.if-has_other.false in
          let count : c.args.last + (c.loop-index.index + 1) ≡ at + 1 = omega arith in
          let two : at + 2 ≡ at + 1 + 1 = omega arith in
          rw count (passed-more text at (at + 2) two (omega (arith, c.loop-index-test.true, c.requires.within)) one so)
    ])
