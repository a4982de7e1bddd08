use Rattle.std.proofs.Common.{◌≡◌, ◌++◌, ◌∷◌, [], List, ap, ◌∙◌, sym, arith}
use Rattle.fw_group.specs.declared.answer.Answer.{Answer}
use Rattle.fw_group.specs.declared.answer.Answer.TheVariants.{Closed}
use Rattle.fw_group.proofs.Answering.{one_more_alike}
use Rattle.fw_group.proofs.run.close_all.Goals as goal

pub loop-preserved : goal.loop-preserved
loop-preserved g c =
    let was = c.loop.invariant in (
      omega (arith, c.push_reserved.ensures.len, was.0),
      omega (arith, c.push_reserved.ensures.capacity, was.1),
      c.push_reserved.ensures.items
          ∙ (λ j. was.2 j ++ c.refusal.ensures j ∷ [])
          ∙ sym (one_more_alike Closed c.args.hand.now c.loop.counter (omega (arith, c.loop-test.true, c.len-end.ensures))),
    )
