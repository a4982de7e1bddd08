use Rattle.std.proofs.Common.{◌≡◌, ℕ, ◌++◌, ◌∷◌, [], length, List, All, ap, sym, subst, ◌∙◌, length-append, arith}
use Rattle.std.specs.Option.{option_to_list}
use Rattle.fw_group.specs.declared.answer.Answer.{Answer}
use Rattle.fw_group.specs.Answers.{AnswerIs}
use Rattle.fw_group.proofs.Answering.{all_answers, each_more, all_front, all_last}
use Rattle.fw_group.proofs.hand.answer_all.Goals as goal

pub returns : goal.returns
returns g c =
    let i = c.loop-place.invariant in
    all_answers g.F.Front.list c.args.hand.now c.args.outcome.now c.args.front.now c.loop-place.answers.items (omega (arith, i.left, i.made, c.loop-place-test.false, c.len-place-end.ensures)) i.each
