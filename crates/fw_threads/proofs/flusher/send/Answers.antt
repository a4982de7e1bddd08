use Rattle.std.proofs.Common.{◌≡◌, List, [], ◌∷◌, ◌++◌, length, Option, Some, length-append, ap, sym, subst, ◌∙◌, arith}
use Rattle.std.specs.Prelude.{slice_get}
use Rattle.std.specs.Option.{option_to_list}
use Rattle.fw_snapshot.specs.History.{History}
use Rattle.fw_group.specs.declared.answer.Answer.{Answer}
use Rattle.fw_threads.proofs.Right.{stands_on}
use Rattle.fw_threads.proofs.flusher.send.Goals as goal

pub loop-preserved : goal.loop-preserved
loop-preserved g c =
    let i = c.loop.invariant in
    let left = c.pop.new.self.items in
    let last = c.unwrap-answer.result in
    let had : c.loop.answers.items ≡ left ++ last ∷ [] = c.pop.ensures.items ∙ ap (λ (o : Option (Answer History)). left ++ option_to_list o) c.unwrap-answer.ensures in
    record {
      left = omega (arith, i.left, ap length had, length-append left (last ∷ []));
      right = λ k a at. i.right k a (subst (λ (l : List (Answer History)). slice_get l k ≡ Some a) (sym had) (stands_on left (last ∷ []) k a at));
    }
