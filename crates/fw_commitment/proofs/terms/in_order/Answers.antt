use Rattle.std.proofs.Common.{◌≡◌, ◌++◌, ◌∷◌, [], ◌≤◌, length, refl, sym, ap, ◌∙◌, arith, subst, append_assoc, append-nil}
use Rattle.std.proofs.lemmas.Grind.{common_steps}
use Rattle.fw_commitment.proofs.OrderFacts.{Ordered, ordered-none, shown, step-twice, step-more, step-all}
use Rattle.fw_commitment.proofs.terms.in_order.Goals as goal

pub loop-text-init : goal.loop-text-init
loop-text-init c = subst (λ ks. Ordered [] (shown ks)) (sym c.new-set.ensures.empty) ordered-none

pub returns-then-not-branch : goal.returns-then-not-branch
returns-then-not-branch c =
    step-twice c.args.texts.now c.loop-text.set.keys c.loop-text.text-index _ c.in_ok-insert.field-0 c.loop-text-test.true c.loop-text.invariant c.in_ok-insert.ensures.added c.if-not-branch.true

pub loop-text-preserved : goal.loop-text-preserved
loop-text-preserved c =
    step-more c.args.texts.now c.loop-text.set.keys c.insert.new.self.keys c.loop-text.text-index _ c.in_ok-insert.field-0 c.loop-text-test.true c.loop-text.invariant c.in_ok-insert.ensures.added c.if-not-branch.false
    c.in_ok-insert.ensures.keys

pub loop-text-2-init : goal.loop-text-2-init
loop-text-2-init c = (tt, tt, rw c.in_ok-ordered.ensures.items refl)

pub loop-text-2-preserved : goal.loop-text-2-preserved
loop-text-2-preserved c =
    let next : c.loop-text-2.text-iterator ≡ c.in-Some.text.now ∷ c.next.new.self = grind (arith, common_steps) in (
      tt,
      tt,
      c.loop-text-2.invariant.2 ∙ (ap (λ t. c.loop-text-2.ordered.items ++ t) next
          ∙ (sym (append_assoc c.loop-text-2.ordered.items (c.in-Some.text.now ∷ []) c.next.new.self) ∙ ap (λ t. t ++ c.next.new.self) (sym c.in_ok-push.ensures.items))),
    )

pub returns : goal.returns
returns c =
    let none : c.loop-text-2.text-iterator ≡ [] = grind (arith, common_steps) in
    let all = c.loop-text-2.invariant.2 ∙ (ap (λ t. c.loop-text-2.ordered.items ++ t) none ∙ append-nil c.loop-text-2.ordered.items) in
    let start = c.into_iter-text-iterator.ensures.into_iter_gives ∙ c.iter-text-items.ensures.rest in
    let past : length c.args.texts.now ≤ c.loop-text.text-index = let end = c.loop-text-test.false in omega arith in
    step-all c.args.texts.now c.loop-text.set.keys c.loop-text-2.ordered.items c.loop-text.text-index past c.loop-text.invariant c.iter-text-items.ensures.ordered (sym start ∙ all)
