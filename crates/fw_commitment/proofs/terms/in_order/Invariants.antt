use Rattle.std.proofs.Common.{◌≡◌, ◌++◌, take, map}
use Rattle.fw_commitment.proofs.OrderFacts.{Ordered}
use Rattle.fw_commitment.proofs.terms.in_order.Given as goal

abbrev pub invariant-loop-text : goal.invariant-loop-text
invariant-loop-text l = Ordered (map (λ t. t.now) (take l.text-index l.texts)) (map (λ t. t.now) l.set.keys)

abbrev pub invariant-loop-text-2 : goal.invariant-loop-text-2
invariant-loop-text-2 l =
    (goal.iterator-loop-text-2).can_next l.text-iterator ×
    (goal.iterator-loop-text-2).is_finite l.text-iterator ×
    (l.initial.text-iterator ≡ l.ordered.items ++ l.text-iterator)
