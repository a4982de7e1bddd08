use Rattle.std.proofs.Common.{◌≡◌, ◌*◌, ◌%◌, ◌==◌, length, nat_lt, arith, refl, sum, sym, subst, ◌∙◌, ap, List, ℕ}
use Rattle.std.proofs.lemmas.List.{length-map}
use Rattle.std.specs.List.Sorted.{IsNonDecreasing}
use Rattle.std.proofs.lemmas.List.Sorted.{IsNonDecreasingBy-from_sort}
use Rattle.std.proofs.lemmas.Result.{IfOk-weaker}
use Rattle.fw_shares.proofs.Dealing.{floors_le, given_is, extra_below, shares_from_dealt, counts_in_order}
use Rattle.fw_shares.proofs.hamilton.share_counts.Goals as goal

pub sum_of-given-requires : goal.sum_of-given-requires
sum_of-given-requires c =
    let floors = given_is c.args.total c.sum_of-whole.result c.args.weights.now c.in_ok-floors.floors.items c.deref-2.result.now (sum c.deref-2.result.now) refl c.deref-2.ensures.value c.in_ok-floors.ensures in
    let most = floors_le c.args.total c.sum_of-whole.result c.args.weights.now c.sum_of-whole.ensures (rw c.sum_of-whole.ensures c.requires.positive) in
    omega (arith, floors, most, c.requires.total)

pub overflow_sub-total : goal.overflow_sub-total
overflow_sub-total c = rw (given_is c.args.total c.sum_of-whole.result c.args.weights.now c.in_ok-floors.floors.items c.deref-2.result.now c.sum_of-given.result c.sum_of-given.ensures c.deref-2.ensures.value c.in_ok-floors.ensures) (floors_le c.args.total c.sum_of-whole.result c.args.weights.now c.sum_of-whole.ensures (rw c.sum_of-whole.ensures c.requires.positive))

pub cut_for-cut-requires-clause-sorted : goal.cut_for-cut-requires-clause-sorted
cut_for-cut-requires-clause-sorted c =
    let P : List ℕ → Type 0 = IsNonDecreasing in
    subst P (sym c.deref-3.ensures.value) (IsNonDecreasingBy-from_sort (λ x. x) _ c.sort_unstable.ensures.sorted)

pub cut_for-cut-requires-clause-extra : goal.cut_for-cut-requires-clause-extra
cut_for-cut-requires-clause-extra c =
    let below = extra_below c.args.total c.sum_of-whole.result c.args.weights.now c.sum_of-whole.ensures (rw c.sum_of-whole.ensures c.requires.positive) in
    let long : length c.in_ok-sorted.sorted.items ≡ length c.args.weights.now = ap length c.in_ok-sorted.ensures ∙ length-map _ _ in
    omega (arith, below, long, (given_is c.args.total c.sum_of-whole.result c.args.weights.now c.in_ok-floors.floors.items c.deref-2.result.now c.sum_of-given.result c.sum_of-given.ensures c.deref-2.ensures.value c.in_ok-floors.ensures), c.deref-3.ensures.len, c.sort_unstable.ensures.len)

pub deal-requires-clause-ties : goal.deal-requires-clause-ties
deal-requires-clause-ties c =
    let tied = counts_in_order (λ r. r == c.cut_for-cut.result.at) (λ w. c.args.total * w % c.sum_of-whole.result) c.args.weights.now c.in_ok-sorted.sorted.items c.sort_unstable.new.self.items c.deref-3.result.now c.in_ok-sorted.ensures c.sort_unstable.ensures.permutation c.deref-3.ensures.value in
    omega (arith, tied, c.cut_for-cut.ensures.ties)

pub returns : goal.returns
returns c =
    let aboves = counts_in_order (λ r. nat_lt c.cut_for-cut.result.at r) (λ w. c.args.total * w % c.sum_of-whole.result) c.args.weights.now c.in_ok-sorted.sorted.items c.sort_unstable.new.self.items c.deref-3.result.now c.in_ok-sorted.ensures c.sort_unstable.ensures.permutation c.deref-3.ensures.value in
    let floors = floors_le c.args.total c.sum_of-whole.result c.args.weights.now c.sum_of-whole.ensures (rw c.sum_of-whole.ensures c.requires.positive) in
    IfOk-weaker c.deal.result _ _
    (λ v d. shares_from_dealt c.args.total c.sum_of-whole.result c.args.weights.now c.cut_for-cut.result v.items c.sum_of-whole.ensures
    (omega (arith, aboves, floors, c.cut_for-cut.ensures.all, (given_is c.args.total c.sum_of-whole.result c.args.weights.now c.in_ok-floors.floors.items c.deref-2.result.now c.sum_of-given.result c.sum_of-given.ensures c.deref-2.ensures.value c.in_ok-floors.ensures))) d)
    c.deal.ensures
