-- The orders of commitments and of pairs are orders.
use Rattle.std.specs.Cmp.{IsTotalOrder, IsStrictWeakOrder}
use Rattle.std.proofs.Common.{unwrap_or}
use Rattle.std.proofs.lemmas.Cmp.{nat_cmp_total, nat_list_cmp_total, on_total, then_total}
use Rattle.std.proofs.lemmas.List.Sorted.{ranks_by}
use Rattle.fw_cover.specs.Order.{kind_rank, compare_commitments, commitment_before}
use Rattle.fw_cover.specs.Ranked.{compare_ranked, ranked_before}
use Rattle.fw_cover.specs.declared.order.Placed.{Placed}
use Rattle.fw_cover.specs.PlacedView.{placed_of}

commitments_total : IsTotalOrder compare_commitments
unfolding compare_commitments
commitments_total =
    then_total (then_total (on_total (λ x. kind_rank x.1.terms) nat_cmp_total) (on_total (λ x. x.1.start) nat_cmp_total)) (on_total (λ x. x.1.id) nat_list_cmp_total)

pub placed_weak : IsStrictWeakOrder {X = Placed} (λ x y. commitment_before (placed_of x) (placed_of y))
placed_weak = ranks_by commitments_total placed_of

ranked_total : IsTotalOrder compare_ranked
unfolding compare_ranked
ranked_total = then_total (on_total (λ p. p.rank) nat_cmp_total) (on_total (λ p. unwrap_or p.pair.rate 0) nat_cmp_total)

pub ranked_weak : IsStrictWeakOrder ranked_before
ranked_weak = ranks_by ranked_total (λ p. p)
