-- What some purchases cost together.
use Rattle.std.proofs.Common.{◌≡◌, ◌+◌, ◌<◌, ℕ, List, [], length, take, get_or, refl}
use Rattle.std.proofs.lemmas.List.Sums.{sum_by_more}
use Rattle.fw_terms.specs.Commitment.{PurchaseValue, cost_of}

-- no purchase costs nothing
pub cost-none : cost_of [] ≡ 0
unfolding cost_of
cost-none = refl

-- one purchase more
pub cost_more : (ps : List PurchaseValue) (i : ℕ) (d : PurchaseValue) → i < length ps → cost_of (take (i + 1) ps) ≡ cost_of (take i ps) + (get_or ps i d).billed
unfolding cost_of
cost_more ps i d lt = sum_by_more (λ p. p.billed) ps i d lt
