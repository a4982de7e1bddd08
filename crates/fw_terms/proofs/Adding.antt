-- A commitment with one purchase more keeps its limits, and costs as much more as was paid.
use Rattle.std.proofs.Common.{◌≡◌, ◌+◌, ◌<◌, ◌≤◌, true, List, [], ◌∷◌, ◌++◌, length, arith, length-append}
use Rattle.std.specs.Prelude.{nat_lt, nat_le}
use Rattle.std.proofs.lemmas.Bool.{and_parts, ltb-true, leb-true}
use Rattle.std.proofs.lemmas.List.Elements.{All-push}
use Rattle.std.proofs.lemmas.List.Sums.{sum_by_push}
use Rattle.fw_money.specs.Amount.{most_nanos}
use Rattle.fw_charge.specs.Charge.{last_second}
use Rattle.fw_terms.specs.Commitment.{PurchaseValue, CommitmentValue, ArePurchases, IsCommitment, cost_of, most_purchases, takes_purchase, with_purchase}

pub cost_push : (ps : List PurchaseValue) (p : PurchaseValue) → cost_of (ps ++ p ∷ []) ≡ cost_of ps + p.billed
unfolding cost_of
cost_push ps p = sum_by_push (λ q. q.billed) ps p

pub record HasRoom (ps : List PurchaseValue) (p : PurchaseValue) : Type 0 where
  pub few : length ps < most_purchases
  pub cost : cost_of ps + p.billed ≤ most_nanos

pub has_room : (c : CommitmentValue) (p : PurchaseValue) → takes_purchase c p ≡ true → HasRoom c.purchases p
has_room c p e =
    let both = and_parts (nat_lt (length c.purchases) most_purchases) (nat_le (cost_of c.purchases + p.billed) most_nanos) e in
    record { few = ltb-true _ _ both.0; cost = leb-true _ _ both.1 }

more_purchases : (ps : List PurchaseValue) (p : PurchaseValue) → ArePurchases ps → HasRoom ps p → p.at ≤ last_second → ArePurchases (ps ++ p ∷ [])
more_purchases ps p are room dated =
    let few = room.few in
    let cost = room.cost in
    record {
      some = omega (arith, length-append ps (p ∷ []));
      few = omega (arith, length-append ps (p ∷ []));
      dated = All-push (λ (q : PurchaseValue). q.at ≤ last_second) ps p are.dated dated;
      cost = omega (arith, cost_push ps p);
    }

pub purchase_kept : (c : CommitmentValue) (p : PurchaseValue) → IsCommitment c → takes_purchase c p ≡ true → p.at ≤ last_second → IsCommitment (with_purchase c p)
purchase_kept c p is takes dated = record {
  id = is.id;
  terms = is.terms;
  sub_account = is.sub_account;
  tags = is.tags;
  start = is.start;
  hours_some = is.hours_some;
  hours_most = is.hours_most;
  capacity_some = is.capacity_some;
  capacity_most = is.capacity_most;
  purchases = more_purchases c.purchases p is.purchases (has_room c p takes) dated;
}
