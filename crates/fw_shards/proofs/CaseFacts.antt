-- Cases of shards: whole hours, and a range that is cut at an hour.
use Rattle.std.proofs.Common.{◌≡◌, ◌∙◌, ℕ, ◌+◌, ◌<◌, ◌≤◌, ◌==◌, ◌&&◌, Bool, true, false, cond, nat_le, nat_lt, List, [], ◌∷◌, All, map, filter, refl, sym, ap, subst, arith}
use Rattle.std.specs.List.{enumerate_from}
use Rattle.std.proofs.lemmas.Bool.Decides.{nat_tests}
use Rattle.std.proofs.lemmas.List.Elements.{All-cons, All-nil}
use Rattle.fw_charge.specs.Charge.{Charge}
use Rattle.fw_cover.proofs.ByCommitment.{filter_every}
use Rattle.fw_entry.specs.Entry.{EntryValue}
use Rattle.fw_shards.specs.Asked.{AreShardsOf, AskedValue, HoldHours, HoldsHour, IsAskedWithin, asked_for}
use Rattle.fw_shards.specs.Dealt.{AreDealt, IsDealt, charges_in, commitments_in, dealt_to}
use Rattle.fw_shards.proofs.LineFacts.{items_of}
use Rattle.fw_shards.proofs.ListFacts.{two_ways}
use Rattle.fw_sums.specs.Hours.{has_line}
use Rattle.fw_terms.specs.Commitment.{CommitmentValue}

-- ---- all items are dealt to one shard
all_to_one : {X : Type 0} (xs : List X) → dealt_to (λ place. 0) xs 0 ≡ xs
unfolding dealt_to
all_to_one {X} xs = ap (map (λ (x : ℕ × X). x.1)) (filter_every (λ (x : ℕ × X). 0 == 0) (enumerate_from 0 xs) (λ k d lt. refl)) ∙ items_of 0 xs

one_dealt : {X : Type 0} (xs ys : List X) → ys ≡ xs → AreDealt (λ place. 0) xs (ys ∷ [])
one_dealt xs ys same = record { each = λ place lt. omega arith; shards_are = ap (λ l. l ∷ []) (same ∙ sym (all_to_one xs)) }

hour_dealt : (hour : ℕ) (whole shard : List EntryValue) → HoldsHour whole hour shard → IsDealt hour whole (shard ∷ [])
hour_dealt hour whole shard holds = record {
  owner = λ place. 0;
  row_owner = λ place. 0;
  commitments = one_dealt (commitments_in hour whole) (commitments_in hour shard) (ap (λ (cs : List CommitmentValue). filter (has_line hour) cs) holds.commitments);
  rows = one_dealt (charges_in hour whole) (charges_in hour shard) holds.rows;
  apart = λ place row meets. refl;
}

pub hours_are_shards : (whole : List EntryValue) (from to : ℕ) (asked : List AskedValue) → HoldHours whole from to asked → AreShardsOf whole from to asked
hours_are_shards whole from to asked hold = record {
  within = hold.within;
  dealt = λ hour low high.
      let one = hold.one hour low high in
      subst (λ (shards : List (List EntryValue)). IsDealt hour whole shards) (sym one.1) (hour_dealt hour whole one.0 one.2);
}

-- ---- one warehouse, asked for two ranges of hours
is_early : (from mid to hour : ℕ) → from ≤ hour → hour < mid → ((nat_le from hour && nat_lt hour mid) ≡ true) × ((nat_le mid hour && nat_lt hour to) ≡ false)
is_early from mid to hour low less = (grind (arith, nat_tests), grind (arith, nat_tests))

is_late : (from mid to hour : ℕ) → hour < to → mid ≤ hour → ((nat_le from hour && nat_lt hour mid) ≡ false) × ((nat_le mid hour && nat_lt hour to) ≡ true)
is_late from mid to hour high more = (grind (arith, nat_tests), grind (arith, nat_tests))

pub cut_holds : (history : List EntryValue) (from mid to : ℕ) → from ≤ mid → mid ≤ to
    → HoldHours history from to (record { history = history; from = from; to = mid } ∷ (record { history = history; from = mid; to = to } ∷ []))
cut_holds history from mid to low high =
    let first : AskedValue = record { history = history; from = from; to = mid } in
    let second : AskedValue = record { history = history; from = mid; to = to } in
    record {
      within = All-cons (IsAskedWithin from to) first (second ∷ []) (record { since = omega arith; until = high })
          (All-cons (IsAskedWithin from to) second [] (record { since = low; until = omega arith }) (All-nil (IsAskedWithin from to)));
      one = λ hour since until. (history, chosen hour since until, record { commitments = refl; rows = refl });
    }
  where
    pick : Bool → Bool → List (List EntryValue)
    pick a b = map (λ (x : AskedValue). x.history)
        (cond a (record { history = history; from = from; to = mid } ∷ cond b (record { history = history; from = mid; to = to } ∷ []) []) (cond b (record { history = history; from = mid; to = to } ∷ []) []))

    chosen : (hour : ℕ) → from ≤ hour → hour < to → asked_for hour (record { history = history; from = from; to = mid } ∷ (record { history = history; from = mid; to = to } ∷ [])) ≡ history ∷ []
    chosen hour since until = two_ways (nat_lt hour mid)
        (λ early. let is = is_early from mid to hour since (grind (arith, nat_tests)) in λ j. pick (is.0 j) (is.1 j))
        (λ late. let is = is_late from mid to hour until (grind (arith, nat_tests)) in λ j. pick (is.0 j) (is.1 j))
