-- That there are lines of each range of hours.
use Rattle.std.proofs.Common.{◌≡◌, ◌-◌, ◌<◌, ◌++◌, ◌∷◌, [], ℕ, List, All, Some, get_or, refl, slice_get, subst, sym}
use Rattle.std.proofs.lemmas.List.Elements.{All-cons, All-filter, All-head, All-map, All-nil, All-tail}
use Rattle.std.proofs.lemmas.Option.{get_or_from_slice_get, slice_get_within}
use Rattle.std.specs.List.{AllZip, flat_map, range_with_len}
use Rattle.fw_charge.specs.Charge.{Charge}
use Rattle.fw_cover.proofs.Within.{all_flat_map, commitments_in_order_places}
use Rattle.fw_cover.specs.Applies.{is_in_term}
use Rattle.fw_cover.specs.Hour.{hour_cover, takes_of, unused_of}
use Rattle.fw_cover.specs.Order.{commitments_in_order}
use Rattle.fw_amortise.proofs.Split.{weights_are_the_capacity}
use Rattle.fw_amortise.specs.LineValue.{LineValue}
use Rattle.fw_amortise.specs.Lines.{AreHourLines, AreLines, AreLinesAt, amount_in, given_lines, purchase_lines, rest_lines, rows_in, running, shared_lines, weights_of}
use Rattle.fw_entry.specs.Entry as entry
use Rattle.fw_entry.specs.Entry.CommandValue.{post, commit, set_policy, withdraw, add_purchase}
use Rattle.fw_entry.specs.Spelling.{IsCommand, IsEntry}
use Rattle.fw_snapshot.specs.History.{commitments_of, committed, committed_of, rows_of, with_added}
use Rattle.fw_terms.specs.Commitment.{CommitmentValue}
use Rattle.fw_query.proofs.ShareFacts.{shares_exist}
use Rattle.fw_query.specs.OfHistory.{AreLinesOf}
use Rattle.fw_sums.specs.RangeLines.{joined}

-- one item for each
each_has : {A B : Type 0} (R : A → B → Type 0) (Q : A → Type 0) → ((x : A) → Q x → (y : B) × R x y) → (xs : List A) → All Q xs → (ys : List B) × AllZip R xs ys
each_has R Q some [] all = ([], tt)
each_has R Q some (x ∷ xs) all =
    let first = some x (All-head Q x xs all) in
    let rest = each_has R Q some xs (All-tail Q x xs all) in
    (first.0 ∷ rest.0, (first.1, rest.1))

-- ---- the commitments of a history have some capacity, whatever purchases are added to them
abbrev HasCapacity : CommitmentValue → Type 0
HasCapacity c = 0 < c.capacity

command_has : (c : entry.CommandValue) → IsCommand c → All HasCapacity (committed c)
command_has (post rows) known = All-nil HasCapacity
command_has (commit c) known = All-cons HasCapacity c [] known.limits.capacity_some (All-nil HasCapacity)
command_has (set_policy p) known = All-nil HasCapacity
command_has (withdraw n) known = All-nil HasCapacity
command_has (add_purchase a) known = All-nil HasCapacity

committed_have : (history : List entry.EntryValue) → All IsEntry history → All HasCapacity (committed_of history)
unfolding committed_of
committed_have history each =
    all_flat_map HasCapacity (λ (e : entry.EntryValue). committed e.command) history (λ k d l. command_has (get_or history k d).command (each k d l).command)

commitments_have : (history : List entry.EntryValue) → All IsEntry history → All HasCapacity (commitments_of history)
unfolding commitments_of
commitments_have history each = All-map HasCapacity (with_added history) (committed_of history) (committed_have history each)

-- ---- an hour
-- a commitment has some capacity, so the weights by which its amount is shared aren't all 0
commitment_lines : (cs : List CommitmentValue) (rows : List Charge) (hour : ℕ) → All HasCapacity cs → (c : ℕ × CommitmentValue) → slice_get cs c.0 ≡ Some c.1
    → (lines : List LineValue) × AreLinesAt cs rows (hour_cover cs rows hour) hour c lines
commitment_lines cs rows hour keep c there =
    let has : HasCapacity c.1 = subst HasCapacity (get_or_from_slice_get cs c.0 c.1 c.1 there) (keep c.0 c.1 (slice_get_within cs c.0 c.1 there)) in
    let takes = takes_of c.0 (hour_cover cs rows hour) in
    let shares =
    shares_exist (amount_in c.1 hour) (weights_of takes (unused_of cs (hour_cover cs rows hour) c.0))
    (subst (λ (n : ℕ). 0 < n) (sym (weights_are_the_capacity cs rows hour c.0 c.1 there)) has) in
    (shared_lines hour c.1 rows takes shares.0, record { shares = shares.0; are_shares = shares.1; are_lines = refl })

running_there : (cs : List CommitmentValue) (hour : ℕ) → All (λ c. slice_get cs c.0 ≡ Some c.1) (running cs hour)
unfolding running
running_there cs hour = All-filter (λ c. is_in_term c.1 hour) (λ c. slice_get cs c.0 ≡ Some c.1) (commitments_in_order cs) (commitments_in_order_places cs)

hour_lines : (cs : List CommitmentValue) (rows : List Charge) (hour : ℕ) → All HasCapacity cs → (lines : List LineValue) × AreHourLines cs rows hour lines
hour_lines cs rows hour keep =
    let shared =
    each_has (AreLinesAt cs rows (hour_cover cs rows hour) hour) (λ c. slice_get cs c.0 ≡ Some c.1) (commitment_lines cs rows hour keep) (running cs hour) (running_there cs hour) in (
      purchase_lines cs hour ++ given_lines rows hour ++ flat_map (λ ls. ls) shared.0 ++ rest_lines rows (hour_cover cs rows hour) hour,
      record { shared = shared.0; are_shared = shared.1; are_lines = refl },
    )

lines_in : (cs : List CommitmentValue) (rows : List Charge) (hour : ℕ) → All HasCapacity cs → (lines : List LineValue) × AreLines cs rows hour lines
unfolding AreLines
lines_in cs rows hour keep = hour_lines cs (rows_in hour rows) hour keep

-- ---- a range
hours_have : (cs : List CommitmentValue) (rows : List Charge) → All HasCapacity cs → (hours : List ℕ) → (hourly : List (List LineValue)) × AllZip (AreLines cs rows) hours hourly
hours_have cs rows keep [] = ([], tt)
hours_have cs rows keep (hour ∷ hours) =
    let first = lines_in cs rows hour keep in
    let rest = hours_have cs rows keep hours in
    (first.0 ∷ rest.0, (first.1, rest.1))

pub lines_exist : (history : List entry.EntryValue) (from to : ℕ) → All IsEntry history → (lines : List LineValue) × AreLinesOf history from to lines
lines_exist history from to each =
    let hourly = hours_have (commitments_of history) (rows_of history) (commitments_have history each) (range_with_len from (to - from)) in
    (joined hourly.0, record { hourly = hourly.0; are_hourly = hourly.1; lines_are = refl })
