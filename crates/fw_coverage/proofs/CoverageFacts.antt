-- What holds of every coverage.
use Rattle.std.proofs.Common.{◌≡◌, ◌∙◌, ℕ, ◌+◌, ◌-◌, ◌≤◌, Bool, true, false, ◌&&◌, ℤ, pos, ◌+ℤ◌, List, [], ◌∷◌, All, filter, length, map, nat_lt, Option, Some, None, refl, sym, ap, arith}
use Rattle.std.specs.Prelude.{if◌then◌else◌, slice_get, slice_index}
use Rattle.std.specs.List.{enumerate_from, range_with_len}
use Rattle.std.specs.Str.{bytes_eq}
use Rattle.std.proofs.lemmas.Int.{ints}
use Rattle.std.proofs.lemmas.List.{get_or-map}
use Rattle.std.proofs.lemmas.List.Elements.{filter-append}
use Rattle.std.proofs.lemmas.Option.{get_or_from_slice_get, slice_get_within}
use Rattle.fw_charge.specs.Charge.{Charge, DiscountText}
use Rattle.fw_charge.specs.Codes.{status_word}
use Rattle.fw_charge.specs.declared.discount.DiscountStatus.{DiscountStatus}
use Rattle.fw_charge.specs.declared.discount.DiscountStatus.TheVariants as status
use Rattle.fw_terms.specs.Commitment.{CommitmentValue, cost_of}
use Rattle.fw_cover.specs.Hour.{capacities_of}
use Rattle.fw_amortise.specs.Carrying.{cost_of_all}
use Rattle.fw_amortise.specs.LineValue.{LineValue}
use Rattle.fw_entry.specs.Entry as entry
use Rattle.fw_entry.specs.Spelling.{IsEntry}
use Rattle.fw_snapshot.specs.History.{commitments_of, rows_of}
use Rattle.fw_snapshot.specs.Judging.{IsLegal}
use Rattle.fw_query.specs.Carried.{amount_between, cost_between, shows_share_of}
use Rattle.fw_coverage.specs.Coverage.{CoverageValue, IsCoverage, coverage_of, is_shown, paid_cost, shows_status, unused_cost, used_cost}
use Rattle.fw_query.specs.OfHistory.{AreLinesOf}
use Rattle.fw_query.specs.Texts.{id_text, or_empty, status_text}
use Rattle.fw_query.proofs.BoughtFacts.{bought_between}
use Rattle.fw_query.proofs.CarriedFacts.{carried_between, carried_term, cost_append}
use Rattle.fw_coverage.proofs.LineSumFacts.{cost_alone}
use Rattle.fw_coverage.proofs.TallyFacts.{used_rest}
use Rattle.fw_query.proofs.OneAnswer.{lines_of_same}

-- a line with the id and a status is a Used one or an Unused one
by_status : (same : Bool) (o : Option DiscountStatus) (e : ℤ)
    → (if same && nat_lt 0 (length (or_empty status_word o)) then e else pos 0) ≡ (if same && bytes_eq (or_empty status_word o) (status_word status.Used) then e else pos 0) +ℤ (if same && bytes_eq (or_empty status_word o) (status_word status.Unused) then e else pos 0)
unfolding status_word
by_status false o e = refl
by_status true None e = refl
by_status true (Some status.Used) e = omega (arith, ints)
by_status true (Some status.Unused) e = omega (arith, ints)

by_discount : (same : Bool) (o : Option DiscountText) (e : ℤ)
    → (if same && nat_lt 0 (length (status_text o)) then e else pos 0) ≡ (if same && bytes_eq (status_text o) (status_word status.Used) then e else pos 0) +ℤ (if same && bytes_eq (status_text o) (status_word status.Unused) then e else pos 0)
by_discount same None e = by_status same None e
by_discount same (Some d) e = by_status same d.status e

cost_first : (p : LineValue → Bool) (x : LineValue) (xs : List LineValue) → cost_of_all (filter p (x ∷ xs)) ≡ (if p x then x.effective else pos 0) +ℤ cost_of_all (filter p xs)
cost_first p x xs =
    ap cost_of_all (filter-append p (x ∷ []) xs) ∙ cost_append (filter p (x ∷ [])) (filter p xs) ∙ ap (λ z. z +ℤ cost_of_all (filter p xs)) (cost_alone x (p x) p refl)

both_statuses : (id : List ℕ) (lines : List LineValue) → used_cost id lines +ℤ unused_cost id lines ≡ cost_of_all (filter (shows_share_of id) lines)
unfolding used_cost unused_cost shows_share_of shows_status cost_of_all
both_statuses id [] = refl
both_statuses id (line ∷ lines) =
    let share = cost_first (shows_share_of id) line lines in
    let used = cost_first (shows_status status.Used id) line lines in
    let unused = cost_first (shows_status status.Unused id) line lines in
    let here = by_discount (bytes_eq (id_text line.commitment) id) line.commitment line.effective in
    let rest = both_statuses id lines in
    omega (arith, ints, share, used, unused, here, rest)

pub capacity_adds_up : (cs : List CommitmentValue) (rows : List Charge) (lines : List LineValue) (from to place : ℕ) (c : CommitmentValue) → slice_get cs place ≡ Some c
    → (coverage_of cs rows lines from to (place, c)).used + (coverage_of cs rows lines from to (place, c)).unused ≡ (coverage_of cs rows lines from to (place, c)).capacity
unfolding coverage_of
capacity_adds_up cs rows lines from to place c at =
    let whole : slice_index (capacities_of cs) place ≡ c.capacity =
    get_or-map (λ (d : CommitmentValue). d.capacity) cs place c 0 (slice_get_within cs place c at) ∙ ap (λ (d : CommitmentValue). d.capacity) (get_or_from_slice_get cs place c c at) in
    used_rest cs rows place c whole (range_with_len from (to - from))

pub costs_of_hours : (history : List entry.EntryValue) (from to : ℕ) (lines : List LineValue) (place : ℕ) (c : CommitmentValue) → IsLegal history → AreLinesOf history from to lines → slice_get (commitments_of history) place ≡ Some c
    → used_cost c.id lines +ℤ unused_cost c.id lines ≡ pos (amount_between c from to)
costs_of_hours history from to lines place c legal are at = both_statuses c.id lines ∙ carried_between history from to lines place c legal are at

pub costs_of_term : (history : List entry.EntryValue) (from to : ℕ) (lines : List LineValue) (place : ℕ) (c : CommitmentValue) → IsLegal history → All IsEntry history → AreLinesOf history from to lines → slice_get (commitments_of history) place ≡ Some c
    → from ≤ c.start → c.start + c.hours ≤ to → used_cost c.id lines +ℤ unused_cost c.id lines ≡ pos (cost_of c.purchases)
costs_of_term history from to lines place c legal each are at early late = both_statuses c.id lines ∙ carried_term history from to lines place c legal each are at early late

pub paid_between : (history : List entry.EntryValue) (from to : ℕ) (lines : List LineValue) (place : ℕ) (c : CommitmentValue) → IsLegal history → All IsEntry history → from ≤ to → AreLinesOf history from to lines → slice_get (commitments_of history) place ≡ Some c
    → paid_cost c.id lines ≡ pos (cost_between c from to)
unfolding paid_cost
paid_between history from to lines place c legal each some are at = bought_between history from to lines place c legal each some are at

pub one_coverage : (history : List entry.EntryValue) (from to : ℕ) (a b : List CoverageValue) → IsCoverage (commitments_of history) (rows_of history) from to a → IsCoverage (commitments_of history) (rows_of history) from to b → a ≡ b
one_coverage history from to a b p q =
    let cs : List CommitmentValue = commitments_of history in
    let rows : List Charge = rows_of history in
    let same : p.lines ≡ q.lines = lines_of_same history from to p.lines q.lines p.are_lines q.are_lines in
    p.coverage_is ∙ ap (λ lines. map (coverage_of cs rows lines from to) (filter (is_shown lines) (enumerate_from 0 cs))) same ∙ sym q.coverage_is
