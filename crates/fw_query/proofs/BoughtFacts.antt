-- What the lines of a commitment's purchases are billed.
use Rattle.std.proofs.Common.{◌≡◌, ◌∙◌, ℕ, zero, suc, ◌+◌, ◌-◌, ◌≤◌, ◌<◌, ◌==◌, Bool, true, false, ◌&&◌, nat_le, nat_lt, pos, ◌+ℤ◌, List, [], ◌∷◌, ◌++◌, length, get_or, filter, map, sum_by, All, Option, Some, None, refl, sym, ap, subst, arith}
use Rattle.std.specs.Prelude.{slice_get}
use Rattle.std.specs.List.{AllZip, range_with_len}
use Rattle.std.specs.Str.{bytes_eq}
use Rattle.std.proofs.lemmas.Bool.{eqb-true, eqb-false}
use Rattle.std.proofs.lemmas.Bool.Decides.{nat_tests}
use Rattle.std.proofs.lemmas.Int.{ints}
use Rattle.std.proofs.lemmas.List.Elements.{All-filter, All-head, All-tail, filter-append}
use Rattle.std.proofs.lemmas.List.Sorted.{sum_by-IsPermutation}
use Rattle.std.proofs.lemmas.List.Sums.{sum_by-append, sum_by-cons}
use Rattle.std.proofs.lemmas.Option.{get_or_from_slice_get, slice_get_within}
use Rattle.std.proofs.lemmas.Slice.Eq.{bytes_eq-Decides}
use Rattle.fw_allocate.proofs.Totals.{total_cons}
use Rattle.fw_charge.specs.Charge.{Charge, DiscountText, hour_of}
use Rattle.fw_charge.specs.Codes.{category_word}
use Rattle.fw_terms.specs.Commitment.{CommitmentValue, PurchaseValue}
use Rattle.fw_cover.specs.Eligible.{is_of_hour}
use Rattle.fw_cover.proofs.Sorting.{two_ways}
use Rattle.fw_amortise.specs.Carrying.{has_id}
use Rattle.fw_amortise.specs.LineValue.{LineValue}
use Rattle.fw_amortise.specs.Lines.{AreLines, given_line, purchase_line, purchase_lines_of, rest_line, rows_in, unused_line, used_line}
use Rattle.fw_amortise.specs.Sources.{ComesFrom, SourceValue, is_bought_by, lines_from}
use Rattle.fw_amortise.specs.Sources.SourceValue.{bought_by, row_given, used_by, unused_by, row_left}
use Rattle.fw_amortise.proofs.Accounting.{hour_accounted}
use Rattle.fw_amortise.proofs.Named.{IsFree}
use Rattle.fw_entry.specs.Entry as entry
use Rattle.fw_entry.specs.Spelling.{IsEntry}
use Rattle.fw_snapshot.specs.History.{commitments_of, rows_of}
use Rattle.fw_snapshot.specs.Judging.{IsLegal}
use Rattle.fw_snapshot.proofs.IdFacts.{own_id}
use Rattle.fw_query.specs.Carried.{billed_by_all, cost_between, shows_purchase_of}
use Rattle.fw_query.specs.OfHistory.{AreLinesOf}
use Rattle.fw_sums.specs.RangeLines.{joined}
use Rattle.fw_query.specs.Texts.{id_text}
use Rattle.fw_sums.proofs.FilterFacts.{either_passes}
use Rattle.fw_query.proofs.CarriedFacts.{and_false, commitment_keeps, rows_free}

-- ---- which lines have the text
-- a row that doesn't carry the id has another one, or none
pub not_shown : (id : List ℕ) (discount : Option DiscountText) → 0 < length id → has_id id discount ≡ false → bytes_eq (id_text discount) id ≡ false
not_shown id None some free = two_ways (bytes_eq [] id)
    (λ same. let none : 0 ≡ length id = ap length ((bytes_eq-Decides [] id).0 same) in absurd (omega arith))
    (λ apart. apart)
not_shown id (Some d) some free = free

-- a place of a commitment is the one with its id
abbrev IsAlone : List CommitmentValue → ℕ → CommitmentValue → Type 0
IsAlone cs place c = (k : ℕ) (d : CommitmentValue) → slice_get cs k ≡ Some d → d.id ≡ c.id → k ≡ place

free_at : (id : List ℕ) (rows : List Charge) (r : ℕ) (row : Charge) → All (IsFree id) rows → slice_get rows r ≡ Some row → has_id id row.discount ≡ false
free_at id rows r row free there = subst (IsFree id) (get_or_from_slice_get rows r row row there) (free r row (slice_get_within rows r row there))

shown_as : (id : List ℕ) (line made : LineValue) (b : Bool) → line ≡ made → shows_purchase_of id made ≡ b → shows_purchase_of id line ≡ b
shown_as id line made b is h = ap (shows_purchase_of id) is ∙ h

bought_shown : (cs : List CommitmentValue) (rows : List Charge) (hour place : ℕ) (c : CommitmentValue) → slice_get cs place ≡ Some c → IsAlone cs place c → 0 < length c.id → All (IsFree c.id) rows
    → (s : SourceValue) (line : LineValue) → ComesFrom cs rows hour s line → shows_purchase_of c.id line ≡ is_bought_by place s
unfolding shows_purchase_of purchase_line given_line used_line unused_line rest_line category_word
bought_shown cs rows hour place c there alone some free (bought_by k) line from =
    let d : CommitmentValue = from.commitment in
    let shown : shows_purchase_of c.id (purchase_line hour d from.purchase) ≡ bytes_eq d.id c.id = two_ways (bytes_eq d.id c.id) (λ holds. rw holds refl) (λ fails. rw fails refl) in
    shown_as c.id line (purchase_line hour d from.purchase) (k == place) from.line_is
    (shown ∙ two_ways (k == place)
    (λ same.
    let here : k ≡ place = eqb-true k place same in
    let at : slice_get cs place ≡ Some d = subst (λ (x : ℕ). slice_get cs x ≡ Some d) here from.at_place in
    let e : Some c ≡ Some d = sym there ∙ at in
    let value : d ≡ c = cc in
    (bytes_eq-Decides d.id c.id).1 (ap (λ (x : CommitmentValue). x.id) value) ∙ sym same)
    (λ apart. two_ways (bytes_eq d.id c.id)
    (λ holds. absurd (eqb-false k place apart (alone k d from.at_place ((bytes_eq-Decides d.id c.id).0 holds))))
    (λ fails. fails ∙ sym apart)))
bought_shown cs rows hour place c there alone some free (row_given r) line from =
    shown_as c.id line (given_line hour from.charge) false from.line_is
    (rw (not_shown c.id from.charge.discount some (free_at c.id rows r from.charge free from.at_row)) refl)
bought_shown cs rows hour place c there alone some free (used_by k r) line from =
    shown_as c.id line (used_line hour from.meets.commitment rows from.take from.share) false from.line_is (and_false (bytes_eq from.meets.commitment.id c.id))
bought_shown cs rows hour place c there alone some free (unused_by k) line from =
    shown_as c.id line (unused_line hour from.commitment from.share) false from.line_is (and_false (bytes_eq from.commitment.id c.id))
bought_shown cs rows hour place c there alone some free (row_left r) line from =
    shown_as c.id line (rest_line hour from.charge from.left) false from.line_is
    (rw (not_shown c.id from.charge.discount some (free_at c.id rows r from.charge free from.at_row)) refl)

filter_sources : (p : LineValue → Bool) (q : SourceValue → Bool) (xs : List (SourceValue × LineValue)) → All (λ s. p s.1 ≡ q s.0) xs → filter p (map (λ s. s.1) xs) ≡ lines_from q xs
unfolding lines_from
filter_sources p q [] all = refl
filter_sources p q (x ∷ xs) all =
    let P : SourceValue × LineValue → Type 0 = λ s. p s.1 ≡ q s.0 in
    let here : p x.1 ≡ q x.0 = All-head P x xs all in
    let rest : filter p (map (λ (s : SourceValue × LineValue). s.1) xs) ≡ map (λ (s : SourceValue × LineValue). s.1) (filter (λ (s : SourceValue × LineValue). q s.0) xs) = filter_sources p q xs (All-tail P x xs all) in
    two_ways (q x.0) (λ holds. rw (here, holds) (ap (λ l. x.1 ∷ l) rest)) (λ fails. rw (here, fails) rest)

free_in : (id : List ℕ) (hour : ℕ) (rows : List Charge) → All (IsFree id) rows → All (IsFree id) (rows_in hour rows)
unfolding rows_in
free_in id hour rows free = All-filter (is_of_hour hour) (IsFree id) rows free

-- in an hour they are the lines of the commitment's purchases there
hour_bought : (cs : List CommitmentValue) (rows : List Charge) (place : ℕ) (c : CommitmentValue) → slice_get cs place ≡ Some c → IsAlone cs place c → 0 < length c.id → All (IsFree c.id) rows
    → (hour : ℕ) (lines : List LineValue) → AreLines cs rows hour lines → filter (shows_purchase_of c.id) lines ≡ purchase_lines_of hour c
unfolding AreLines
hour_bought cs rows place c there alone some free hour lines are =
    let by = hour_accounted cs (rows_in hour rows) hour lines are in
    let own : All (IsFree c.id) (rows_in hour rows) = free_in c.id hour rows free in
    ap (filter (shows_purchase_of c.id)) by.lines_are
    ∙ filter_sources (shows_purchase_of c.id) (is_bought_by place) by.sourced
    (λ k d l. bought_shown cs (rows_in hour rows) hour place c there alone some own (get_or by.sourced k d).0 (get_or by.sourced k d).1 (by.each k d l))
    ∙ by.purchases_are place c there

-- ---- what they are billed
pub billed_append : (xs ys : List LineValue) → billed_by_all (xs ++ ys) ≡ billed_by_all xs +ℤ billed_by_all ys
unfolding billed_by_all
billed_append [] ys = omega (arith, ints)
billed_append (x ∷ xs) ys =
    let whole = total_cons x.billed (map (λ (l : LineValue). l.billed) (xs ++ ys)) in
    let part = total_cons x.billed (map (λ (l : LineValue). l.billed) xs) in
    let rest = billed_append xs ys in
    omega (arith, ints)

billed_lines : (hour : ℕ) (c : CommitmentValue) (ps : List PurchaseValue) → billed_by_all (map (purchase_line hour c) ps) ≡ pos (sum_by (λ p. p.billed) ps)
unfolding billed_by_all purchase_line
billed_lines hour c [] = refl
billed_lines hour c (p ∷ ps) =
    let rest = billed_lines hour c ps in
    let part = total_cons (pos p.billed) (map (λ (l : LineValue). l.billed) (map (purchase_line hour c) ps)) in
    let sum = sum_by-cons (λ (q : PurchaseValue). q.billed) p ps in
    part ∙ (rw rest (ap pos (sym sum)))

-- what a commitment's purchases in an hour cost
abbrev cost_at : CommitmentValue → ℕ → ℕ
cost_at c hour = sum_by (λ p. p.billed) (filter (λ p. hour_of p.at == hour) c.purchases)

hours_bought : (cs : List CommitmentValue) (rows : List Charge) (place : ℕ) (c : CommitmentValue) → slice_get cs place ≡ Some c → IsAlone cs place c → 0 < length c.id → All (IsFree c.id) rows
    → (hours : List ℕ) (hourly : List (List LineValue)) → AllZip (AreLines cs rows) hours hourly → billed_by_all (filter (shows_purchase_of c.id) (joined hourly)) ≡ pos (sum_by (cost_at c) hours)
unfolding billed_by_all purchase_lines_of
hours_bought cs rows place c there alone some free [] [] are = refl
hours_bought cs rows place c there alone some free [] (lines ∷ hourly) are = absurd are
hours_bought cs rows place c there alone some free (hour ∷ hours) [] are = absurd are
hours_bought cs rows place c there alone some free (hour ∷ hours) (lines ∷ hourly) are =
    let first : billed_by_all (filter (shows_purchase_of c.id) lines) ≡ pos (cost_at c hour) =
    ap billed_by_all (hour_bought cs rows place c there alone some free hour lines are.0) ∙ billed_lines hour c (filter (λ p. hour_of p.at == hour) c.purchases) in
    let rest : billed_by_all (filter (shows_purchase_of c.id) (joined hourly)) ≡ pos (sum_by (cost_at c) hours) = hours_bought cs rows place c there alone some free hours hourly are.1 in
    let both : pos (cost_at c hour) +ℤ pos (sum_by (cost_at c) hours) ≡ pos (sum_by (cost_at c) (hour ∷ hours)) = ap pos (sym (sum_by-cons (cost_at c) hour hours)) in
    ap billed_by_all (filter-append (shows_purchase_of c.id) lines (joined hourly))
    ∙ billed_append (filter (shows_purchase_of c.id) lines) (filter (shows_purchase_of c.id) (joined hourly))
    ∙ (rw (first, rest) both)

range_cost : (c : CommitmentValue) (n from to : ℕ) → to ≡ from + n → sum_by (cost_at c) (range_with_len from n) ≡ cost_between c from to
unfolding cost_between
range_cost c zero from to end = sym (ap (sum_by (λ (p : PurchaseValue). p.billed)) (none c.purchases))
  where
    none : (ps : List PurchaseValue) → filter (λ p. nat_le from (hour_of p.at) && nat_lt (hour_of p.at) to) ps ≡ []
    none [] = refl
    none (p ∷ ps) = let out : (nat_le from (hour_of p.at) && nat_lt (hour_of p.at) to) ≡ false = grind (arith, nat_tests) in rw out (none ps)
range_cost c (suc n) from to end =
    let f : PurchaseValue → ℕ = λ p. p.billed in
    let here : List PurchaseValue = filter (λ p. hour_of p.at == from) c.purchases in
    let later : List PurchaseValue = filter (λ p. nat_le (from + 1) (hour_of p.at) && nat_lt (hour_of p.at) to) c.purchases in
    let all : List PurchaseValue = filter (λ p. nat_le from (hour_of p.at) && nat_lt (hour_of p.at) to) c.purchases in
    let rest : sum_by (cost_at c) (range_with_len (from + 1) n) ≡ sum_by f later = range_cost c n (from + 1) to (omega arith) in
    sum_by-cons (cost_at c) from (range_with_len (from + 1) n)
    ∙ (rw rest (sym (sum_by-append f here later)))
    ∙ sym (sum_by-IsPermutation f (here ++ later) all
    (either_passes (λ p. hour_of p.at == from) (λ p. nat_le (from + 1) (hour_of p.at) && nat_lt (hour_of p.at) to) (λ p. nat_le from (hour_of p.at) && nat_lt (hour_of p.at) to)
    (λ p at. first (hour_of p.at) at) (λ p apart. ap (λ b. b && nat_lt (hour_of p.at) to) (others (hour_of p.at) apart)) c.purchases))
  where
    first : (h : ℕ) → (h == from) ≡ true → ((nat_le (from + 1) h && nat_lt h to) ≡ false) × ((nat_le from h && nat_lt h to) ≡ true)
    first h at = (grind (arith, nat_tests), grind (arith, nat_tests))

    others : (h : ℕ) → (h == from) ≡ false → nat_le from h ≡ nat_le (from + 1) h
    others h apart = grind (arith, nat_tests)

pub bought_between : (history : List entry.EntryValue) (from to : ℕ) (lines : List LineValue) (place : ℕ) (c : CommitmentValue) → IsLegal history → All IsEntry history → from ≤ to → AreLinesOf history from to lines → slice_get (commitments_of history) place ≡ Some c
    → billed_by_all (filter (shows_purchase_of c.id) lines) ≡ pos (cost_between c from to)
bought_between history from to lines place c legal each some are at =
    ap (λ ls. billed_by_all (filter (shows_purchase_of c.id) ls)) are.lines_are
    ∙ hours_bought (commitments_of history) (rows_of history) place c at (λ k d there same. own_id history legal k place d c there at same) (commitment_keeps history place c legal each at).id.some (rows_free history place c legal at) (range_with_len from (to - from)) are.hourly are.are_hourly
    ∙ ap pos (range_cost c (to - from) from to (omega arith))
