-- What the lines of a range carry of a commitment.
use Rattle.std.proofs.Common.{◌≡◌, ◌≢◌, ◌∙◌, ℕ, zero, suc, ◌+◌, ◌-◌, ◌<◌, ◌≤◌, Bool, true, false, ◌&&◌, nat_le, nat_lt, pos, ◌+ℤ◌, List, [], ◌∷◌, ◌++◌, length, get_or, filter, sum_by, All, Option, Some, None, refl, sym, ap, subst, arith}
use Rattle.std.specs.Prelude.{codes, is_some, map, slice_get}
use Rattle.std.specs.Option.{option_map_or}
use Rattle.std.proofs.lemmas.Int.{ints}
use Rattle.std.proofs.lemmas.List.{get_or_default}
use Rattle.std.proofs.lemmas.Option.{get_or_from_slice_get, slice_get_read, slice_get_within}
use Rattle.fw_allocate.proofs.Totals.{total_cons}
use Rattle.std.specs.List.{AllZip, range_with_len}
use Rattle.std.specs.Str.{bytes_eq}
use Rattle.std.proofs.lemmas.Bool.Decides.{nat_tests}
use Rattle.std.proofs.lemmas.List.Elements.{All-append, All-nil, filter-append}
use Rattle.std.proofs.lemmas.List.Sums.{sum_by-append, sum_by-cons}
use Rattle.std.proofs.lemmas.Slice.Eq.{bytes_eq-Decides}
use Rattle.fw_charge.specs.Charge.{Charge, DiscountText}
use Rattle.fw_charge.specs.Codes.{category_word, status_word}
use Rattle.fw_charge.specs.declared.category.Category.{Category}
use Rattle.fw_charge.specs.declared.category.Category.TheVariants as category
use Rattle.fw_charge.specs.declared.discount.DiscountStatus.{DiscountStatus}
use Rattle.fw_charge.specs.declared.discount.DiscountStatus.TheVariants as status
use Rattle.fw_terms.specs.Commitment.{CommitmentValue, IsCommitment, cost_of}
use Rattle.fw_cover.specs.Applies.{is_in_term}
use Rattle.fw_amortise.specs.Amount.{amount_of}
use Rattle.fw_amortise.specs.Carrying.{IsOnly, cost_of_all, has_id, names_share_of}
use Rattle.fw_amortise.specs.LineValue.{LineValue}
use Rattle.fw_amortise.specs.Lines.{AreLines, amount_in, given_line, purchase_line, rest_line, unused_line, used_line}
use Rattle.fw_amortise.proofs.Carried.{amounts_sum}
use Rattle.fw_amortise.proofs.Carrying.{amount_at, carried_amount}
use Rattle.fw_amortise.proofs.EachLine.{HoldsOfEach, lines_each}
use Rattle.fw_amortise.proofs.Named.{CostsNothing, IsFree, named_carried, purchases_of_id}
use Rattle.fw_entry.specs.Entry as entry
use Rattle.fw_entry.specs.Spelling.{IsEntry}
use Rattle.fw_snapshot.specs.History.{commitments_of, rows_of}
use Rattle.fw_snapshot.specs.Judging.{IsLegal}
use Rattle.fw_snapshot.proofs.AddingFacts.{commitments_keep}
use Rattle.fw_snapshot.proofs.IdFacts.{alone, other_ids}
use Rattle.fw_query.specs.Carried.{amount_between, shows_share_of}
use Rattle.fw_query.specs.OfHistory.{AreLinesOf}
use Rattle.fw_sums.specs.RangeLines.{joined}
use Rattle.fw_query.specs.Texts.{id_text, status_text}

-- ---- the texts of a line
status_shown : (s : DiscountStatus) → nat_lt 0 (length (status_word s)) ≡ true
unfolding status_word
status_shown status.Used = refl
status_shown status.Unused = refl

pub and_false : (b : Bool) → (b && false) ≡ false
and_false true = refl
and_false false = refl

status_of_some : (same : Bool) (o : Option DiscountStatus) → (same && nat_lt 0 (length (option_map_or status_word o []))) ≡ (same && is_some o)
status_of_some same None = refl
status_of_some same (Some s) = ap (λ b. same && b) (status_shown s)

-- a line's text shows the commitment and a status where the line names them
shows_named : (id : List ℕ) (line : LineValue) → shows_share_of id line ≡ names_share_of id line
unfolding shows_share_of names_share_of
shows_named id line = by line.commitment
  where
    by : (o : Option DiscountText) → (bytes_eq (id_text o) id && nat_lt 0 (length (status_text o))) ≡ option_map_or (λ d. bytes_eq d.id id && is_some d.status) o false
    by None = and_false (bytes_eq [] id)
    by (Some d) = status_of_some (bytes_eq d.id id) d.status

filter_alike : {X : Type 0} (p q : X → Bool) → ((x : X) → p x ≡ q x) → (xs : List X) → filter p xs ≡ filter q xs
filter_alike p q same [] = refl
filter_alike p q same (x ∷ xs) = let rest = filter_alike p q same xs in rw (same x, rest) refl

-- ---- what a history keeps
free_of : (id : List ℕ) (discount : Option DiscountText) → ((d : DiscountText) → discount ≡ Some d → d.id ≢ id) → has_id id discount ≡ false
free_of id None apart = refl
free_of id (Some d) apart = by (bytes_eq d.id id) refl
  where
    by : (same : Bool) → bytes_eq d.id id ≡ same → bytes_eq d.id id ≡ false
    by true e = absurd (apart d refl ((bytes_eq-Decides d.id id).0 e))
    by false e = e

pub rows_free : (history : List entry.EntryValue) (place : ℕ) (c : CommitmentValue) → IsLegal history → slice_get (commitments_of history) place ≡ Some c → All (IsFree c.id) (rows_of history)
rows_free history place c legal at k row l =
    free_of c.id (get_or (rows_of history) k row).discount
    (λ d is. other_ids history legal k place (get_or (rows_of history) k row) d c (slice_get_read (rows_of history) (length (rows_of history)) k (get_or (rows_of history) k row) refl l (get_or_default (rows_of history) k row (get_or (rows_of history) k row) l)) is at)

pub commitment_keeps : (history : List entry.EntryValue) (place : ℕ) (c : CommitmentValue) → IsLegal history → All IsEntry history → slice_get (commitments_of history) place ≡ Some c → IsCommitment c
commitment_keeps history place c legal each at =
    subst IsCommitment (get_or_from_slice_get (commitments_of history) place c c at) (commitments_keep history legal each place c (slice_get_within (commitments_of history) place c at))

-- ---- the shares of a range
pub cost_append : (xs ys : List LineValue) → cost_of_all (xs ++ ys) ≡ cost_of_all xs +ℤ cost_of_all ys
unfolding cost_of_all
cost_append [] ys = omega (arith, ints)
cost_append (x ∷ xs) ys =
    let whole = total_cons x.effective (map (λ (l : LineValue). l.effective) (xs ++ ys)) in
    let part = total_cons x.effective (map (λ (l : LineValue). l.effective) xs) in
    let rest = cost_append xs ys in
    omega (arith, ints)

hour_carries : (cs : List CommitmentValue) (rows : List Charge) (c : CommitmentValue) → IsOnly cs c → All (IsFree c.id) rows → (hour : ℕ) (lines : List LineValue) → AreLines cs rows hour lines
    → cost_of_all (filter (shows_share_of c.id) lines) ≡ pos (amount_in c hour)
hour_carries cs rows c only free hour lines are =
    ap cost_of_all (filter_alike (shows_share_of c.id) (names_share_of c.id) (shows_named c.id) lines)
    ∙ named_carried c.id cs rows hour lines free are ∙ carried_amount cs rows hour lines c are only

hours_carry : (cs : List CommitmentValue) (rows : List Charge) (c : CommitmentValue) → IsOnly cs c → All (IsFree c.id) rows → (hours : List ℕ) (hourly : List (List LineValue)) → AllZip (AreLines cs rows) hours hourly
    → cost_of_all (filter (shows_share_of c.id) (joined hourly)) ≡ pos (sum_by (amount_in c) hours)
unfolding cost_of_all
hours_carry cs rows c only free [] [] are = refl
hours_carry cs rows c only free [] (lines ∷ hourly) are = absurd are
hours_carry cs rows c only free (hour ∷ hours) [] are = absurd are
hours_carry cs rows c only free (hour ∷ hours) (lines ∷ hourly) are =
    let first : cost_of_all (filter (shows_share_of c.id) lines) ≡ pos (amount_in c hour) = hour_carries cs rows c only free hour lines are.0 in
    let rest : cost_of_all (filter (shows_share_of c.id) (joined hourly)) ≡ pos (sum_by (amount_in c) hours) = hours_carry cs rows c only free hours hourly are.1 in
    let both : pos (amount_in c hour) +ℤ pos (sum_by (amount_in c) hours) ≡ pos (sum_by (amount_in c) (hour ∷ hours)) = ap pos (sym (sum_by-cons (amount_in c) hour hours)) in
    ap cost_of_all (filter-append (shows_share_of c.id) lines (joined hourly))
    ∙ cost_append (filter (shows_share_of c.id) lines) (filter (shows_share_of c.id) (joined hourly))
    ∙ (rw (first, rest) both)

pub carried_between : (history : List entry.EntryValue) (from to : ℕ) (lines : List LineValue) (place : ℕ) (c : CommitmentValue) → IsLegal history → AreLinesOf history from to lines → slice_get (commitments_of history) place ≡ Some c
    → cost_of_all (filter (shows_share_of c.id) lines) ≡ pos (amount_between c from to)
unfolding amount_between IsOnly
carried_between history from to lines place c legal are at =
    ap (λ ls. cost_of_all (filter (shows_share_of c.id) ls)) are.lines_are
    ∙ hours_carry (commitments_of history) (rows_of history) c (alone history legal place c at) (rows_free history place c legal at) (range_with_len from (to - from)) are.hourly are.are_hourly

-- ---- a range that holds the term
pub range_append : (a m n : ℕ) → range_with_len a (m + n) ≡ range_with_len a m ++ range_with_len (a + m) n
range_append a zero n =
    let all : zero + n ≡ n = omega arith in
    let from : a + zero ≡ a = omega arith in
    rw (all, from) refl
range_append a (suc m) n =
    let all : suc m + n ≡ suc (m + n) = omega arith in
    let from : a + suc m ≡ a + 1 + m = omega arith in
    rw (all, from) (ap (λ l. a ∷ l) (range_append (a + 1) m n))

outside : (c : CommitmentValue) (a n : ℕ) → ((k : ℕ) → a ≤ k → k < a + n → is_in_term c k ≡ false) → sum_by (amount_in c) (range_with_len a n) ≡ 0
unfolding amount_in
outside c a zero none = refl
outside c a (suc n) none =
    let rest = outside c (a + 1) n (λ k low high. none k (omega arith) (omega arith)) in
    let first : amount_in c a ≡ 0 = rw (none a (omega arith) (omega arith)) refl in
    sum_by-cons (amount_in c) a (range_with_len (a + 1) n) ∙ omega (arith, rest, first)

inside : (c : CommitmentValue) (k n : ℕ) → k + n ≤ c.hours → sum_by (amount_in c) (range_with_len (c.start + k) n) ≡ sum_by (amount_of (cost_of c.purchases) c.hours) (range_with_len k n)
inside c k zero h = refl
inside c k (suc n) h =
    let next : c.start + k + 1 ≡ c.start + (k + 1) = omega arith in
    let rest = inside c (k + 1) n (omega arith) in
    let here : amount_in c (c.start + k) ≡ amount_of (cost_of c.purchases) c.hours k = amount_at c k (omega arith) in
    sum_by-cons (amount_in c) (c.start + k) (range_with_len (c.start + k + 1) n)
    ∙ (rw (next, here, rest) (sym (sum_by-cons (amount_of (cost_of c.purchases) c.hours) k (range_with_len (k + 1) n))))

before_term : (c : CommitmentValue) (k : ℕ) → k < c.start → is_in_term c k ≡ false
unfolding is_in_term
before_term c k h = let early : nat_le c.start k ≡ false = grind (arith, nat_tests) in rw early refl

after_term : (c : CommitmentValue) (k : ℕ) → c.start + c.hours ≤ k → is_in_term c k ≡ false
unfolding is_in_term
after_term c k h = let late : nat_lt k (c.start + c.hours) ≡ false = grind (arith, nat_tests) in rw late (and_false (nat_le c.start k))

amount_of_term : (c : CommitmentValue) (from to : ℕ) → 0 < c.hours → from ≤ c.start → c.start + c.hours ≤ to → amount_between c from to ≡ cost_of c.purchases
unfolding amount_between
amount_of_term c from to some early late =
    let parts : to - from ≡ (c.start - from) + (c.hours + (to - (c.start + c.hours))) = omega arith in
    let start : from + (c.start - from) ≡ c.start = omega arith in
    let f : ℕ → ℕ = amount_in c in
    let split : range_with_len from (to - from) ≡ range_with_len from (c.start - from) ++ (range_with_len c.start c.hours ++ range_with_len (c.start + c.hours) (to - (c.start + c.hours))) =
    ap (range_with_len from) parts ∙ range_append from (c.start - from) (c.hours + (to - (c.start + c.hours)))
    ∙ (rw start (ap (λ l. range_with_len from (c.start - from) ++ l) (range_append c.start c.hours (to - (c.start + c.hours))))) in
    let one : sum_by f (range_with_len from (c.start - from)) ≡ 0 = outside c from (c.start - from) (λ k low high. before_term c k (omega arith)) in
    let base : c.start + 0 ≡ c.start = omega arith in
    let two : sum_by f (range_with_len c.start c.hours) ≡ cost_of c.purchases =
    (rw base at (inside c 0 c.hours (omega arith))) ∙ amounts_sum (cost_of c.purchases) c.hours some in
    let three : sum_by f (range_with_len (c.start + c.hours) (to - (c.start + c.hours))) ≡ 0 = outside c (c.start + c.hours) (to - (c.start + c.hours)) (λ k low high. after_term c k low) in
    ap (sum_by f) split
    ∙ sum_by-append f (range_with_len from (c.start - from)) (range_with_len c.start c.hours ++ range_with_len (c.start + c.hours) (to - (c.start + c.hours)))
    ∙ (rw (one, sum_by-append f (range_with_len c.start c.hours) (range_with_len (c.start + c.hours) (to - (c.start + c.hours))), two, three) (omega arith))

pub carried_term : (history : List entry.EntryValue) (from to : ℕ) (lines : List LineValue) (place : ℕ) (c : CommitmentValue) → IsLegal history → All IsEntry history → AreLinesOf history from to lines → slice_get (commitments_of history) place ≡ Some c
    → from ≤ c.start → c.start + c.hours ≤ to → cost_of_all (filter (shows_share_of c.id) lines) ≡ pos (cost_of c.purchases)
carried_term history from to lines place c legal each are at early late =
    carried_between history from to lines place c legal are at ∙ ap pos (amount_of_term c from to (commitment_keeps history place c legal each at).hours_some early late)

-- ---- purchases
purchase_shown : (k : Category) → category_word k ≡ codes "Purchase" → k ≡ category.Purchase
unfolding category_word
purchase_shown category.Usage e = absurd (cc)
purchase_shown category.Purchase e = refl
purchase_shown category.Tax e = absurd (cc)
purchase_shown category.Credit e = absurd (cc)
purchase_shown category.Adjustment e = absurd (cc)

id_shown : (id : List ℕ) (discount : Option DiscountText) → 0 < length id → id_text discount ≡ id → has_id id discount ≡ true
id_shown id None some e = let none : 0 ≡ length id = ap length e in absurd (omega arith)
id_shown id (Some d) some e = (bytes_eq-Decides d.id id).1 e

hours_cost_nothing : (cs : List CommitmentValue) (rows : List Charge) (id : List ℕ) → All (IsFree id) rows → (hours : List ℕ) (hourly : List (List LineValue)) → AllZip (AreLines cs rows) hours hourly → All (CostsNothing id) (joined hourly)
hours_cost_nothing cs rows id free [] [] are = All-nil (CostsNothing id)
hours_cost_nothing cs rows id free [] (lines ∷ hourly) are = absurd are
hours_cost_nothing cs rows id free (hour ∷ hours) [] are = absurd are
hours_cost_nothing cs rows id free (hour ∷ hours) (lines ∷ hourly) are =
    All-append (CostsNothing id) lines (joined hourly) (purchases_of_id id cs rows hour lines free are.0) (hours_cost_nothing cs rows id free hours hourly are.1)

pub purchases_cost_nothing : (history : List entry.EntryValue) (from to : ℕ) (lines : List LineValue) (place : ℕ) (c : CommitmentValue) → IsLegal history → All IsEntry history → AreLinesOf history from to lines → slice_get (commitments_of history) place ≡ Some c
    → All (λ line. category_word line.category ≡ codes "Purchase" → id_text line.commitment ≡ c.id → line.effective ≡ pos 0) lines
purchases_cost_nothing history from to lines place c legal each are at k d l paid named =
    let all : All (CostsNothing c.id) lines = rw are.lines_are
    (hours_cost_nothing (commitments_of history) (rows_of history) c.id (rows_free history place c legal at) (range_with_len from (to - from)) are.hourly are.are_hourly) in
    all k d l (purchase_shown (get_or lines k d).category paid) (id_shown c.id (get_or lines k d).commitment (commitment_keeps history place c legal each at).id.some named)

-- ---- what is billed of shares
-- a line that names the commitment and a status is billed nothing
abbrev BillsNothing : List ℕ → LineValue → Type 0
BillsNothing id line = names_share_of id line ≡ true → line.billed ≡ pos 0

free_names_none : (id : List ℕ) (discount : Option DiscountText) → has_id id discount ≡ false → option_map_or (λ d. bytes_eq d.id id && is_some d.status) discount false ≡ false
free_names_none id None free = refl
free_names_none id (Some d) free = rw free refl

each_bills_nothing : (id : List ℕ) (hour : ℕ) → HoldsOfEach (BillsNothing id) (IsFree id) hour
unfolding names_share_of purchase_line given_line used_line unused_line rest_line
each_bills_nothing id hour = record {
  purchase = λ c p named. let clash : true ≡ false = sym named ∙ and_false (bytes_eq c.id id) in absurd (cc);
  given = λ row free named. let clash : true ≡ false = sym named ∙ free_names_none id row.discount free in absurd (cc);
  used = λ c rows t share named. refl;
  unused = λ c share named. refl;
  rest = λ row u free named. let clash : true ≡ false = sym named ∙ free_names_none id row.discount free in absurd (cc);
}

hours_bill_nothing : (cs : List CommitmentValue) (rows : List Charge) (id : List ℕ) → All (IsFree id) rows → (hours : List ℕ) (hourly : List (List LineValue)) → AllZip (AreLines cs rows) hours hourly → All (BillsNothing id) (joined hourly)
hours_bill_nothing cs rows id free [] [] are = All-nil (BillsNothing id)
hours_bill_nothing cs rows id free [] (lines ∷ hourly) are = absurd are
hours_bill_nothing cs rows id free (hour ∷ hours) [] are = absurd are
hours_bill_nothing cs rows id free (hour ∷ hours) (lines ∷ hourly) are =
    All-append (BillsNothing id) lines (joined hourly) (lines_each (BillsNothing id) (IsFree id) cs rows hour lines (each_bills_nothing id hour) free are.0) (hours_bill_nothing cs rows id free hours hourly are.1)

pub shares_bill_nothing : (history : List entry.EntryValue) (from to : ℕ) (lines : List LineValue) (place : ℕ) (c : CommitmentValue) → IsLegal history → AreLinesOf history from to lines → slice_get (commitments_of history) place ≡ Some c
    → All (λ line. shows_share_of c.id line ≡ true → line.billed ≡ pos 0) lines
shares_bill_nothing history from to lines place c legal are at k d l shown =
    let all : All (BillsNothing c.id) lines = rw are.lines_are
    (hours_bill_nothing (commitments_of history) (rows_of history) c.id (rows_free history place c legal at) (range_with_len from (to - from)) are.hourly are.are_hourly) in
    all k d l (sym (shows_named c.id (get_or lines k d)) ∙ shown)
