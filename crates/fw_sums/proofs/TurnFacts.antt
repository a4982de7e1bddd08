-- Lemmas on hours in turn: the rows at the places of each, and whether it is marked.
use Rattle.std.proofs.Common.{◌≡◌, ◌∙◌, ℕ, ◌+◌, ◌-◌, ◌<◌, Bool, false, true, refl, All, IfNone, List, None, Option, Some, length, map, get_or, Vec, sym, ap, subst, arith, ◌&&◌, is_none}
use Rattle.std.specs.declared.alloc.Global.{Global}
use Rattle.std.proofs.lemmas.List.FromFn.{get_or-map-range_with_len, length-map-range_with_len}
use Rattle.std.specs.List.{range_with_len}
use Rattle.fw_charge.specs.Charge.{Charge, hour_of}
use Rattle.fw_terms.specs.Commitment.{CommitmentValue}
use Rattle.fw_amortise.specs.Lines.{rows_in}
use Rattle.fw_sums.specs.ReportCache.{AreOpen, AreOpenByHour, KeepsMore, is_open, kept_at}
use Rattle.fw_sums.specs.Hours.{AreByHour, AreThere, AreTouched, IsThere, is_touched, rows_at, rows_marked}
use Rattle.fw_sums.specs.declared.cache.HourSums.{HourSums}
use Rattle.fw_sums.specs.declared.groups.Groups.{Groups}
use Rattle.fw_sums.specs.declared.hours.HourPlace.{HourPlace}
use Rattle.fw_sums.specs.declared.open_hours.OpenHours.{OpenHours}
use Rattle.fw_sums.proofs.HourFacts.{of_hour, rows_of_hour}
use Rattle.fw_sums.proofs.MarkFacts.{marked_at, rows_in_marked, touched_at, touched_long}

-- the places of the hour in turn
module _ (segments : List (List Charge)) (rows : List Charge) (by_hour : List (Vec HourPlace Global)) (from i : ℕ) (v : Vec HourPlace Global) (places : List HourPlace)
    (by : AreByHour segments rows from (length by_hour) by_hour) (below : i < length by_hour) (is : v ≡ get_or by_hour i v) (items : places ≡ v.items) where
  -- there is a row at each
  pub there_in_turn : All (IsThere segments) places
  there_in_turn = subst (All (IsThere segments)) (sym items) (subst (AreThere segments) (sym is) (by.there i v below))

  -- the rows are those of the hour
  pub rows_in_turn : rows_at segments places ≡ rows_in (from + i) rows
  rows_in_turn = ap (rows_at segments) items ∙ rows_of_hour segments rows by_hour from i v by below is

  -- so they are of it
  pub of_turn : (hour : ℕ) → hour ≡ from + i → All (λ (r : Charge). hour_of r.start ≡ hour) (rows_at segments places)
  of_turn hour at = rw (items, at) (of_hour segments rows by_hour from i v by below is)

-- the rows at the places of a marked hour are all of the hour's
pub all_in_turn : (segments : List (List Charge)) (rows : List Charge) (marks : List Bool) (by_hour : List (Vec HourPlace Global)) (from i : ℕ) (v : Vec HourPlace Global) (places : List HourPlace)
    → AreByHour segments (rows_marked marks from rows) from (length by_hour) by_hour → i < length by_hour → v ≡ get_or by_hour i v → places ≡ v.items
    → (hour : ℕ) → hour ≡ from + i → get_or marks (hour - from) false ≡ true → rows_at segments places ≡ rows_in hour rows
all_in_turn segments rows marks by_hour from i v places by below is items hour at marked =
    let place : hour - from ≡ i = omega (arith, at) in
    let here : rows_at segments places ≡ rows_in (from + i) (rows_marked marks from rows) = rows_in_turn segments (rows_marked marks from rows) by_hour from i v places by below is items in
    let own : rows_in (from + i) (rows_marked marks from rows) ≡ rows_in (from + i) rows = rows_in_marked (from + i) marks from rows (marked_at marks from (from + i) i refl ∙ (rw place at marked)) in
    rw at (here ∙ own)

-- the rows at the places of a touched hour of which nothing is kept are all of the hour's
pub open_in_turn : (segments : List (List Charge)) (rows : List Charge) (cs : List CommitmentValue) (kept now : HourSums) (by_hour : List (Vec HourPlace Global)) (from i : ℕ) (v : Vec HourPlace Global) (places : List HourPlace)
    → AreOpenByHour segments rows cs kept from (length by_hour) by_hour → i < length by_hour → v ≡ get_or by_hour i v → places ≡ v.items
    → (hour : ℕ) → hour ≡ from + i → is_touched cs (from + i) ≡ true → kept_at now hour ≡ kept_at kept hour → IfNone (kept_at now hour) (rows_at segments places ≡ rows_in hour rows)
open_in_turn segments rows cs kept now by_hour from i v places opened below is items hour at touched same = by (kept_at now hour) refl
  where
    by : (o : Option Groups) → kept_at now hour ≡ o → IfNone o (rows_at segments places ≡ rows_in hour rows)
    by (Some sums) found = tt
    by None found =
        let place : hour - from ≡ i = omega (arith, at) in
        let none : kept_at kept (from + i) ≡ None = ap (kept_at kept) (sym at) ∙ sym same ∙ found in
        let is_it : is_open kept (is_touched cs (from + i)) (from + i) ≡ true = rw (touched, none) refl in
        all_in_turn segments rows opened.marks by_hour from i v places opened.lists_are below is items hour at (rw place (opened.each i below is_it))

-- ---- the open hours

-- the mark of each hour: whether it is open
abbrev pub open_marks : HourSums → List Bool → ℕ → List Bool
open_marks kept touched from = map (λ k. is_open kept (get_or touched k false) (from + k)) (range_with_len 0 (length touched))

-- there are as many as hours
pub open_long : (cs : List CommitmentValue) (kept : HourSums) (touched : List Bool) (from hours : ℕ) → AreTouched cs from hours touched → length (open_marks kept touched from) ≡ hours
open_long cs kept touched from hours are = length-map-range_with_len (λ k. is_open kept (get_or touched k false) (from + k)) 0 (length touched) ∙ touched_long cs from hours touched are

-- where the rows of the hours so marked are sorted, those of open hours are
pub open_rows : (segments : List (List Charge)) (rows : List Charge) (cs : List CommitmentValue) (kept : HourSums) (from hours : ℕ) (range : OpenHours) → AreTouched cs from hours range.touched.items
    → range.marks.items ≡ open_marks kept range.touched.items from → AreByHour segments (rows_marked range.marks.items from rows) from hours range.by_hour.items → AreOpen segments rows cs kept from hours range
open_rows segments rows cs kept from hours range are marked sorted = record {
  touched = are;
  each = λ k below opened.
      let long : length range.touched.items ≡ hours = touched_long cs from hours range.touched.items are in
      ap (λ l. get_or l k false) marked
      ∙ get_or-map-range_with_len (λ k. is_open kept (get_or range.touched.items k false) (from + k)) 0 (length range.touched.items) k k false (rw long below) (omega arith)
      ∙ ap (λ t. is_open kept t (from + k)) (touched_at cs from hours range.touched.items k are below) ∙ opened;
  lists_are = sorted;
}

-- where of each hour something is kept of which it was, no more hours are open
pub open_still : (segments : List (List Charge)) (rows : List Charge) (cs : List CommitmentValue) (old new : HourSums) (from hours : ℕ) (range : OpenHours) → KeepsMore old new → AreOpen segments rows cs old from hours range → AreOpen segments rows cs new from hours range
open_still segments rows cs old new from hours range more are = record {
  touched = are.touched;
  each = λ k below opened. are.each k below (still k opened);
  lists_are = are.lists_are;
}
  where
    still : (k : ℕ) → is_open new (is_touched cs (from + k)) (from + k) ≡ true → is_open old (is_touched cs (from + k)) (from + k) ≡ true
    still k opened = by (is_touched cs (from + k)) (kept_at new (from + k)) refl opened
      where
        by : (touched : Bool) (o : Option Groups) → kept_at new (from + k) ≡ o → (touched && is_none o) ≡ true → (touched && is_none (kept_at old (from + k))) ≡ true
        by true None none h = ap is_none (more (from + k) none)
        by true (Some sums) some h = absurd (cc)
        by false o is h = absurd (cc)

-- so the lists have the rows of each open hour
pub open_lists : (segments : List (List Charge)) (rows : List Charge) (cs : List CommitmentValue) (kept : HourSums) (from hours : ℕ) (range : OpenHours) → AreOpen segments rows cs kept from hours range
    → AreOpenByHour segments rows cs kept from hours range.by_hour.items
open_lists segments rows cs kept from hours range are = record { marks = range.marks.items; each = are.each; lists_are = are.lists_are }
