-- Lemmas on rows by hour.
use Rattle.std.proofs.Common.{◌≡◌, ◌≢◌, ◌∙◌, ℕ, zero, suc, ◌+◌, ◌<◌, All, Bor, List, [], ◌∷◌, ◌++◌, length, map, take, get_or, set, Some, Vec, sym, ap, refl, arith, append-nil, ⊎_elim}
use Rattle.std.specs.Prelude.{slice_get, slice_index}
use Rattle.std.specs.declared.alloc.Global.{Global}
use Rattle.std.proofs.lemmas.Bool.{cases_eq}
use Rattle.std.proofs.lemmas.Grind.{flat_map-append}
use Rattle.std.proofs.lemmas.List.{take_more, ext_get_or, length-map, length-set, get_or-map, get_or-set_same, get_or-set_other}
use Rattle.std.proofs.lemmas.List.Elements.{All-nil, filter_map-append}
use Rattle.std.proofs.lemmas.List.FromFn.{length-map-range_with_len, get_or-map-range_with_len}
use Rattle.std.proofs.lemmas.Option.{get_or_from_slice_get, slice_get_cases, slice_get_read, slice_get_within}
use Rattle.std.proofs.lemmas.Simd.{map-map}
use Rattle.std.specs.List.{filter_map, range_with_len}
use Rattle.fw_charge.specs.Charge.{Charge, hour_of}
use Rattle.fw_columns.specs.Hours.{hours_of, places_of_hour}
use Rattle.fw_columns.proofs.HourFacts.{rows_at_places}
use Rattle.fw_cover.specs.Eligible.{is_of_hour}
use Rattle.fw_cover.specs.RosterView.{HasHour, RosterValue}
use Rattle.fw_amortise.specs.Lines.{rows_in}
use Rattle.fw_amortise.proofs.EachLine.{rows_are_of_hour}
use Rattle.fw_sums.specs.Hours.{AreByHour, AreThere, HasHours, HasRow, IsThere, all_rows, lent, row_at, rows_at, rows_of_list, rows_of_places, rows_there}
use Rattle.fw_sums.specs.declared.hours.HourPlace.{HourPlace}
use Rattle.fw_sums.specs.declared.hours.RowPlace.{RowPlace}

-- one of a roster's hours
pub has_hour : (r : RosterValue) (from hours k hour : ℕ) → HasHours r from hours → k < hours → hour ≡ from + k → HasHour r hour
has_hour r from hours k hour has lt e = record { since = omega (arith, e, has.since); until = omega (arith, e, lt, has.until) }

-- the place that a list has nothing at
abbrev pub nothing : {X : Type 0} → ℕ → List X
nothing h = []

-- so many empty lists, whatever the numbers
pub empty_lists : {X : Type 0} (a b n : ℕ) → map (nothing {X = X}) (range_with_len a n) ≡ map (nothing {X = X}) (range_with_len b n)
empty_lists a b zero = refl
empty_lists a b (suc n) = let rest = empty_lists (a + 1) (b + 1) n in ap (λ l. [] ∷ l) rest

-- the lists with more rows in the list of an hour, and as they were of other hours
pub put_in : (rows more run : List Charge) (from hours k : ℕ) (old new : List (List Charge)) → old ≡ map (λ h. rows_in h rows) (range_with_len from hours)
    → k < hours → rows_in (from + k) more ≡ rows_in (from + k) rows ++ run → ((h : ℕ) → h ≢ from + k → rows_in h more ≡ rows_in h rows)
    → new ≡ set old k (get_or old k [] ++ run) → new ≡ map (λ h. rows_in h more) (range_with_len from hours)
put_in rows more run from hours k old new was within of others put =
    let long : length old ≡ hours = ap length was ∙ length-map-range_with_len (λ h. rows_in h rows) from hours in
    let longer : length new ≡ hours = ap length put ∙ length-set old k (get_or old k [] ++ run) ∙ long in
    ext_get_or [] new (map (λ h. rows_in h more) (range_with_len from hours)) (longer ∙ sym (length-map-range_with_len (λ h. rows_in h more) from hours))
    (λ j l.
    let inside : j < hours = omega arith in
    let now : get_or (map (λ h. rows_in h more) (range_with_len from hours)) j [] ≡ rows_in (from + j) more = get_or-map-range_with_len (λ h. rows_in h more) from hours j (from + j) [] inside refl in
    let before : get_or old j [] ≡ rows_in (from + j) rows = ap (λ x. get_or x j []) was ∙ get_or-map-range_with_len (λ h. rows_in h rows) from hours j (from + j) [] inside refl in
    let written : get_or new j [] ≡ get_or (set old k (get_or old k [] ++ run)) j [] = ap (λ x. get_or x j []) put in
    ⊎_elim
    (λ (same : j ≡ k).
    let here : get_or (set old k (get_or old k [] ++ run)) j [] ≡ get_or old k [] ++ run = rw same (get_or-set_same old k (get_or old k [] ++ run) [] (omega arith)) in
    let was_here : get_or old k [] ≡ rows_in (from + j) rows = ap (λ x. get_or old x []) (sym same) ∙ before in
    let of_here : rows_in (from + j) more ≡ rows_in (from + j) rows ++ run = rw same of in
    written ∙ here ∙ ap (λ l. l ++ run) was_here ∙ sym of_here ∙ sym now)
    (λ (other : j ≢ k).
    let apart : from + j ≢ from + k = λ e. other (omega arith) in
    written ∙ get_or-set_other old k j (get_or old k [] ++ run) [] other ∙ before ∙ sym (others (from + j) apart) ∙ sym now)
    (cases_eq j k))

-- ---- rows at places

-- a row of a list
pub some_row : (rows : List Charge) (i : ℕ) → i < length rows → (row : Charge) × (slice_get rows i ≡ Some row)
some_row rows i below =
    ⊎_elim
    (λ (found : (x : Charge) × (i < length rows) × (slice_get rows i ≡ Some x) × (get_or rows i x ≡ x)). (found.0, found.2))
    (λ past. let over = past.0 in absurd (omega (arith, over, below)))
    (slice_get_cases rows i).1

-- the rows of an hour of a segment that is at its number
pub rows_of_segment : (segments : List (List Charge)) (segment : List Charge) (p : HourPlace) → slice_get segments p.segment ≡ Some segment → rows_there segments p ≡ rows_in (slice_index (hours_of segment) p.number) segment
rows_of_segment segments segment p here = ap (λ s. rows_in (slice_index (hours_of s) p.number) s) (get_or_from_slice_get segments p.segment segment [] here)

pub is_there : (segments : List (List Charge)) (segment : List Charge) (p : HourPlace) → slice_get segments p.segment ≡ Some segment → p.number < length (hours_of segment) → IsThere segments p
is_there segments segment p here below = record {
  segment = slice_get_within segments p.segment segment here;
  number = rw (get_or_from_slice_get segments p.segment segment [] here) below;
}

-- the rows at one more place
pub rows_at-more : (segments : List (List Charge)) (places : List HourPlace) (i : ℕ) (d : HourPlace) → i < length places
    → rows_at segments (take (i + 1) places) ≡ rows_at segments (take i places) ++ rows_there segments (get_or places i d)
rows_at-more segments places i d below =
    ap (rows_at segments) (take_more places i d below)
    ∙ flat_map-append (rows_there segments) (take i places) (get_or places i d ∷ [])
    ∙ ap (λ l. rows_at segments (take i places) ++ l) (append-nil (rows_there segments (get_or places i d)))

-- the row at one more place of a segment
pub places-more : (rows : List Charge) (places : List ℕ) (i d : ℕ) (row : Charge) → i < length places → slice_get rows (get_or places i d) ≡ Some row
    → rows_of_places rows (take (i + 1) places) ≡ rows_of_places rows (take i places) ++ row ∷ []
places-more rows places i d row below there =
    ap (rows_of_places rows) (take_more places i d below)
    ∙ filter_map-append (slice_get rows) (take i places) (get_or places i d ∷ [])
    ∙ ap (λ l. rows_of_places rows (take i places) ++ l) (rw there refl)

-- the rows at the places of an hour are the hour's
pub rows_of_hour_places : (hour : ℕ) (rows : List Charge) → rows_of_places rows (places_of_hour hour rows) ≡ rows_in hour rows
unfolding rows_in is_of_hour
rows_of_hour_places hour rows = rows_at_places hour rows

-- ---- the lists of places

-- no place yet
pub AreByHour-none : (segments : List (List Charge)) (lists : List (Vec HourPlace Global)) (from hours : ℕ) → map (λ (v : Vec HourPlace Global). v.items) lists ≡ map (nothing {X = HourPlace}) (range_with_len 0 hours)
    → AreByHour segments [] from hours lists
unfolding rows_in
AreByHour-none segments lists from hours none = record {
  there = λ k d below.
      let many : length lists ≡ hours = sym (length-map lists (λ (v : Vec HourPlace Global). v.items)) ∙ ap length none ∙ length-map-range_with_len (nothing {X = HourPlace}) 0 hours in
      let inside : k < hours = omega arith in
      let empty : (get_or lists k d).items ≡ [] =
      sym (get_or-map (λ (v : Vec HourPlace Global). v.items) lists k d [] below) ∙ ap (λ l. get_or l k []) none ∙ get_or-map-range_with_len (nothing {X = HourPlace}) 0 hours k (0 + k) [] inside refl in
      rw empty (All-nil (IsThere segments));
  each =
      sym (map-map (rows_at segments) (λ (v : Vec HourPlace Global). v.items) lists)
      ∙ ap (map (rows_at segments)) none
      ∙ map-map (rows_at segments) (nothing {X = HourPlace}) (range_with_len 0 hours)
      ∙ empty_lists 0 from hours;
}

-- more rows of an hour, whose place goes to the list of the hour
pub AreByHour-put : (segments : List (List Charge)) (rows more : List Charge) (p : HourPlace) (from hours k : ℕ) (old new : List (Vec HourPlace Global)) → k < hours
    → rows_in (from + k) more ≡ rows_in (from + k) rows ++ rows_there segments p → ((h : ℕ) → h ≢ from + k → rows_in h more ≡ rows_in h rows) → AreByHour segments rows from hours old
    → map (rows_of_list segments) new ≡ set (map (rows_of_list segments) old) k (get_or (map (rows_of_list segments) old) k [] ++ rows_at segments (p ∷ []))
    → All (AreThere segments) new → AreByHour segments more from hours new
AreByHour-put segments rows more p from hours k old new within of others by put there = record {
  there = there;
  each =
      put_in rows more (rows_there segments p) from hours k (map (rows_of_list segments) old) (map (rows_of_list segments) new) by.each within of others
      (put ∙ ap (λ l. set (map (rows_of_list segments) old) k (get_or (map (rows_of_list segments) old) k [] ++ l)) (append-nil (rows_there segments p)));
}

-- the rows of an hour are those at the places of its list
pub rows_of_hour : (segments : List (List Charge)) (rows : List Charge) (by_hour : List (Vec HourPlace Global)) (from i : ℕ) (v : Vec HourPlace Global) → AreByHour segments rows from (length by_hour) by_hour → i < length by_hour
    → v ≡ get_or by_hour i v → rows_of_list segments v ≡ rows_in (from + i) rows
rows_of_hour segments rows by_hour from i v by below is =
    ap (rows_of_list segments) is ∙ sym (get_or-map (rows_of_list segments) by_hour i v (rows_of_list segments v) below) ∙ ap (λ l. get_or l i (rows_of_list segments v)) by.each
    ∙ get_or-map-range_with_len (λ h. rows_in h rows) from (length by_hour) i (from + i) (rows_of_list segments v) below refl

-- there are as many lists as hours
pub by_hour_long : (segments : List (List Charge)) (rows : List Charge) (by_hour : List (Vec HourPlace Global)) (from hours : ℕ) → AreByHour segments rows from hours by_hour → length by_hour ≡ hours
by_hour_long segments rows by_hour from hours by =
    sym (length-map by_hour (rows_of_list segments)) ∙ ap length by.each ∙ length-map-range_with_len (λ h. rows_in h rows) from hours

-- ---- rows in turn

-- one more segment
pub all_rows-more : (segments : List (List Charge)) (i : ℕ) (segment : List Charge) → slice_get segments i ≡ Some segment → all_rows (take (i + 1) segments) ≡ all_rows (take i segments) ++ segment
all_rows-more segments i segment there =
    ap all_rows (take_more segments i segment (slice_get_within segments i segment there) ∙ ap (λ s. take i segments ++ s ∷ []) (get_or_from_slice_get segments i segment segment there))
    ∙ flat_map-append (λ rows. rows) (take i segments) (segment ∷ [])
    ∙ ap (λ l. all_rows (take i segments) ++ l) (append-nil segment)

-- the segment that a list of references lends at a number
pub lent_there : (segments : List (Bor (List Charge))) (i : ℕ) (s : Bor (List Charge)) → i < length segments → s ≡ get_or segments i s → slice_get (lent segments) i ≡ Some s.now
lent_there segments i s below is =
    let same : get_or (lent segments) i s.now ≡ s.now = get_or-map (λ (x : Bor (List Charge)). x.now) segments i s s.now below ∙ ap (λ (x : Bor (List Charge)). x.now) (sym is) in
    read (lent segments) i s.now (rw (length-map segments (λ (x : Bor (List Charge)). x.now)) below) same
  where
    read : (xs : List (List Charge)) (i : ℕ) (x : List Charge) → i < length xs → get_or xs i x ≡ x → slice_get xs i ≡ Some x
    read xs i x below is = slice_get_read xs (length xs) i x refl below (sym is)

-- the segment of a place
pub place_there : (segments : List (Bor (List Charge))) (places : List HourPlace) (i : ℕ) (d : HourPlace) (s : Bor (List Charge)) → i < length places → All (IsThere (lent segments)) places
    → s ≡ get_or segments (get_or places i d).segment s → slice_get (lent segments) (get_or places i d).segment ≡ Some s.now
place_there segments places i d s below all is =
    let here : (get_or places i d).segment < length (lent segments) = (all i d below).segment in
    let inside : (get_or places i d).segment < length segments = rw (← length-map segments (λ (x : Bor (List Charge)). x.now)) here in
    lent_there segments (get_or places i d).segment s inside is

-- the rows at one more place, as references lend the segments
pub rows_at-step : (segments : List (Bor (List Charge))) (places : List HourPlace) (i : ℕ) (d : HourPlace) (s : Bor (List Charge)) → i < length places → All (IsThere (lent segments)) places
    → s ≡ get_or segments (get_or places i d).segment s
    → rows_at (lent segments) (take (i + 1) places) ≡ rows_at (lent segments) (take i places) ++ rows_in (slice_index (hours_of s.now) (get_or places i d).number) s.now
rows_at-step segments places i d s below all is =
    rows_at-more (lent segments) places i d below
    ∙ ap (λ l. rows_at (lent segments) (take i places) ++ l) (rows_of_segment (lent segments) s.now (get_or places i d) (place_there segments places i d s below all is))

-- it stands at its number
pub segment_there : (segments : List (Bor (List Charge))) (places : List HourPlace) (i : ℕ) (d : HourPlace) (s : Bor (List Charge)) → i < length places → All (IsThere (lent segments)) places
    → s ≡ get_or segments (get_or places i d).segment s → get_or (lent segments) (get_or places i d).segment [] ≡ s.now
segment_there segments places i d s below all is = get_or_from_slice_get (lent segments) (get_or places i d).segment s.now [] (place_there segments places i d s below all is)

-- the hour of a place is one of its segment
pub number_there : (segments : List (Bor (List Charge))) (places : List HourPlace) (i : ℕ) (d : HourPlace) (s : Bor (List Charge)) → i < length places → All (IsThere (lent segments)) places
    → s ≡ get_or segments (get_or places i d).segment s → (get_or places i d).number < length (hours_of s.now)
number_there segments places i d s below all is =
    rw (segment_there segments places i d s below all is) at (all i d below).number

-- the rows of the segment of a row, as references lend it
pub row_segment_there : (segments : List (Bor (List Charge))) (places : List RowPlace) (i : ℕ) (d : RowPlace) (s : Bor (List Charge)) → i < length places → All (HasRow (lent segments)) places → s ≡ get_or segments (get_or places i d).segment s
    → get_or (lent segments) (get_or places i d).segment [] ≡ s.now
row_segment_there segments places i d s below all is =
    let here : (get_or places i d).segment < length (lent segments) = (all i d below).segment in
    let inside : (get_or places i d).segment < length segments = rw (← length-map segments (λ (x : Bor (List Charge)). x.now)) here in
    get_or_from_slice_get (lent segments) (get_or places i d).segment s.now [] (lent_there segments (get_or places i d).segment s inside is)

-- one more row, as references lend the segments
pub lent-more : (segments : List (Bor (List Charge))) (places : List RowPlace) (i : ℕ) (d : RowPlace) (s : Bor (List Charge)) (row : Charge) → i < length places → All (HasRow (lent segments)) places
    → s ≡ get_or segments (get_or places i d).segment s → slice_get s.now (get_or places i d).place ≡ Some row
    → filter_map (row_at (lent segments)) (take (i + 1) places) ≡ filter_map (row_at (lent segments)) (take i places) ++ row ∷ []
lent-more segments places i d s row below all is there =
    let at = row_segment_there segments places i d s below all is in
    let found : row_at (lent segments) (get_or places i d) ≡ Some row = ap (λ rows. slice_get rows (get_or places i d).place) at ∙ there in
    ap (filter_map (row_at (lent segments))) (take_more places i d below)
    ∙ filter_map-append (row_at (lent segments)) (take i places) (get_or places i d ∷ [])
    ∙ ap (λ l. filter_map (row_at (lent segments)) (take i places) ++ l) (rw found refl)

-- the rows at the places of a list are of its hour
pub of_hour : (segments : List (List Charge)) (rows : List Charge) (by_hour : List (Vec HourPlace Global)) (from i : ℕ) (v : Vec HourPlace Global) → AreByHour segments rows from (length by_hour) by_hour → i < length by_hour
    → v ≡ get_or by_hour i v → All (λ (r : Charge). hour_of r.start ≡ from + i) (rows_of_list segments v)
of_hour segments rows by_hour from i v by below is = rw (rows_of_hour segments rows by_hour from i v by below is) (rows_are_of_hour (from + i) rows)
