-- Rows that no commitment applies to may be left out of what commitments bring to an hour.
use Rattle.std.proofs.Common.{◌≡◌, ◌∙◌, ⊎_elim, below_more, is_some, rules, IfSome, ℕ, zero, suc, ◌+◌, ◌<◌, ◌≤◌, All, Bool, Bor, true, false, cond, not, nat_lt, List, [], ◌∷◌, ◌++◌, length, get_or, map, filter, take, Option, Some, None, arith, refl, sym, ap, subst, append-nil, append_assoc}
use Rattle.std.specs.Prelude.{◌==◌, ◌||◌, slice_get, slice_index, slice_index_or}
use Rattle.std.specs.List.{cons_option, enumerate_from, filter_map, flat_map, list_any}
use Rattle.std.specs.Option.{option_map_or}
use Rattle.std.specs.Str.{bytes_eq}
use Rattle.std.proofs.Math.ListN.{get_or-append}
use Rattle.std.proofs.lemmas.Bool.{cases_lt, eq-eqb, le-ltb, lt-ltb, ne_eqb}
use Rattle.std.proofs.lemmas.Grind.{flat_map-append}
use Rattle.std.proofs.lemmas.List.{get_or_at, get_or_past, length-append, map-append, take_more}
use Rattle.std.proofs.lemmas.List.Elements.{All-append, All-cons, All-from_get_or, All-head, All-nil, All-tail, All-weaker, filter-append, filter_map-append}
use Rattle.std.proofs.lemmas.List.Folds.{list_any_none}
use Rattle.std.proofs.lemmas.Option.{slice_get_cases}
use Rattle.fw_charge.specs.Charge.{Charge}
use Rattle.fw_columns.specs.BySku.{places_of_sku, sku_codes, skus_of_hour}
use Rattle.fw_columns.specs.Hours.{hours_of, places_of_hour}
use Rattle.fw_columns.proofs.HourFacts.{alike, kept_alike, places_within}
use Rattle.fw_columns.proofs.SkuFacts.{any_sku}
use Rattle.fw_terms.specs.Commitment.{CommitmentValue}
use Rattle.fw_cover.specs.Hour.{hour_cover, left_of, quantity_of}
use Rattle.fw_cover.specs.Offers.{sku_offers}
use Rattle.fw_cover.specs.RosterView.{HasHour, RosterValue, lists_row, lists_sku, offers_in, offers_of_row}
use Rattle.fw_cover.specs.Untouched.{IsUntouched, place_past}
use Rattle.fw_cover.specs.declared.offers.SkuOffers.{SkuOffers}
use Rattle.fw_cover.proofs.Listed.{listed_by_offers, unlisted_untouched}
use Rattle.fw_cover.proofs.Sorting.{two_ways}
use Rattle.fw_cover.proofs.Untouched.{left_past, left_whole}
use Rattle.fw_amortise.proofs.Untouched.{own_past}
use Rattle.fw_row_table.specs.Codes.{text_code}
use Rattle.fw_row_table.specs.Names.{Text, place_of}
use Rattle.fw_row_table.specs.Texts.{names_of}
use Rattle.fw_row_table.proofs.NameFacts.{place-missing}
use Rattle.fw_sums.specs.Corrections.{correction_of, corrections}
use Rattle.fw_sums.specs.Costs.{costs_of}
use Rattle.fw_sums.specs.ReportCache.{AreOwnSums}
use Rattle.fw_sums.specs.Hours.{HasRow, IsThere, lent, row_at, row_places, row_places_at, row_places_there, rows_at, rows_there}
use Rattle.fw_sums.specs.Listed.{AreListed, AreOffersOf, IsOnly, found_at, is_marked_code, is_nothing, may_be_listed}
use Rattle.fw_sums.specs.Sums.{Counts}
use Rattle.fw_sums.specs.declared.groups.Groups.{Groups}
use Rattle.fw_sums.specs.declared.hours.HourPlace.{HourPlace}
use Rattle.fw_sums.specs.declared.hours.RowPlace.{RowPlace}
use Rattle.fw_sums.specs.declared.listed.Listed.{Listed}
use Rattle.fw_sums.proofs.CodeFacts.{name_there}
use Rattle.fw_sums.proofs.CorrectionFacts.{corrections_by, none_lost}
use Rattle.fw_sums.proofs.HourFacts.{lent-more, row_segment_there, rows_of_hour_places}

-- ---- one such row corrects nothing, and the others are corrected as without it

-- as much is left of each row, with the new one and without it
abbrev IsPast : ℕ → (ℕ → ℕ) → (ℕ → ℕ) → Type 0
IsPast at less more = (r : ℕ) → more (place_past at r) ≡ less r

-- the rows after the new one
later_past : (key : List ℕ) (less more : ℕ → ℕ) (at k : ℕ) → IsPast at less more → (after : List Charge) → at ≤ k
    → flat_map (corrections_by key more) (enumerate_from (k + 1) after) ≡ flat_map (corrections_by key less) (enumerate_from k after)
later_past key less more at k past [] le = refl
later_past key less more at k past (x ∷ after) le =
    let behind : nat_lt k at ≡ false = le-ltb k at le in
    let here : more (k + 1) ≡ less k = rw behind at (past k) in
    let rest = later_past key less more at (k + 1) past after (omega (arith, le)) in
    λ j. correction_of key x (here j) ++ rest j

-- all rows, of which the first has place k
rows_past : (key : List ℕ) (less more : ℕ → ℕ) (at k : ℕ) → IsPast at less more → (before after : List Charge) (row : Charge) → quantity_of row ≤ more at → at ≡ k + length before
    → flat_map (corrections_by key more) (enumerate_from k (before ++ row ∷ after)) ≡ flat_map (corrections_by key less) (enumerate_from k (before ++ after))
rows_past key less more at k past [] after row whole e =
    let here : k ≡ at = omega (arith, e) in
    ap (λ l. l ++ flat_map (corrections_by key more) (enumerate_from (k + 1) after)) (none_lost key row (more k) (rw here whole))
    ∙ later_past key less more at k past after (omega (arith, e))
rows_past key less more at k past (x ∷ before) after row whole e =
    let early : nat_lt k at ≡ true = lt-ltb k at (omega (arith, e)) in
    let here : more k ≡ less k = rw early at (past k) in
    let rest = rows_past key less more at (k + 1) past before after row whole (omega (arith, e)) in
    λ j. correction_of key x (here j) ++ rest j

corrections_past : (key : List ℕ) (cs : List CommitmentValue) (before after : List Charge) (row : Charge) (hour : ℕ) → IsUntouched cs hour row
    → corrections key (before ++ row ∷ after) (left_of (before ++ row ∷ after) (hour_cover cs (before ++ row ∷ after) hour)) ≡ corrections key (before ++ after) (left_of (before ++ after) (hour_cover cs (before ++ after) hour))
unfolding corrections
corrections_past key cs before after row hour none =
    let whole = left_whole cs before after row hour none in
    rows_past key (left_of (before ++ after) (hour_cover cs (before ++ after) hour)) (left_of (before ++ row ∷ after) (hour_cover cs (before ++ row ∷ after) hour)) (length before) 0
    (left_past cs before after row hour none) before after row (omega (arith, whole)) (omega arith)

-- ---- what commitments bring to an hour is the same without such rows

one_more : (cs : List CommitmentValue) (key : List ℕ) (hour : ℕ) (sums : Groups) (before after : List Charge) (row : Charge) → IsUntouched cs hour row → AreOwnSums cs (before ++ after) key hour sums → AreOwnSums cs (before ++ row ∷ after) key hour sums
one_more cs key hour sums before after row none are = record {
  own = are.own;
  are_own = own_past cs before after row hour are.own none are.are_own;
  counts = subst (λ lost. Counts sums (costs_of key are.own ++ lost)) (sym (corrections_past key cs before after row hour none)) are.counts;
}

-- rows that f finds, of which those are left out at which a test fails; the rows before are there either way
module _ {X : Type 0} (f : X → Option Charge) (test : X → Bool) (cs : List CommitmentValue) (key : List ℕ) (hour : ℕ) (sums : Groups) where
  -- a row at which the test fails is one that no commitment applies to
  abbrev pub LeavesOut : Type 0
  LeavesOut = (x : X) (row : Charge) → test x ≡ false → f x ≡ Some row → IsUntouched cs hour row

  one_kept : (before rest all : List Charge) (o : Option Charge) → ((before : List Charge) → AreOwnSums cs (before ++ rest) key hour sums → AreOwnSums cs (before ++ all) key hour sums)
      → AreOwnSums cs (before ++ cons_option o rest) key hour sums → AreOwnSums cs (before ++ cons_option o all) key hour sums
  one_kept before rest all None later are = later before are
  one_kept before rest all (Some row) later are = let more : List Charge = before ++ row ∷ [] in
      rw (← append_assoc before (row ∷ []) all) (later more (rw (append_assoc before (row ∷ []) rest) are))

  one_left_out : (before all : List Charge) (o : Option Charge) → ((row : Charge) → o ≡ Some row → IsUntouched cs hour row)
      → AreOwnSums cs (before ++ all) key hour sums → AreOwnSums cs (before ++ cons_option o all) key hour sums
  one_left_out before all None none are = are
  one_left_out before all (Some row) none are = one_more cs key hour sums before all row (none row refl) are

  rows_left_out : LeavesOut → (xs : List X) (before : List Charge) → AreOwnSums cs (before ++ filter_map f (filter test xs)) key hour sums → AreOwnSums cs (before ++ filter_map f xs) key hour sums
  rows_left_out none [] before are = are
  rows_left_out none (x ∷ xs) before are = two_ways (test x)
      (λ kept. one_kept before (filter_map f (filter test xs)) (filter_map f xs) (f x) (λ more. rows_left_out none xs more) (rw kept at are))
      (λ out. one_left_out before (filter_map f xs) (f x) (λ row is. none x row out is) (rows_left_out none xs before (rw out at are)))

  pub without_untouched : LeavesOut → (xs : List X) → AreOwnSums cs (filter_map f (filter test xs)) key hour sums → AreOwnSums cs (filter_map f xs) key hour sums
  without_untouched none xs are = rows_left_out none xs [] are

-- ---- rows at places of hours, one by one

filter_map-map : {A B : Type 0} (f : B → Option Charge) (g : A → B) (xs : List A) → filter_map f (map g xs) ≡ filter_map (λ x. f (g x)) xs
filter_map-map f g [] = refl
filter_map-map f g (x ∷ xs) = ap (cons_option (f (g x))) (filter_map-map f g xs)

-- they are the rows at the places
pub rows_of_row_places : (segments : List (List Charge)) (places : List HourPlace) → filter_map (row_at segments) (row_places_at segments places) ≡ rows_at segments places
rows_of_row_places segments [] = refl
rows_of_row_places segments (p ∷ places) =
    let rows : List Charge = get_or segments p.segment [] in
    let hour : ℕ = slice_index (hours_of rows) p.number in
    filter_map-append (row_at segments) (row_places_there segments p) (row_places_at segments places)
    ∙ ap (λ l. l ++ filter_map (row_at segments) (row_places_at segments places))
    (filter_map-map (row_at segments) (λ (place : ℕ). record { segment = p.segment; place = place }) (places_of_hour hour rows) ∙ rows_of_hour_places hour rows)
    ∙ ap (λ l. rows_there segments p ++ l) (rows_of_row_places segments places)

-- there is a row at each
pub all_have_rows : (segments : List (List Charge)) (places : List HourPlace) → All (IsThere segments) places → All (HasRow segments) (row_places_at segments places)
all_have_rows segments [] there = All-nil (HasRow segments)
all_have_rows segments (p ∷ places) there =
    let rows : List Charge = get_or segments p.segment [] in
    let hour : ℕ = slice_index (hours_of rows) p.number in
    let here : IsThere segments p = All-head (IsThere segments) p places there in
    All-append (HasRow segments) (row_places_there segments p) (row_places_at segments places)
    (each_has p.segment (places_of_hour hour rows) here.segment (places_within hour rows))
    (all_have_rows segments places (All-tail (IsThere segments) p places there))
  where
    each_has : (segment : ℕ) (at : List ℕ) → segment < length segments → All (λ place. place < length (get_or segments segment [])) at → All (HasRow segments) (row_places segment at)
    each_has segment [] below within = All-nil (HasRow segments)
    each_has segment (place ∷ at) below within =
        All-cons (HasRow segments) (record { segment = segment; place = place }) (row_places segment at)
        (record { segment = below; place = All-head (λ place. place < length (get_or segments segment [])) place at within })
        (each_has segment at below (All-tail (λ place. place < length (get_or segments segment [])) place at within))

-- one more place of a segment
pub place_more : (listed : Listed) (segments : List (List Charge)) (number : ℕ) (places : List ℕ) (i d : ℕ) → i < length places
    → filter (may_be_listed listed segments) (row_places number (take (i + 1) places))
    ≡ filter (may_be_listed listed segments) (row_places number (take i places)) ++ filter (may_be_listed listed segments) (record { segment = number; place = get_or places i d } ∷ [])
place_more listed segments number places i d below =
    ap (λ l. filter (may_be_listed listed segments) (row_places number l)) (take_more places i d below)
    ∙ ap (filter (may_be_listed listed segments)) (map-append (λ (place : ℕ). record { segment = number; place = place }) (take i places) (get_or places i d ∷ []))
    ∙ filter-append (may_be_listed listed segments) (row_places number (take i places)) (record { segment = number; place = get_or places i d } ∷ [])

-- one more hour of a segment
pub hour_more : (listed : Listed) (segments : List (List Charge)) (places : List HourPlace) (i : ℕ) (d : HourPlace) → i < length places
    → filter (may_be_listed listed segments) (row_places_at segments (take (i + 1) places))
    ≡ filter (may_be_listed listed segments) (row_places_at segments (take i places)) ++ filter (may_be_listed listed segments) (row_places_there segments (get_or places i d))
hour_more listed segments places i d below =
    ap (λ l. filter (may_be_listed listed segments) (row_places_at segments l)) (take_more places i d below)
    ∙ ap (filter (may_be_listed listed segments)) (flat_map-append (row_places_there segments) (take i places) (get_or places i d ∷ []) ∙ ap (λ l. row_places_at segments (take i places) ++ l) (append-nil (row_places_there segments (get_or places i d))))
    ∙ filter-append (may_be_listed listed segments) (row_places_at segments (take i places)) (row_places_there segments (get_or places i d))

-- the rows of one more hour are added
pub hour_step : (listed : Listed) (segments : List (List Charge)) (places : List HourPlace) (i : ℕ) (d : HourPlace) (old new : List RowPlace) → i < length places
    → old ≡ filter (may_be_listed listed segments) (row_places_at segments (take i places)) → new ≡ old ++ filter (may_be_listed listed segments) (row_places_there segments (get_or places i d))
    → new ≡ filter (may_be_listed listed segments) (row_places_at segments (take (i + 1) places))
hour_step listed segments places i d old new below so_far more =
    more ∙ ap (λ l. l ++ filter (may_be_listed listed segments) (row_places_there segments (get_or places i d))) so_far ∙ sym (hour_more listed segments places i d below)

-- the rows of an hour of a segment
pub hour_added : (listed : Listed) (segments : List (List Charge)) (at : HourPlace) (rows : List Charge) (old new added : List RowPlace) → get_or segments at.segment [] ≡ rows → new ≡ old ++ added
    → filter (may_be_listed listed segments) (row_places at.segment (places_of_hour (slice_index (hours_of rows) at.number) rows)) ≡ added → new ≡ old ++ filter (may_be_listed listed segments) (row_places_there segments at)
hour_added listed segments at rows old new added here more is =
    let own : row_places_there segments at ≡ row_places at.segment (places_of_hour (slice_index (hours_of rows) at.number) rows) =
    ap (λ rows. row_places at.segment (places_of_hour (slice_index (hours_of rows) at.number) rows)) here in
    more ∙ ap (λ l. old ++ l) (sym (ap (filter (may_be_listed listed segments)) own ∙ is))

-- where no row of an hour has a SKU that may be listed, none is added
filter_none : (test : RowPlace → Bool) (number : ℕ) (places : List ℕ) → list_any (λ place. test (record { segment = number; place = place })) places ≡ false → filter test (row_places number places) ≡ []
filter_none test number [] e = refl
filter_none test number (place ∷ places) e = by (test (record { segment = number; place = place })) refl e (filter_none test number places)
  where
    by : (b : Bool) → test (record { segment = number; place = place }) ≡ b → (b || list_any (λ place. test (record { segment = number; place = place })) places) ≡ false
        → (list_any (λ place. test (record { segment = number; place = place })) places ≡ false → filter test (row_places number places) ≡ []) → filter test (row_places number (place ∷ places)) ≡ []
    by true is h rest = absurd (cc)
    by false is h rest = rw is (rest h)

pub none_listed : (listed : Listed) (segments : List (List Charge)) (number hour : ℕ) (rows : List Charge) (codes : List ℕ) → get_or segments number [] ≡ rows → codes ≡ skus_of_hour hour rows
    → list_any (λ code. not (is_marked_code listed number code)) codes ≡ false → filter (may_be_listed listed segments) (row_places number (places_of_hour hour rows)) ≡ []
none_listed listed segments number hour rows codes here are none =
    filter_none (may_be_listed listed segments) number (places_of_hour hour rows)
    ((λ j. list_any (λ place. not (is_marked_code listed number (slice_index_or (sku_codes (here j)) place 0))) (places_of_hour hour rows))
    ∙ sym (any_sku (λ code. not (is_marked_code listed number code)) hour rows) ∙ ap (list_any (λ code. not (is_marked_code listed number code))) (sym are) ∙ none)

-- rows by the codes of an hour, of which each passes a test or none: the test by the code says which rows are kept
abbrev differ : Bool → Bool → Bool
differ a b = cond a (not b) b

same_of_differ : (a b : Bool) → differ a b ≡ false → a ≡ b
same_of_differ true true e = refl
same_of_differ true false e = absurd (cc)
same_of_differ false true e = absurd (cc)
same_of_differ false false e = refl

differ_none : (a b : Bool) → a ≡ b → differ a b ≡ false
differ_none true b e = rw (← e) refl
differ_none false b e = rw (← e) refl

none_all : (p : ℕ → Bool) (xs : List ℕ) → list_any p xs ≡ false → All (λ x. p x ≡ false) xs
none_all p [] e = All-nil (λ x. p x ≡ false)
none_all p (x ∷ xs) e = by (p x) refl e (none_all p xs)
  where
    by : (b : Bool) → p x ≡ b → (b || list_any p xs) ≡ false → (list_any p xs ≡ false → All (λ x. p x ≡ false) xs) → All (λ x. p x ≡ false) (x ∷ xs)
    by true is h rest = absurd (cc)
    by false is h rest = All-cons (λ x. p x ≡ false) x xs is (rest h)

kept_of_places : (test : RowPlace → Bool) (number : ℕ) (places : List ℕ) → filter test (row_places number places) ≡ row_places number (filter (λ place. test (record { segment = number; place = place })) places)
kept_of_places test number [] = refl
kept_of_places test number (place ∷ places) =
    let p : RowPlace = record { segment = number; place = place } in
    by (test p) (kept_of_places test number places)
  where
    by : (b : Bool) → filter test (row_places number places) ≡ row_places number (filter (λ place. test (record { segment = number; place = place })) places)
        → cond b (record { segment = number; place = place } ∷ filter test (row_places number places)) (filter test (row_places number places))
        ≡ row_places number (cond b (place ∷ filter (λ place. test (record { segment = number; place = place })) places) (filter (λ place. test (record { segment = number; place = place })) places))
    by true rest = ap (λ l. record { segment = number; place = place } ∷ l) rest
    by false rest = rest

kept_by_code : (listed : Listed) (segments : List (List Charge)) (number hour : ℕ) (rows : List Charge) (codes : List ℕ) (test : ℕ → Bool) → get_or segments number [] ≡ rows → codes ≡ skus_of_hour hour rows
    → All (λ code. not (is_marked_code listed number code) ≡ test code) codes
    → filter (may_be_listed listed segments) (row_places number (places_of_hour hour rows)) ≡ row_places number (filter (λ place. test (slice_index_or (sku_codes rows) place 0)) (places_of_hour hour rows))
kept_by_code listed segments number hour rows codes test here are same =
    let may = λ (code : ℕ). not (is_marked_code listed number code) in
    let bad = λ (code : ℕ). differ (may code) (test code) in
    let none : list_any bad codes ≡ false = list_any_none bad codes (All-weaker (λ code. may code ≡ test code) (λ code. bad code ≡ false) (λ code e. differ_none (may code) (test code) e) codes same) in
    let none' : list_any (λ place. bad (slice_index_or (sku_codes rows) place 0)) (places_of_hour hour rows) ≡ false = sym (any_sku bad hour rows) ∙ ap (list_any bad) (sym are) ∙ none in
    let each = none_all (λ place. bad (slice_index_or (sku_codes rows) place 0)) (places_of_hour hour rows) none' in
    kept_of_places (may_be_listed listed segments) number (places_of_hour hour rows)
    ∙ (λ j. row_places number (filter (λ place. not (is_marked_code listed number (slice_index_or (sku_codes (here j)) place 0))) (places_of_hour hour rows)))
    ∙ ap (row_places number)
    (kept_alike (λ place. may (slice_index_or (sku_codes rows) place 0)) (λ place. test (slice_index_or (sku_codes rows) place 0)) (places_of_hour hour rows)
    (All-weaker (λ place. bad (slice_index_or (sku_codes rows) place 0) ≡ false) (λ place. may (slice_index_or (sku_codes rows) place 0) ≡ test (slice_index_or (sku_codes rows) place 0))
    (λ place e. same_of_differ (may (slice_index_or (sku_codes rows) place 0)) (test (slice_index_or (sku_codes rows) place 0)) e) (places_of_hour hour rows) each))

all_kept : (xs : List ℕ) → filter (λ x. true) xs ≡ xs
all_kept [] = refl
all_kept (x ∷ xs) = ap (λ l. x ∷ l) (all_kept xs)

-- where all SKUs of an hour may be listed, all its rows are added
pub all_listed : (listed : Listed) (segments : List (List Charge)) (number hour : ℕ) (rows : List Charge) (codes : List ℕ) → get_or segments number [] ≡ rows → codes ≡ skus_of_hour hour rows
    → list_any (λ code. is_marked_code listed number code) codes ≡ false → filter (may_be_listed listed segments) (row_places number (places_of_hour hour rows)) ≡ row_places number (places_of_hour hour rows)
all_listed listed segments number hour rows codes here are none =
    kept_by_code listed segments number hour rows codes (λ code. true) here are
    (All-weaker (λ code. is_marked_code listed number code ≡ false) (λ code. not (is_marked_code listed number code) ≡ true) (λ code e. ap not e) codes (none_all (λ code. is_marked_code listed number code) codes none))
    ∙ ap (row_places number) (all_kept (places_of_hour hour rows))

-- which of the first codes isn't marked: none, or just this one
pub IsOnlyBefore : Listed → ℕ → List ℕ → ℕ → Option ℕ → Type 0
IsOnlyBefore listed segment codes n None = (k : ℕ) → k < n → is_marked_code listed segment (slice_index codes k) ≡ true
IsOnlyBefore listed segment codes n (Some which) = (which < n) × ((k : ℕ) → k < n → is_marked_code listed segment (slice_index codes k) ≡ not (k == which))

-- of no codes
pub only_none : (listed : Listed) (segment : ℕ) (codes : List ℕ) → IsOnlyBefore listed segment codes 0 None
unfolding IsOnlyBefore
only_none listed segment codes = λ k l. absurd (omega (arith, l))

-- a code more that is marked
pub marked_more : (listed : Listed) (segment : ℕ) (codes : List ℕ) (n : ℕ) (only : Option ℕ) → IsOnlyBefore listed segment codes n only → is_marked_code listed segment (slice_index codes n) ≡ true → IsOnlyBefore listed segment codes (n + 1) only
unfolding IsOnlyBefore
marked_more listed segment codes n None before is = below_more _ n before is
marked_more listed segment codes n (Some which) before is =
    let below = before.0 in (omega (arith, below), below_more _ n before.1 (is ∙ ap not (sym (ne_eqb n which (λ e. omega (arith, e, below))))))

-- the first that isn't
pub unmarked_first : (listed : Listed) (segment : ℕ) (codes : List ℕ) (n : ℕ) (only : Option ℕ) → is_some only ≡ false → IsOnlyBefore listed segment codes n only → is_marked_code listed segment (slice_index codes n) ≡ false
    → IsOnlyBefore listed segment codes (n + 1) (Some n)
unfolding IsOnlyBefore
unmarked_first listed segment codes n (Some which) none before is = absurd (cc)
unmarked_first listed segment codes n None none before is = (
  omega arith,
  below_more _ n (λ k l. before k l ∙ ap not (sym (ne_eqb k n (λ e. omega (arith, e, l))))) (is ∙ ap not (sym (eq-eqb n n refl))),
)

-- of all codes
pub only_so : (listed : Listed) (segment : ℕ) (codes : List ℕ) (n : ℕ) (only : Option ℕ) → length codes ≤ n → n ≤ length codes → IsOnlyBefore listed segment codes n only → IfSome only (IsOnly listed segment codes)
unfolding IsOnlyBefore
only_so listed segment codes n None least most are = search rules
only_so listed segment codes n (Some which) least most are =
    let below = are.0 in record { there = omega (arith, below, most); each = λ k l. are.1 k (omega (arith, l, least)) }

-- where one is, its rows are
pub one_listed : (listed : Listed) (segments : List (List Charge)) (number hour : ℕ) (rows : List Charge) (codes : List ℕ) (which : ℕ) → get_or segments number [] ≡ rows → codes ≡ skus_of_hour hour rows → IsOnly listed number codes which
    → filter (may_be_listed listed segments) (row_places number (places_of_hour hour rows)) ≡ row_places number (places_of_sku hour (slice_index (skus_of_hour hour rows) which) rows)
unfolding places_of_sku
one_listed listed segments number hour rows codes which here are only =
    let one = slice_index codes which in
    let marked = λ (code : ℕ). is_marked_code listed number code in
    let mine : marked one ≡ false = only.each which only.there ∙ ap not (eq-eqb which which refl) in
    let each : (k : ℕ) → k < length codes → not (marked (slice_index codes k)) ≡ (slice_index codes k == one) =
    λ k l. ap not (only.each k l) ∙ by k l (k == which) refl mine in
    kept_by_code listed segments number hour rows codes (λ code. code == one) here are (All-from_get_or (λ code. not (marked code) ≡ (code == one)) codes 0 each)
    ∙ ap (λ code. row_places number (filter (λ place. slice_index_or (sku_codes rows) place 0 == code) (places_of_hour hour rows))) (ap (λ l. slice_index l which) are)
  where
    by : (k : ℕ) → k < length codes → (b : Bool) → (k == which) ≡ b → is_marked_code listed number (slice_index codes which) ≡ false → not (not b) ≡ (slice_index codes k == slice_index codes which)
    by k l true is mine = sym (eq-eqb (slice_index codes k) (slice_index codes which) (ap (slice_index codes) (alike k which is)))
    by k l false is mine =
        let other : is_marked_code listed number (slice_index codes k) ≡ true = only.each k l ∙ ap not is in
        sym (ne_eqb (slice_index codes k) (slice_index codes which) (λ e. let same = ap (is_marked_code listed number) e in cc))

-- ---- rows by the codes of their SKUs

-- one element more at the end
pub each_pushed : {X : Type 0} (P : ℕ → X → Type 0) (d : X) → ((k : ℕ) → P k d) → (xs : List X) (x : X) → ((k : ℕ) → P k (get_or xs k d)) → P (length xs) x → (k : ℕ) → P k (get_or (xs ++ x ∷ []) k d)
each_pushed P d past xs x each last k = ⊎_elim
    (λ (early : k < length xs). subst (P k) (sym (get_or-append xs (x ∷ []) d k early)) (each k))
    (λ late. ⊎_elim
    (λ (behind : length xs < k). subst (P k) (sym (get_or_past (xs ++ x ∷ []) k d (omega (arith, behind, length-append xs (x ∷ []))))) (past k))
    (λ upto.
    let same : length xs ≡ k = omega (arith, late, upto) in
    rw (← same) (subst (P (length xs)) (sym (get_or_at xs x [] d (length xs) refl)) last))
    (cases_lt (length xs) k))
    (cases_lt k (length xs))

-- what was found of the code of a row's SKU is what the commitments list of the SKU
sku_place : (r : RosterValue) (names : List Text) (sku : Text) (place : ℕ) (found : SkuOffers) → place ≡ place_of names sku → AreOffersOf r names (suc place) found → sku_offers found ≡ offers_in r sku
unfolding AreOffersOf place_of
sku_place r names sku place found at are =
    two_ways (list_any (bytes_eq sku) names)
    (λ among. let there : get_or names place [] ≡ sku = rw at (name_there names sku among) in are.1 ∙ ap (offers_in r) there)
    (λ missing.
    let end : place_of names sku ≡ length names = place-missing (bytes_eq sku) names missing in
    let within : place < length names = are.0 in
    absurd (omega (arith, at, end, within)))

sku_code : (r : RosterValue) (names : List Text) (sku : Option Text) (found : SkuOffers) → AreOffersOf r names (text_code names sku) found → (row : Charge) → row.sku ≡ sku → sku_offers found ≡ offers_of_row r row
unfolding text_code AreOffersOf
sku_code r names None found are row is = rw is are
sku_code r names (Some sku) found are row is =
    let next : 1 + place_of names sku ≡ suc (place_of names sku) = omega arith in
    rw is (sku_place r names sku (place_of names sku) found refl (rw next at are))

code_at : (names : List Text) (rows : List Charge) (k : ℕ) (row : Charge) → slice_get rows k ≡ Some row → get_or (map (λ row. text_code names row.sku) rows) k 0 ≡ text_code names row.sku
code_at names [] k row is = absurd (let e : None ≡ Some row = is in cc)
code_at names (x ∷ rows) zero row is = let same : x ≡ row = cc in ap (λ row. text_code names row.sku) same
code_at names (x ∷ rows) (suc k) row is = code_at names rows k row is

-- so of the row at a place
pub place_found : (segments : List (List Charge)) (r : RosterValue) (listed : Listed) → AreListed segments r listed → (p : RowPlace) (row : Charge) → row_at segments p ≡ Some row
    → IfSome (found_at listed p.segment (get_or (sku_codes (get_or segments p.segment [])) p.place 0)) (λ found. sku_offers found ≡ offers_of_row r row)
unfolding AreListed
place_found segments r listed are p row is =
    let rows : List Charge = get_or segments p.segment [] in
    let code : ℕ = get_or (sku_codes rows) p.place 0 in
    by (names_of rows) code (found_at listed p.segment code) (code_at (names_of rows) rows p.place row is) (are p.segment code)
  where
    by : (names : List Text) (code : ℕ) (found : Option SkuOffers) → code ≡ text_code names row.sku → IfSome found (AreOffersOf r names code) → IfSome found (λ found. sku_offers found ≡ offers_of_row r row)
    by names code None same h = search rules
    by names code (Some found) same h = sku_code r names row.sku found (subst (λ code. AreOffersOf r names code found) same h) row refl

-- where none lists it, none lists the row's SKU
unlisted_row : (r : RosterValue) (row : Charge) → (length (offers_of_row r row) == 0) ≡ true → lists_row r row ≡ false
unlisted_row r row none = by row.sku none
  where
    by : (sku : Option Text) → (length (option_map_or (offers_in r) sku []) == 0) ≡ true → option_map_or (lists_sku r) sku false ≡ false
    by None e = refl
    by (Some sku) e = sym (listed_by_offers r sku) ∙ ap not e

-- and no commitment applies to the row at a place that isn't kept
place_untouched : (segments : List (List Charge)) (r : RosterValue) (listed : Listed) (hour : ℕ) → AreListed segments r listed → HasHour r hour → (p : RowPlace) (row : Charge) → may_be_listed listed segments p ≡ false → row_at segments p ≡ Some row
    → IsUntouched r.commitments hour row
place_untouched segments r listed hour are has p row out is =
    let code : ℕ = get_or (sku_codes (get_or segments p.segment [])) p.place 0 in
    unlisted_untouched r row hour has (by (found_at listed p.segment code) (not_not (is_marked_code listed p.segment code) out) (place_found segments r listed are p row is))
  where
    by : (found : Option SkuOffers) → is_nothing found ≡ true → IfSome found (λ found. sku_offers found ≡ offers_of_row r row) → lists_row r row ≡ false
    by None marked h = absurd (cc)
    by (Some found) marked h = unlisted_row r row (rw h at marked)

    not_not : (b : Bool) → not b ≡ false → b ≡ true
    not_not true e = refl
    not_not false e = sym e

pub without_unlisted : (segments : List (List Charge)) (r : RosterValue) (listed : Listed) (places : List RowPlace) (key : List ℕ) (hour : ℕ) (sums : Groups) → AreListed segments r listed → HasHour r hour
    → AreOwnSums r.commitments (filter_map (row_at segments) (filter (may_be_listed listed segments) places)) key hour sums → AreOwnSums r.commitments (filter_map (row_at segments) places) key hour sums
without_unlisted segments r listed places key hour sums are has own =
    without_untouched (row_at segments) (may_be_listed listed segments) r.commitments key hour sums (place_untouched segments r listed hour are has) places own

-- ---- what is listed of one more row

pub offers_more : (segments : List (Bor (List Charge))) (r : RosterValue) (places : List RowPlace) (i : ℕ) (d : RowPlace) (s : Bor (List Charge)) (offers : SkuOffers) → i < length places → All (HasRow (lent segments)) places
    → s ≡ get_or segments (get_or places i d).segment s → ((row : Charge) → slice_get s.now (get_or places i d).place ≡ Some row → sku_offers offers ≡ offers_of_row r row)
    → map (offers_of_row r) (filter_map (row_at (lent segments)) (take (i + 1) places)) ≡ map (offers_of_row r) (filter_map (row_at (lent segments)) (take i places)) ++ sku_offers offers ∷ []
offers_more segments r places i d s offers below all is of =
    let p : RowPlace = get_or places i d in
    let inside : p.place < length s.now = subst (λ rows. p.place < length rows) (row_segment_there segments places i d s below all is) (all i d below).place in
    ⊎_elim
    (λ there.
    let row : Charge = there.0 in
    let more = lent-more segments places i d s row below all is there.2 in
    ap (map (offers_of_row r)) more ∙ map-append (offers_of_row r) (filter_map (row_at (lent segments)) (take i places)) (row ∷ [])
    ∙ ap (λ o. map (offers_of_row r) (filter_map (row_at (lent segments)) (take i places)) ++ o ∷ []) (sym (of row there.2)))
    (λ past. let behind = past.0 in absurd (omega (arith, behind, inside)))
    (slice_get_cases s.now (get_or places i d).place).1
