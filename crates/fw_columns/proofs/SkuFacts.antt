-- Lemmas on which SKUs the rows of each hour have, and at which places.
use Rattle.std.proofs.Common.{◌≡◌, ◌∙◌, ⊎_elim, ℕ, ◌+◌, ◌-◌, ◌<◌, ◌≤◌, Bool, true, false, List, [], ◌∷◌, ◌++◌, length, map, filter, get_or, drop, take, Option, Some, None, All, refl, sym, ap, subst, arith, length-append, length-drop}
use Rattle.std.specs.Prelude.{◌==◌, ◌||◌, option_map, slice_get, slice_index, slice_index_or, unwrap_or}
use Rattle.std.specs.List.{cons_option, filter_map, fold, list_any, slice_range}
use Rattle.std.proofs.Math.Bool.{or-false, or_assoc}
use Rattle.std.proofs.Math.Seq.{drop-append_seam, get_or-append_seam, take-length}
use Rattle.std.proofs.lemmas.List.{drop-append-le, get_or-drop, get_or-map, get_or-take, get_or_append_left, length-map, length-take-le, take-append-le}
use Rattle.std.proofs.lemmas.List.Elements.{All-filter, All-head, All-tail}
use Rattle.std.proofs.lemmas.List.Folds.{list_any-append, list_any_at}
use Rattle.std.proofs.lemmas.List.Sums.{fold-append}
use Rattle.std.proofs.lemmas.Option.{get_or_from_slice_get, slice_get-map, slice_get_cases, unwrap_or-slice_get}
use Rattle.fw_charge.specs.Charge.{Charge}
use Rattle.fw_row_table.specs.Codes.{text_code}
use Rattle.fw_row_table.specs.Table.{AreColumns, most_column_rows}
use Rattle.fw_row_table.specs.Texts.{names_of}
use Rattle.fw_row_table.specs.declared.table.Table.{Table}
use Rattle.fw_columns.specs.ByHour.{AreByHour, HasRun}
use Rattle.fw_columns.specs.BySku.{AreSkusByHour, each_once, is_among, places_of_sku, sku_codes, skus_of_hour, with_number}
use Rattle.fw_columns.specs.Hours.{hours_of, places_of_hour, starts_in}
use Rattle.fw_columns.specs.declared.by_hour.RowsByHour.{RowsByHour}
use Rattle.fw_columns.specs.declared.by_sku.SkusByHour.{SkusByHour}
use Rattle.fw_columns.proofs.HourFacts.{alike, apart, chosen, found, places_within, rows_at_places}

-- ---- each number once

pub once_more : (numbers : List ℕ) (n : ℕ) → each_once (numbers ++ n ∷ []) ≡ with_number (each_once numbers) n
unfolding each_once
once_more numbers n = fold-append with_number [] numbers (n ∷ [])

-- a number that isn't among them goes last, and another changes nothing
pub with_new : (seen : List ℕ) (n : ℕ) → is_among seen n ≡ false → with_number seen n ≡ seen ++ n ∷ []
unfolding with_number
with_new seen n e = rw e refl

pub with_old : (seen : List ℕ) (n : ℕ) → is_among seen n ≡ true → with_number seen n ≡ seen
unfolding with_number
with_old seen n e = rw e refl

with_long : (seen : List ℕ) (n : ℕ) → length (with_number seen n) ≤ length seen + 1
unfolding with_number
with_long seen n =
    let size = length-append seen (n ∷ []) in
    chosen (λ l. length l ≤ length seen + 1) (is_among seen n) seen (seen ++ n ∷ []) (λ e. omega arith) (λ e. omega (arith, size))

all_long : (seen numbers : List ℕ) → length (fold with_number seen numbers) ≤ length seen + length numbers
all_long seen [] = omega arith
all_long seen (n ∷ numbers) = let one = with_long seen n in let rest = all_long (with_number seen n) numbers in omega (arith, one, rest)

-- there are no more of them than numbers
pub once_long : (numbers : List ℕ) → length (each_once numbers) ≤ length numbers
unfolding each_once
once_long numbers = let all = all_long [] numbers in omega (arith, all)

-- a test that one of them passes
with_any : (test : ℕ → Bool) (seen : List ℕ) (n : ℕ) → list_any test (with_number seen n) ≡ (list_any test seen || test n)
unfolding with_number
with_any test seen n =
    chosen (λ l. list_any test l ≡ (list_any test seen || test n)) (is_among seen n) seen (seen ++ n ∷ [])
    (λ e. old e (test n) refl)
    (λ e. list_any-append test seen (n ∷ []) ∙ ap (λ b. list_any test seen || b) (or-false (test n)))
  where
    old : is_among seen n ≡ true → (b : Bool) → test n ≡ b → list_any test seen ≡ (list_any test seen || b)
    old e true is = let (k, l, same) = found n seen e in let some = list_any_at test seen k n l (ap test same ∙ is) in rw some refl
    old e false is = sym (or-false (list_any test seen))

any_from : (test : ℕ → Bool) (seen numbers : List ℕ) → list_any test (fold with_number seen numbers) ≡ (list_any test seen || list_any test numbers)
any_from test seen [] = sym (or-false (list_any test seen))
any_from test seen (n ∷ numbers) = any_from test (with_number seen n) numbers ∙ ap (λ b. b || list_any test numbers) (with_any test seen n) ∙ or_assoc (list_any test seen) (test n) (list_any test numbers)

-- one of the numbers passes it where one of them, each once, does
pub any_once : (test : ℕ → Bool) (numbers : List ℕ) → list_any test (each_once numbers) ≡ list_any test numbers
unfolding each_once
any_once test numbers = any_from test [] numbers

-- ---- runs, hour by hour

-- the lists of the first hours stand one behind the other
pub record AreRuns {X : Type 0} (lists : ℕ → List X) (n : ℕ) (all : List X) (before : List ℕ) : Type 0 where
  pub long : length before ≡ n + 1
  pub end : slice_index before n ≡ length all
  pub rising : (k : ℕ) → k < n → slice_index before k ≤ slice_index before (k + 1)
  pub within : (k : ℕ) → k < n → slice_index before (k + 1) ≤ length all
  pub run : (k : ℕ) → k < n → slice_range all (slice_index before k) (slice_index before (k + 1)) ≡ lists k

pub runs_none : {X : Type 0} (lists : ℕ → List X) → AreRuns lists 0 [] (0 ∷ [])
runs_none lists = record {
  long = refl;
  end = refl;
  rising = λ k l. absurd (omega (arith, l));
  within = λ k l. absurd (omega (arith, l));
  run = λ k l. absurd (omega (arith, l));
}

-- a run stays where more is added
run_stays : {X : Type 0} (all more : List X) (a b : ℕ) → a ≤ b → b ≤ length all → slice_range (all ++ more) a b ≡ slice_range all a b
run_stays all more a b le within =
    ap (take (b - a)) (drop-append-le a all more (omega (arith, le, within)))
    ∙ take-append-le (b - a) (drop a all) more (let size = length-drop a all in omega (arith, size, le, within))

-- how long a run is, and what is where in it
length-slice_range : {X : Type 0} (all : List X) (a b : ℕ) → a ≤ b → b ≤ length all → length (slice_range all a b) ≡ b - a
length-slice_range all a b le within = length-take-le (b - a) (drop a all) (let size = length-drop a all in omega (arith, size, le, within))

at_range : {X : Type 0} (all : List X) (a b k : ℕ) (d : X) → a + k < b → get_or (slice_range all a b) k d ≡ get_or all (a + k) d
at_range all a b k d l = get_or-take (b - a) (drop a all) k d (omega (arith, l)) ∙ get_or-drop a all k d

-- what is added is the last run
run_added : {X : Type 0} (all more : List X) → slice_range (all ++ more) (length all) (length (all ++ more)) ≡ more
run_added all more =
    let size : length (all ++ more) - length all ≡ length more = (let sum = length-append all more in omega (arith, sum)) in
    (λ j. take (size j) (drop-append_seam all more j)) ∙ take-length more

module _ {X : Type 0} (lists : ℕ → List X) (n : ℕ) (all : List X) (before : List ℕ) (runs : AreRuns lists n all before) where
  now : List ℕ
  now = before ++ length (all ++ lists n) ∷ []

  kept : (k : ℕ) → k ≤ n → slice_index now k ≡ slice_index before k
  unfolding now
  kept k le = get_or_append_left before (length (all ++ lists n) ∷ []) 0 k (let long = runs.long in omega (arith, long, le))

  last : slice_index now (n + 1) ≡ length (all ++ lists n)
  unfolding now
  last = ap (slice_index now) (sym runs.long) ∙ get_or-append_seam before (length (all ++ lists n)) [] 0

  -- which case a place is
  each : (P : ℕ → Type 0) → ((k : ℕ) → k < n → P k) → P n → (k : ℕ) → k < n + 1 → P k
  each P old new k l = by (k == n) refl
    where
      by : (b : Bool) → (k == n) ≡ b → P k
      by true is = subst P (sym (alike k n is)) new
      by false is = let no = apart k n is in old k (omega (arith, l, no))

  pub runs_more : AreRuns lists (n + 1) (all ++ lists n) (before ++ length (all ++ lists n) ∷ [])
  unfolding now
  runs_more = record {
    long = length-append before (length (all ++ lists n) ∷ []) ∙ (let long = runs.long in omega (arith, long));
    end = last;
    rising = each (λ k. slice_index now k ≤ slice_index now (k + 1))
        (λ k l. let a = kept k (omega (arith, l)) in let b = kept (k + 1) (omega (arith, l)) in let old = runs.rising k l in omega (arith, a, b, old))
        (let a = kept n (omega arith) in let size = length-append all (lists n) in let end = runs.end in let new = last in omega (arith, a, size, end, new));
    within = each (λ k. slice_index now (k + 1) ≤ length (all ++ lists n))
        (λ k l. let b = kept (k + 1) (omega (arith, l)) in let old = runs.within k l in let size = length-append all (lists n) in omega (arith, b, old, size))
        (let new = last in omega (arith, new));
    run = each (λ k. slice_range (all ++ lists n) (slice_index now k) (slice_index now (k + 1)) ≡ lists k)
        (λ k l. (λ j. slice_range (all ++ lists n) (kept k (omega (arith, l)) j) (kept (k + 1) (omega (arith, l)) j)) ∙ run_stays all (lists n) (slice_index before k) (slice_index before (k + 1)) (runs.rising k l) (runs.within k l) ∙ runs.run k l)
        ((λ j. slice_range (all ++ lists n) ((kept n (omega arith) ∙ runs.end) j) (last j)) ∙ run_added all (lists n));
  }

-- two that have as many in each hour have as many so far
pub one_long : {X Y : Type 0} (lists : ℕ → List X) (others : ℕ → List Y) (n : ℕ) (all : List X) (beside : List Y) (before : List ℕ) → AreRuns lists n all before → AreRuns others n beside before → length (lists n) ≡ length (others n)
    → length (all ++ lists n) ≡ length (beside ++ others n)
one_long lists others n all beside before runs runs' same =
    let a = length-append all (lists n) in
    let b = length-append beside (others n) in
    let end = runs.end in
    let end' = runs'.end in
    omega (arith, a, b, end, end', same)

-- ---- the codes of the rows of an hour

-- the codes of the rows at places
abbrev pub codes_at : List ℕ → List ℕ → List ℕ
codes_at skus places = map (λ place. slice_index_or skus place 0) places

at_places : {X : Type 0} (f : X → ℕ) (rows : List X) (places : List ℕ) → All (λ p. p < length rows) places → codes_at (map f rows) places ≡ map f (filter_map (slice_get rows) places)
at_places f rows [] within = refl
at_places {X} f rows (p ∷ places) within = by (slice_get rows p) refl (at_places f rows places (All-tail (λ p. p < length rows) p places within))
  where
    here : slice_index_or (map f rows) p 0 ≡ unwrap_or (option_map f (slice_get rows p)) 0
    here = sym (unwrap_or-slice_get (map f rows) p 0) ∙ ap (λ o. unwrap_or o 0) (slice_get-map f rows p)

    by : (o : Option X) → slice_get rows p ≡ o → codes_at (map f rows) places ≡ map f (filter_map (slice_get rows) places)
        → (slice_index_or (map f rows) p 0 ∷ codes_at (map f rows) places) ≡ map f (cons_option o (filter_map (slice_get rows) places))
    by None is rest =
        absurd
        (⊎_elim (λ (found : (x : X) × (p < length rows) × (slice_get rows p ≡ Some x) × (get_or rows p x ≡ x)). let (x, below, some, here) = found in cc)
        (λ past. let over = past.0 in let low = All-head (λ p. p < length rows) p places within in omega (arith, over, low)) (slice_get_cases rows p).1)
    by (Some row) is rest = λ j. (here ∙ ap (λ o. unwrap_or (option_map f o) 0) is) j ∷ rest j

-- the codes at the places of an hour, each once
unfoldable pub hour_list : List ℕ → RowsByHour → ℕ → List ℕ
hour_list skus b k = each_once (codes_at skus (slice_range b.order.items (slice_index b.before.items k) (slice_index b.before.items (k + 1))))

-- those of the places that have a code
abbrev pub places_with : List ℕ → ℕ → List ℕ → List ℕ
places_with skus code places = filter (λ place. slice_index_or skus place 0 == code) places

-- for each of these codes its places
unfoldable pub hour_places : List ℕ → RowsByHour → ℕ → List (List ℕ)
hour_places skus b k = map (λ code. places_with skus code (slice_range b.order.items (slice_index b.before.items k) (slice_index b.before.items (k + 1)))) (hour_list skus b k)

pub places_long : (skus : List ℕ) (b : RowsByHour) (k : ℕ) → length (hour_places skus b k) ≡ length (hour_list skus b k)
unfolding hour_places
places_long skus b k = length-map (hour_list skus b k) (λ code. places_with skus code (slice_range b.order.items (slice_index b.before.items k) (slice_index b.before.items (k + 1))))

-- the codes at the places of an hour are those of its rows
codes_there : (hour : ℕ) (rows : List Charge) → codes_at (sku_codes rows) (places_of_hour hour rows) ≡ map (λ row. text_code (names_of rows) row.sku) (filter (starts_in hour) rows)
codes_there hour rows =
    let code = λ (row : Charge). text_code (names_of rows) row.sku in
    at_places code rows (places_of_hour hour rows) (places_within hour rows) ∙ ap (map code) (rows_at_places hour rows)

pub any_at : (test : ℕ → Bool) (skus places : List ℕ) → list_any test (codes_at skus places) ≡ list_any (λ place. test (slice_index_or skus place 0)) places
any_at test skus [] = refl
any_at test skus (place ∷ places) = ap (λ b. test (slice_index_or skus place 0) || b) (any_at test skus places)

-- a code of an hour's SKUs passes a test where the code of some row of the hour does
pub any_sku : (test : ℕ → Bool) (hour : ℕ) (rows : List Charge) → list_any test (skus_of_hour hour rows) ≡ list_any (λ place. test (slice_index_or (sku_codes rows) place 0)) (places_of_hour hour rows)
unfolding skus_of_hour
any_sku test hour rows =
    any_once test (map (λ row. text_code (names_of rows) row.sku) (filter (starts_in hour) rows))
    ∙ ap (list_any test) (sym (codes_there hour rows))
    ∙ any_at test (sku_codes rows) (places_of_hour hour rows)

-- they are those of its rows
hour_is : (rows : List Charge) (b : RowsByHour) (k : ℕ) → AreByHour b rows → k < length (hours_of rows) → hour_list (sku_codes rows) b k ≡ skus_of_hour (slice_index (hours_of rows) k) rows
unfolding hour_list skus_of_hour
hour_is rows b k by l =
    ap each_once (ap (codes_at (sku_codes rows)) (by.places k l) ∙ codes_there (slice_index (hours_of rows) k) rows)

-- and so are their places
places_are : (rows : List Charge) (b : RowsByHour) (k : ℕ) → AreByHour b rows → k < length (hours_of rows)
    → hour_places (sku_codes rows) b k ≡ map (λ code. places_of_sku (slice_index (hours_of rows) k) code rows) (skus_of_hour (slice_index (hours_of rows) k) rows)
unfolding hour_places places_of_sku
places_are rows b k by l = λ j. map (λ code. places_with (sku_codes rows) code (by.places k l j)) (hour_is rows b k by l j)

-- there are no more of them than places
list_long : (skus : List ℕ) (b : RowsByHour) (k : ℕ) → HasRun b k → length (hour_list skus b k) + slice_index b.before.items k ≤ slice_index b.before.items (k + 1)
unfolding hour_list
list_long skus b k run =
    let places = slice_range b.order.items (slice_index b.before.items k) (slice_index b.before.items (k + 1)) in
    let few = once_long (codes_at skus places) in
    let same : length (codes_at skus places) ≡ length places = length-map places (λ place. slice_index_or skus place 0) in
    let rest = length-drop (slice_index b.before.items k) b.order.items in
    let some = run.some in
    let within = run.within in
    let size : length places ≡ slice_index b.before.items (k + 1) - slice_index b.before.items k = length-take-le _ _ (omega (arith, rest, within)) in
    omega (arith, few, same, size, some)

-- the codes at the places of an hour are added to those of the hours before, of which there are no more than rows
module _ (skus : List ℕ) (b : RowsByHour) (n : ℕ) (codes new places : List ℕ) where
  pub hour_added : places ≡ slice_range b.order.items (slice_index b.before.items n) (slice_index b.before.items (n + 1)) → new ≡ codes ++ each_once (codes_at skus places) → new ≡ codes ++ hour_list skus b n
  unfolding hour_list
  hour_added at is = is ∙ ap (λ l. codes ++ each_once (codes_at skus l)) at

  pub few_more : HasRun b n → places ≡ slice_range b.order.items (slice_index b.before.items n) (slice_index b.before.items (n + 1)) → length codes ≤ slice_index b.before.items n → new ≡ codes ++ each_once (codes_at skus places)
      → length new ≤ slice_index b.before.items (n + 1)
  few_more run at few is =
      let size = ap length (hour_added at is) ∙ length-append codes (hour_list skus b n) in
      let long = list_long skus b n run in
      omega (arith, size, long, few)

pub made : (skus : List ℕ) (b : RowsByHour) (s : SkusByHour) (n : ℕ) (rows : List Charge) → AreRuns (hour_list skus b) n s.codes.items s.before.items → AreRuns (hour_places skus b) n s.places s.before.items → AreByHour b rows → skus ≡ sku_codes rows → n ≡ length b.hours.items → AreSkusByHour s rows
made skus b s n rows runs places by are all =
    let inside : (k : ℕ) → k < length (hours_of rows) → k < n = (λ k l. let same = ap length by.hours in omega (arith, l, same, all)) in
    record {
      run = λ k l. record {
        there = let long = runs.long in let low = inside k l in omega (arith, long, low);
        rising = runs.rising k (inside k l);
        within = runs.within k (inside k l);
        listed = places.within k (inside k l);
      };
      codes = λ k l. runs.run k (inside k l) ∙ ap (λ codes. hour_list codes b k) are ∙ hour_is rows b k by l;
      places = λ k l. places.run k (inside k l) ∙ ap (λ codes. hour_places codes b k) are ∙ places_are rows b k by l;
    }

-- the lists of an hour's places are put behind those of the hours before
pub lists_added : (skus : List ℕ) (b : RowsByHour) (n : ℕ) (places : List ℕ) → places ≡ slice_range b.order.items (slice_index b.before.items n) (slice_index b.before.items (n + 1))
    → map (λ code. places_with skus code places) (each_once (codes_at skus places)) ≡ hour_places skus b n
unfolding hour_places hour_list
lists_added skus b n places at = λ j. map (λ code. places_with skus code (at j)) (each_once (codes_at skus (at j)))

-- ---- what is kept of an hour

module _ (s : SkusByHour) (rows : List Charge) (k which : ℕ) (are : AreSkusByHour s rows) (l : k < length (hours_of rows)) (m : which < length (skus_of_hour (slice_index (hours_of rows) k) rows)) where
  -- each of its codes is in its run
  pub code_within : slice_index s.before.items k + which < slice_index s.before.items (k + 1)
  code_within =
      let run = are.run k l in
      let size = ap length (are.codes k l) in
      let long = length-slice_range s.codes.items (slice_index s.before.items k) (slice_index s.before.items (k + 1)) run.rising run.within in
      omega (arith, size, long, m)

  -- the list of a code has its places
  pub places_there : (places : List ℕ) → slice_get s.places (slice_index s.before.items k + which) ≡ Some places
      → places ≡ places_of_sku (slice_index (hours_of rows) k) (slice_index (skus_of_hour (slice_index (hours_of rows) k) rows) which) rows
  places_there places is =
      let hour = slice_index (hours_of rows) k in
      let a = slice_index s.before.items k in
      let b = slice_index s.before.items (k + 1) in
      sym (get_or_from_slice_get s.places (a + which) places [] is)
      ∙ sym (at_range s.places a b which [] code_within)
      ∙ ap (λ lists. get_or lists which []) (are.places k l)
      ∙ get_or-map (λ code. places_of_sku hour code rows) (skus_of_hour hour rows) which 0 [] m

-- each place is that of a row
pub sku_places_within : (hour code : ℕ) (rows : List Charge) → All (λ place. place < length rows) (places_of_sku hour code rows)
unfolding places_of_sku
sku_places_within hour code rows = All-filter (λ place. slice_index_or (sku_codes rows) place 0 == code) (λ place. place < length rows) (places_of_hour hour rows) (places_within hour rows)

-- ---- rows by hour

-- each hour has a run of places
pub has_run : (b : RowsByHour) (rows : List Charge) (k : ℕ) → AreByHour b rows → k < length b.hours.items → HasRun b k
has_run b rows k by l = by.run k (let all = ap length by.hours in omega (arith, l, all))

-- each row has a code
pub codes_long : (skus : List ℕ) (rows : List Charge) → skus ≡ sku_codes rows → length skus ≡ length rows
codes_long skus rows are = ap length are ∙ length-map rows (λ (row : Charge). text_code (names_of rows) row.sku)

-- the places of an hour are within the codes
pub places_below : (skus : List ℕ) (b : RowsByHour) (rows : List Charge) (k : ℕ) → AreByHour b rows → skus ≡ sku_codes rows → k < length (hours_of rows)
    → All (λ place. place < length skus) (slice_range b.order.items (slice_index b.before.items k) (slice_index b.before.items (k + 1)))
places_below skus b rows k by are l =
    rw (by.places k l, codes_long skus rows are) (places_within (slice_index (hours_of rows) k) rows)

-- ---- the codes of a table

pub skus_are : (t : Table) (rows : List Charge) → AreColumns t rows → t.skus.items ≡ sku_codes rows
skus_are t rows columns = columns.skus ∙ ap (λ names. map (λ (c : Charge). text_code names c.sku) rows) columns.names

pub skus_few : (t : Table) (rows : List Charge) → AreColumns t rows → length t.skus.items ≤ most_column_rows
skus_few t rows columns = let size = codes_long t.skus.items rows (skus_are t rows columns) in omega (arith, size, columns.few)
