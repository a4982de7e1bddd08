-- Lemmas on the codes of an hour that were met, and on the lists of their places.
use Rattle.std.proofs.Common.{◌≡◌, ◌∙◌, ℕ, zero, suc, ◌+◌, ◌-◌, ◌<◌, ◌≤◌, Bool, true, false, cond, List, [], ◌∷◌, ◌++◌, length, map, filter, get_or, set, take, refl, sym, ap, subst, arith, append-nil, append_assoc, length-append}
use Rattle.std.specs.Prelude.{◌==◌, ◌||◌, nat_lt, slice_index, slice_index_or}
use Rattle.std.specs.List.{list_any}
use Rattle.std.proofs.Math.Bool.{or-false}
use Rattle.std.proofs.Math.Seq.{get_or-append_seam}
use Rattle.std.proofs.lemmas.Bool.{eq-eqb, le-ltb, lt-ltb, ne_eqb}
use Rattle.std.proofs.lemmas.List.{ext_get_or, get_or-map, get_or-set_other, get_or-set_same, get_or-take, get_or_append_left, get_or_past, get_or_read, length-map, length-take-le, map-append}
use Rattle.std.proofs.lemmas.List.Elements.{filter-append}
use Rattle.std.proofs.lemmas.List.Folds.{list_any-append, list_any_at}
use Rattle.fw_columns.specs.BySku.{each_once, is_among, with_number}
use Rattle.fw_columns.proofs.HourFacts.{alike, apart, chosen, found}
use Rattle.fw_columns.proofs.SkuFacts.{any_at, any_once, codes_at, once_more, places_with, with_new, with_old}

-- ---- where codes are listed

-- what is noted while the codes of an hour are listed behind `first` others: where each of them is, and no other code so far
pub record AreNoted (last : List ℕ) (first : ℕ) (listed : List ℕ) : Type 0 where
  pub met : (c : ℕ) → nat_lt first (slice_index_or last c 0) ≡ is_among listed c
  pub low : (c : ℕ) → slice_index_or last c 0 ≤ first + length listed
  pub there : (q : ℕ) → q < length listed → slice_index_or last (slice_index listed q) 0 ≡ first + q + 1

noted_none : (last : List ℕ) (first : ℕ) → ((c : ℕ) → slice_index_or last c 0 ≤ first) → AreNoted last first []
noted_none last first earlier = record {
  met = λ c. le-ltb first (slice_index_or last c 0) (earlier c);
  low = λ c. let low = earlier c in omega (arith, low);
  there = λ q l. absurd (omega (arith, l));
}

-- which case a place is where one more is at the end
each : (n : ℕ) (P : ℕ → Type 0) → ((q : ℕ) → q < n → P q) → P n → (q : ℕ) → q < n + 1 → P q
each n P old new q l = by (q == n) refl
  where
    by : (b : Bool) → (q == n) ≡ b → P q
    by true is = subst P (sym (alike q n is)) new
    by false is = let no = apart q n is in old q (omega (arith, l, no))

-- a code that is listed is among them
among_at : (listed : List ℕ) (q : ℕ) → q < length listed → is_among listed (slice_index listed q) ≡ true
among_at listed q l = list_any_at (λ m. m == slice_index listed q) listed q 0 l (eq-eqb (slice_index listed q) (slice_index listed q) refl)

module _ (last : List ℕ) (first : ℕ) (listed : List ℕ) (noted : AreNoted last first listed) where
  -- a code that is noted there is the one at its place
  pub code_there : (code : ℕ) → first < slice_index_or last code 0 → (slice_index_or last code 0 - first - 1 < length listed) × (slice_index listed (slice_index_or last code 0 - first - 1) ≡ code)
  code_there code l =
      let (k, inside, same) = found code listed (sym (noted.met code) ∙ lt-ltb first (slice_index_or last code 0) l) in
      let here : code ≡ slice_index listed k = get_or_read listed k code inside (sym same) 0 in
      let at : slice_index_or last code 0 ≡ first + k + 1 = ap (λ c. slice_index_or last c 0) here ∙ noted.there k inside in
      let place : slice_index_or last code 0 - first - 1 ≡ k = omega (arith, at) in
      (omega (arith, place, inside), ap (slice_index listed) place ∙ sym here)

  -- and no other is
  pub one_place : (code q : ℕ) → q < length listed → slice_index listed q ≡ code → q ≡ slice_index_or last code 0 - first - 1
  one_place code q l same =
      let at : slice_index_or last code 0 ≡ first + q + 1 = ap (λ c. slice_index_or last c 0) (sym same) ∙ noted.there q l in
      omega (arith, at)

  -- a code that isn't listed goes last
  pub noted_new : (code : ℕ) (next : List ℕ) → is_among listed code ≡ false → ((c : ℕ) → slice_index_or next c 0 ≡ cond (c == code) (first + length listed + 1) (slice_index_or last c 0)) → AreNoted next first (listed ++ code ∷ [])
  noted_new code next new step = record {
    met = λ c. ap (nat_lt first) (step c) ∙ by c (c == code) refl ∙ sym (list_any-append (λ m. m == c) listed (code ∷ []) ∙ ap (λ b. is_among listed c || b) (or-false (code == c)));
    low = λ c. rw (step c) (chosen (λ n. n ≤ first + length (listed ++ code ∷ [])) (c == code) _ _ (λ e. omega (arith, size)) (λ e. let low = noted.low c in omega (arith, low, size)));
    there = λ q l. each (length listed) (λ q. slice_index_or next (slice_index (listed ++ code ∷ []) q) 0 ≡ first + q + 1) old end q (omega (arith, l, size));
  }
    where
      size : length (listed ++ code ∷ []) ≡ length listed + 1
      size = length-append listed (code ∷ [])

      by : (c : ℕ) (b : Bool) → (c == code) ≡ b → nat_lt first (cond b (first + length listed + 1) (slice_index_or last c 0)) ≡ (is_among listed c || (code == c))
      by c true is =
          let same = alike c code is in
          let none : is_among listed c ≡ false = ap (is_among listed) same ∙ new in
          rw (none, eq-eqb code c (sym same)) (lt-ltb first (first + length listed + 1) (omega arith))
      by c false is = rw (ne_eqb code c (λ e. apart c code is (sym e)), or-false (is_among listed c)) (noted.met c)

      old : (q : ℕ) → q < length listed → slice_index_or next (slice_index (listed ++ code ∷ []) q) 0 ≡ first + q + 1
      old q l =
          let here : slice_index (listed ++ code ∷ []) q ≡ slice_index listed q = get_or_append_left listed (code ∷ []) 0 q l in
          let other : (slice_index listed q == code) ≡ false = ne_eqb (slice_index listed q) code (λ e. let is : is_among listed code ≡ true = ap (is_among listed) (sym e) ∙ among_at listed q l in cc) in
          ap (λ c. slice_index_or next c 0) here ∙ step (slice_index listed q) ∙ rw other (noted.there q l)

      end : slice_index_or next (slice_index (listed ++ code ∷ []) (length listed)) 0 ≡ first + length listed + 1
      end = ap (λ c. slice_index_or next c 0) (get_or-append_seam listed code [] 0) ∙ step code ∙ rw (eq-eqb code code refl) refl

-- ---- the lists of places

-- each of the codes that are listed has a list, of the places so far that have it
pub record AreListed (skus seen listed : List ℕ) (lists : List (List ℕ)) : Type 0 where
  pub long : length listed ≤ length lists
  pub each : (q : ℕ) → q < length listed → get_or lists q [] ≡ places_with skus (slice_index listed q) seen

-- one more place goes to the list of its code alone
one_more : (skus seen : List ℕ) (code place : ℕ) → places_with skus code (seen ++ place ∷ []) ≡ places_with skus code seen ++ cond (slice_index_or skus place 0 == code) (place ∷ []) []
one_more skus seen code place = filter-append (λ place. slice_index_or skus place 0 == code) seen (place ∷ [])

more_of_it : (skus seen : List ℕ) (code place : ℕ) → slice_index_or skus place 0 ≡ code → places_with skus code (seen ++ place ∷ []) ≡ places_with skus code seen ++ place ∷ []
more_of_it skus seen code place is = one_more skus seen code place ∙ rw (eq-eqb (slice_index_or skus place 0) code is) refl

more_of_others : (skus seen : List ℕ) (code place : ℕ) → (slice_index_or skus place 0 ≡ code → ⊥) → places_with skus code (seen ++ place ∷ []) ≡ places_with skus code seen
more_of_others skus seen code place differ = one_more skus seen code place ∙ rw (ne_eqb (slice_index_or skus place 0) code differ) (append-nil (places_with skus code seen))

-- no place so far has a code that isn't listed
none_kept : (p : ℕ → Bool) (places : List ℕ) → list_any p places ≡ false → filter p places ≡ []
none_kept p [] e = refl
none_kept p (place ∷ places) e = by (p place) refl e (none_kept p places)
  where
    by : (b : Bool) → p place ≡ b → (b || list_any p places) ≡ false → (list_any p places ≡ false → filter p places ≡ []) → filter p (place ∷ places) ≡ []
    by true is h rest = absurd (cc)
    by false is h rest = rw is (rest h)

none_with : (skus seen : List ℕ) (code : ℕ) → is_among (each_once (codes_at skus seen)) code ≡ false → places_with skus code seen ≡ []
none_with skus seen code none =
    none_kept (λ place. slice_index_or skus place 0 == code) seen
    (sym (any_at (λ m. m == code) skus seen) ∙ sym (any_once (λ m. m == code) (codes_at skus seen)) ∙ none)

module _ (skus seen listed : List ℕ) (lists more : List (List ℕ)) (place : ℕ) (are : AreListed skus seen listed lists) where
  -- the code of a further place is listed already
  listed_old : (r : ℕ) → r < length listed → slice_index listed r ≡ slice_index_or skus place 0 → ((q : ℕ) → q < length listed → slice_index listed q ≡ slice_index_or skus place 0 → q ≡ r)
      → ((k : ℕ) → get_or more k [] ≡ cond (k == r) (get_or lists k [] ++ place ∷ []) (get_or lists k [])) → length more ≡ length lists → AreListed skus (seen ++ place ∷ []) listed more
  listed_old r l same one step size = record {
    long = let long = are.long in omega (arith, long, size);
    each = λ q m. step q ∙ by q m (q == r) refl;
  }
    where
      by : (q : ℕ) → q < length listed → (b : Bool) → (q == r) ≡ b → cond b (get_or lists q [] ++ place ∷ []) (get_or lists q []) ≡ places_with skus (slice_index listed q) (seen ++ place ∷ [])
      by q m true is =
          let here : slice_index_or skus place 0 ≡ slice_index listed q = sym same ∙ ap (slice_index listed) (sym (alike q r is)) in
          ap (λ l. l ++ place ∷ []) (are.each q m) ∙ sym (more_of_it skus seen (slice_index listed q) place here)
      by q m false is = are.each q m ∙ sym (more_of_others skus seen (slice_index listed q) place (λ e. apart q r is (one q m (sym e))))

  -- or it is a new one, and a list is begun
  listed_new : is_among listed (slice_index_or skus place 0) ≡ false → places_with skus (slice_index_or skus place 0) seen ≡ []
      → ((k : ℕ) → get_or more k [] ≡ cond (k == length listed) (place ∷ []) (get_or lists k [])) → length listed < length more → AreListed skus (seen ++ place ∷ []) (listed ++ slice_index_or skus place 0 ∷ []) more
  listed_new new none step size = record {
    long = omega (arith, count, size);
    each = λ q m. each (length listed) (λ q. get_or more q [] ≡ places_with skus (slice_index (listed ++ code ∷ []) q) (seen ++ place ∷ [])) old end q (omega (arith, m, count));
  }
    where
      code : ℕ
      code = slice_index_or skus place 0

      count : length (listed ++ code ∷ []) ≡ length listed + 1
      count = length-append listed (code ∷ [])

      old : (q : ℕ) → q < length listed → get_or more q [] ≡ places_with skus (slice_index (listed ++ code ∷ []) q) (seen ++ place ∷ [])
      old q l =
          let here : slice_index (listed ++ code ∷ []) q ≡ slice_index listed q = get_or_append_left listed (code ∷ []) 0 q l in
          let differ : code ≡ slice_index listed q → ⊥ = λ e. let is : is_among listed code ≡ true = ap (is_among listed) e ∙ among_at listed q l in cc in
          step q ∙ rw (ne_eqb q (length listed) (λ e. omega (arith, e, l))) (are.each q l)
          ∙ sym (ap (λ c. places_with skus c (seen ++ place ∷ [])) here ∙ more_of_others skus seen (slice_index listed q) place differ)

      end : get_or more (length listed) [] ≡ places_with skus (slice_index (listed ++ code ∷ []) (length listed)) (seen ++ place ∷ [])
      end =
          step (length listed) ∙ rw (eq-eqb (length listed) (length listed) refl) refl
          ∙ sym (ap (λ c. places_with skus c (seen ++ place ∷ [])) (get_or-append_seam listed code [] 0) ∙ more_of_it skus seen code place refl ∙ ap (λ l. l ++ place ∷ []) none)

-- a list is put at a place
set_at : (lists : List (List ℕ)) (i : ℕ) (l : List ℕ) → i < length lists → (k : ℕ) → get_or (set lists i l) k [] ≡ cond (k == i) l (get_or lists k [])
set_at lists i l inside k = by (k == i) refl
  where
    by : (b : Bool) → (k == i) ≡ b → get_or (set lists i l) k [] ≡ cond b l (get_or lists k [])
    by true e = ap (λ n. get_or (set lists i l) n []) (alike k i e) ∙ get_or-set_same lists i l [] inside
    by false e = get_or-set_other lists i k l [] (apart k i e)

-- a place is added to a list
pub place_added : (lists : List (List ℕ)) (i place : ℕ) (l : List ℕ) → i < length lists → l ≡ get_or lists i [] ++ place ∷ [] → (k : ℕ) → get_or (set lists i l) k [] ≡ cond (k == i) (get_or lists k [] ++ place ∷ []) (get_or lists k [])
place_added lists i place l inside is k = set_at lists i l inside k ∙ by (k == i) refl
  where
    by : (b : Bool) → (k == i) ≡ b → cond b l (get_or lists k []) ≡ cond b (get_or lists k [] ++ place ∷ []) (get_or lists k [])
    by true e = is ∙ ap (λ n. get_or lists n [] ++ place ∷ []) (sym (alike k i e))
    by false e = refl

-- a list is emptied, or an empty one comes behind all
pub emptied : (lists : List (List ℕ)) (i : ℕ) → i < length lists → (k : ℕ) → get_or (set lists i []) k [] ≡ cond (k == i) [] (get_or lists k [])
emptied lists i inside k = set_at lists i [] inside k

empty_behind : (lists : List (List ℕ)) (k : ℕ) → get_or (lists ++ [] ∷ []) k [] ≡ get_or lists k []
empty_behind [] zero = refl
empty_behind [] (suc k) = refl
empty_behind (l ∷ lists) zero = refl
empty_behind (l ∷ lists) (suc k) = empty_behind lists k

pub one_empty : (lists : List (List ℕ)) (i : ℕ) → i ≡ length lists → (k : ℕ) → get_or (lists ++ [] ∷ []) k [] ≡ cond (k == i) [] (get_or lists k [])
one_empty lists i end k = empty_behind lists k ∙ by (k == i) refl
  where
    by : (b : Bool) → (k == i) ≡ b → get_or lists k [] ≡ cond b [] (get_or lists k [])
    by true e = let same = alike k i e in get_or_past lists k [] (omega (arith, same, end))
    by false e = refl

-- and a place is put into it
pub begun : (lists empty more : List (List ℕ)) (i place : ℕ) → ((k : ℕ) → get_or empty k [] ≡ cond (k == i) [] (get_or lists k [])) → ((k : ℕ) → get_or more k [] ≡ cond (k == i) (get_or empty k [] ++ place ∷ []) (get_or empty k []))
    → (k : ℕ) → get_or more k [] ≡ cond (k == i) (place ∷ []) (get_or lists k [])
begun lists empty more i place none some k = some k ∙ by (k == i) (none k)
  where
    by : (b : Bool) → get_or empty k [] ≡ cond b [] (get_or lists k []) → cond b (get_or empty k [] ++ place ∷ []) (get_or empty k []) ≡ cond b (place ∷ []) (get_or lists k [])
    by true e = ap (λ l. l ++ place ∷ []) e
    by false e = e

taken : (skus seen listed : List ℕ) (lists : List (List ℕ)) → AreListed skus seen listed lists → take (length listed) lists ≡ map (λ code. places_with skus code seen) listed
taken skus seen listed lists are =
    let long = length-take-le (length listed) lists are.long in
    ext_get_or [] (take (length listed) lists) (map (λ code. places_with skus code seen) listed) (long ∙ sym (length-map listed (λ code. places_with skus code seen)))
    (λ q l.
    let inside : q < length listed = omega (arith, l, long) in
    get_or-take (length listed) lists q [] inside ∙ are.each q inside ∙ sym (get_or-map (λ code. places_with skus code seen) listed q 0 [] inside))

-- ---- place by place

-- the codes of the places so far
abbrev pub once : List ℕ → List ℕ → List ℕ
once skus seen = each_once (codes_at skus seen)

-- the codes of the places so far are listed behind others and noted, and each has its list of places
pub record AreMet (skus base seen codes last : List ℕ) (lists : List (List ℕ)) : Type 0 where
  pub all : codes ≡ base ++ once skus seen
  pub noted : AreNoted last (length base) (once skus seen)
  pub listed : AreListed skus seen (once skus seen) lists

pub met_none : (skus base last : List ℕ) (lists : List (List ℕ)) → ((c : ℕ) → slice_index_or last c 0 ≤ length base) → AreMet skus base [] base last lists
unfolding each_once
met_none skus base last lists earlier = record {
  all = sym (append-nil base);
  noted = noted_none last (length base) earlier;
  listed = record { long = omega arith; each = λ q l. absurd (omega (arith, l)) };
}

module _ (skus base seen codes last : List ℕ) (lists : List (List ℕ)) (met : AreMet skus base seen codes last lists) where
  -- how many are listed of the hour
  pub met_long : length codes ≡ length base + length (once skus seen)
  met_long = ap length met.all ∙ length-append base (once skus seen)

  pub all_low : (c : ℕ) → slice_index_or last c 0 ≤ length codes
  all_low c = let low = met.noted.low c in let long = met_long in omega (arith, low, long)

  next : (place : ℕ) → once skus (seen ++ place ∷ []) ≡ with_number (once skus seen) (slice_index_or skus place 0)
  next place = ap each_once (map-append (λ place. slice_index_or skus place 0) seen (place ∷ [])) ∙ once_more (codes_at skus seen) (slice_index_or skus place 0)

  module _ (place : ℕ) (more : List (List ℕ)) where
    -- a place whose code is listed
    pub met_old : length base < slice_index_or last (slice_index_or skus place 0) 0
        → ((k : ℕ) → get_or more k [] ≡ cond (k == slice_index_or last (slice_index_or skus place 0) 0 - length base - 1) (get_or lists k [] ++ place ∷ []) (get_or lists k []))
        → length more ≡ length lists → AreMet skus base (seen ++ place ∷ []) codes last more
    met_old l step size =
        let code = slice_index_or skus place 0 in
        let at = code_there last (length base) (once skus seen) met.noted code l in
        let same : once skus (seen ++ place ∷ []) ≡ once skus seen =
        next place ∙ with_old (once skus seen) code (sym (met.noted.met code) ∙ lt-ltb (length base) (slice_index_or last code 0) l) in
        record {
          all = rw same met.all;
          noted = rw same met.noted;
          listed = rw same (listed_old skus seen (once skus seen) lists more place met.listed (slice_index_or last code 0 - length base - 1) at.0 at.1 (one_place last (length base) (once skus seen) met.noted code) step size);
        }

    -- a place whose code is new
    pub met_new : (codes' last' : List ℕ) → slice_index_or last (slice_index_or skus place 0) 0 ≤ length base → codes' ≡ codes ++ slice_index_or skus place 0 ∷ []
        → ((c : ℕ) → slice_index_or last' c 0 ≡ cond (c == slice_index_or skus place 0) (length codes') (slice_index_or last c 0))
        → ((k : ℕ) → get_or more k [] ≡ cond (k == length codes - length base) (place ∷ []) (get_or lists k [])) → length codes - length base < length more → AreMet skus base (seen ++ place ∷ []) codes' last' more
    met_new codes' last' l pushed noted step size =
        let code = slice_index_or skus place 0 in
        let new : is_among (once skus seen) code ≡ false = sym (met.noted.met code) ∙ le-ltb (length base) (slice_index_or last code 0) l in
        let same : once skus (seen ++ place ∷ []) ≡ once skus seen ++ code ∷ [] = next place ∙ with_new (once skus seen) code new in
        let long = met_long in
        let count : length codes - length base ≡ length (once skus seen) = omega (arith, long) in
        let end : length codes' ≡ length base + length (once skus seen) + 1 = (let all = ap length pushed ∙ length-append codes (code ∷ []) in omega (arith, all, long)) in
        record {
          all = rw same (pushed ∙ ap (λ l. l ++ code ∷ []) met.all ∙ append_assoc base (once skus seen) (code ∷ []));
          noted = rw same (noted_new last (length base) (once skus seen) met.noted code last' new (λ c. noted c ∙ ap (λ n. cond (c == code) n (slice_index_or last c 0)) end));
          listed = rw same (listed_new skus seen (once skus seen) lists more place met.listed new (none_with skus seen code new) (λ k. step k ∙ ap (λ n. cond (k == n) (place ∷ []) (get_or lists k [])) count) (omega (arith, count, size)));
        }

  -- the lists of all codes
  pub met_lists : (count : ℕ) → count ≡ length codes - length base → take count lists ≡ map (λ code. places_with skus code seen) (once skus seen)
  met_lists count is =
      let long = met_long in
      let same : count ≡ length (once skus seen) = omega (arith, is, long) in
      ap (λ n. take n lists) same ∙ taken skus seen (once skus seen) lists met.listed
