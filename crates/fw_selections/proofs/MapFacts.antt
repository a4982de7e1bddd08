-- The fields of a map's table.
use Rattle.std.proofs.Common.{◌≡◌, ◌≢◌, ◌⊎◌, ◌<◌, ◌+◌, ◌==◌, ◌∷◌, [], ◌++◌, ℕ, zero, suc, List, Bool, true, false, Option, Some, None, String, Global, length, map, take, drop, get_or, slice_get, Result, Ok, Err, Vec, option_map, option_and_then, unwrap_or, refl, sym, ap, subst, ◌∙◌, arith, inl, inr, codes, if◌then◌else◌, string_bytes}
use Rattle.std.specs.Bool.{MatchBool}
use Rattle.std.specs.Prelude.{MatchOption}
use Rattle.std.specs.Borrow.{Bor}
use Rattle.std.proofs.lemmas.Bool.{cases_Bool, eqb-true, eqb-false}
use Rattle.std.proofs.lemmas.Slice.Eq.{bytes_eq-Decides}
use Rattle.std.specs.BTreeMap.{BTreeMap, get_by_text}
use Rattle.std.specs.Cmp.Lexicographic.{slice_cmp}
use Rattle.std.specs.Ordering.{eq_by_cmp, is_eq, nat_cmp}
use Rattle.std.specs.declared.cmp.Ordering.{Ordering}
use Rattle.std.specs.declared.cmp.Ordering.TheVariants.{Equal, Greater, Less}
use Rattle.std.specs.List.{AllByRecursion}
use Rattle.std.specs.List.Sorted.{IsStrictlySortedBy}
use Rattle.std.specs.Option.{option_or}
use Rattle.std.proofs.lemmas.List.{map-append, take_more}
use Rattle.std.proofs.lemmas.Option.{slice_get-get_or}
use Rattle.std.proofs.lemmas.Map.Keys.{IsDistinct-from_sorted}
use Rattle.std.proofs.lemmas.Map.Text.{is_eq-slice_cmp}
use Rattle.std.specs.List.{IsDistinct}
use Rattle.std.specs.List.{All, AllZip, list_any}
use Rattle.std.specs.Str.{bytes_eq}
use Rattle.toml.specs.Data.{Data, Members, string, integer, float, boolean, datetime, array, table, as_bool, as_str, get, get_member, member, no_members}
use Rattle.fw_rules.specs.Table.{FirstBroken, NoneBroken}
use Rattle.fw_toml.specs.Tree.{AreNamedTexts, AreTables, Anything, IsTable, text_member, HasOnly, IsAbsentOr, IsArrayOf, IsTableOf, IsText, IsThere, at, members_list, tables_of}
use Rattle.fw_toml.proofs.Readings.{absent, of_present, of_text_there, present, tables_are, tables_of-there, text, text_there, there, of_there, nothing_there}
use Rattle.fw_selections.specs.Maps.{AreRenames, AreValues, IsBoolean, IsDouble, IsNew, IsWrongAt, MapsRead, StateMaps, StatesMap, TableReads, TablesRead, empty_in, fold_in, last_beside, map_checks, map_fields, renamed_in, top_checks}
use Rattle.fw_selections.specs.declared.map_file.MapFault.{MapFault}
use Rattle.fw_selections.specs.declared.map_file.MapFault.TheVariants as fault
use Rattle.fw_selections.specs.declared.map_file.NamedMap.{NamedMap}
use Rattle.fw_selections.specs.declared.map_file.MapField.{MapField}
use Rattle.fw_selections.specs.declared.map_file.MapField.TheVariants as field

-- ---- fold

not-boolean : (d : Data) → as_bool d ≡ None → ¬ IsBoolean d
unfolding IsBoolean
not-boolean d none h = let is : as_bool d ≡ Some h.0 = ap as_bool h.1 in absurd (cc)

boolean-of : (d : Data) (b : Bool) → as_bool d ≡ Some b → IsBoolean d
unfolding IsBoolean
boolean-of (boolean x) c e = (x, refl)
boolean-of (string x) c e = absurd (cc)
boolean-of (integer x) c e = absurd (cc)
boolean-of (float x) c e = absurd (cc)
boolean-of (datetime x) c e = absurd (cc)
boolean-of (array x) c e = absurd (cc)
boolean-of (table x) c e = absurd (cc)

fold-of : (o : Option Data) (d : Data) (r : Option Bool) → o ≡ Some d → as_bool d ≡ r → MatchOption r (¬ IsAbsentOr o IsBoolean) (λ fold. (fold ≡ fold_in o) × IsAbsentOr o IsBoolean)
fold-of o d None is none = λ h. not-boolean d none (of_present IsBoolean o d is h)
fold-of o d (Some b) is found = (rw (is, found) refl, present IsBoolean o d is (boolean-of d b found))

pub fold-is : (o : Option Data) (d : Data) (r : Option Bool) → o ≡ Some d → r ≡ as_bool d → MatchOption r (¬ IsAbsentOr o IsBoolean) (λ fold. (fold ≡ fold_in o) × IsAbsentOr o IsBoolean)
fold-is o d r is found = fold-of o d r is (sym found)

pub fold-absent : (o : Option Data) → o ≡ None → (false ≡ fold_in o) × IsAbsentOr o IsBoolean
fold-absent o is = (rw is refl, absent IsBoolean o is)

-- ---- empty

pub empty-is : (o : Option Data) (d : Data) (r : Option (Bor (List ℕ))) → o ≡ Some d → MatchOption r (¬ IsText Anything d) (λ t. d ≡ string t.now)
    → MatchOption r (¬ IsAbsentOr o (IsText Anything)) (λ e. (e.now ≡ empty_in o) × IsAbsentOr o (IsText Anything))
unfolding Anything
empty-is o d None is none = λ h. none (of_present (IsText Anything) o d is h)
empty-is o d (Some t) is found = (rw (is, found) refl, present (IsText Anything) o d is (text Anything d t.now found tt))

pub empty-absent : (o : Option Data) → o ≡ None → ([] ≡ empty_in o) × IsAbsentOr o (IsText Anything)
empty-absent o is = (rw is refl, absent (IsText Anything) o is)

-- ---- key

pub key-none : (o : Option Data) → ¬ IsThere o (IsText Anything) → ¬ IsThere o (IsText (λ t. 0 < length t))
unfolding IsThere IsText Anything
key-none None none h = absurd h
key-none (Some d) none h = none (h.0, h.1, tt)

pub key-empty : (o : Option Data) (t : List ℕ) → o ≡ Some (string t) → length t ≡ 0 → ¬ IsThere o (IsText (λ t. 0 < length t))
key-empty o t is empty h = let some = of_text_there (λ t. 0 < length t) o t is h in absurd (omega arith)

-- ---- values

next-beside : (name : List ℕ) (pairs : List (List ℕ × List ℕ)) (pair : List ℕ × List ℕ) → last_beside name (pairs ++ pair ∷ []) ≡ (if bytes_eq name pair.0 then Some pair.1 else last_beside name pairs)
next-beside name [] pair = elim (cases_Bool (bytes_eq name pair.0)) [ inl e ↦ rw e refl | inr e ↦ rw e refl ]
next-beside name (p ∷ pairs) pair =
    let next = next-beside name pairs pair in
    elim (cases_Bool (bytes_eq name pair.0)) [ inl e ↦ rw (next, e) refl | inr e ↦ rw (next, e) refl ]

abbrev pub Lent : Type 0
Lent = Bor (List ℕ) × Bor (List ℕ)

abbrev pub read : Lent → List ℕ × List ℕ
read e = (e.0.now, e.1.now)

-- one pair more
pub beside-more : (name : List ℕ) (pairs : List Lent) (i : ℕ) (d : Lent) (old new : Option (List ℕ)) → i < length pairs
    → old ≡ last_beside name (map read (take i pairs))
    → new ≡ (if bytes_eq name (get_or pairs i d).0.now then Some (get_or pairs i d).1.now else old)
    → new ≡ last_beside name (map read (take (i + 1) pairs))
beside-more name pairs i d old new lt was is =
    is ∙ ap (λ o. if bytes_eq name (get_or pairs i d).0.now then Some (get_or pairs i d).1.now else o) was
    ∙ sym (next-beside name (map read (take i pairs)) (read (get_or pairs i d)))
    ∙ ap (last_beside name) (sym (ap (map read) (take_more pairs i d lt) ∙ map-append read (take i pairs) (get_or pairs i d ∷ [])))

or-none : (o : Option (List ℕ)) → option_or o None ≡ o
or-none None = refl
or-none (Some x) = refl

-- a name that is none of some names
none-beside : (name : List ℕ) (pairs : List (List ℕ × List ℕ)) → AllByRecursion (λ y. eq_by_cmp (slice_cmp nat_cmp) name y ≡ false) (map (λ p. p.0) pairs) → last_beside name pairs ≡ None
none-beside name [] h = refl
none-beside name (p ∷ pairs) h =
    let next = none-beside name pairs h.1 in
    let other : bytes_eq name p.0 ≡ false = sym (is_eq-slice_cmp name p.0) ∙ h.0 in
    rw (next, other) refl

one-member : (name : List ℕ) (p : List ℕ × List ℕ) (pairs : List (List ℕ × List ℕ)) (ms : Members) (o : Ordering) → slice_cmp nat_cmp name p.0 ≡ o
    → AllByRecursion (λ y. eq_by_cmp (slice_cmp nat_cmp) p.0 y ≡ false) (map (λ p. p.0) pairs) → last_beside name pairs ≡ option_and_then as_str (get_member name ms)
    → last_beside name (p ∷ pairs) ≡ option_and_then as_str (get_member name (member p.0 (string p.1) ms))
one-member name p pairs ms Less is apart next =
    let other : bytes_eq name p.0 ≡ false = sym (is_eq-slice_cmp name p.0) ∙ ap is_eq is in
    rw (is, other, next) (or-none (option_and_then as_str (get_member name ms)))
one-member name p pairs ms Greater is apart next =
    let other : bytes_eq name p.0 ≡ false = sym (is_eq-slice_cmp name p.0) ∙ ap is_eq is in
    rw (is, other, next) (or-none (option_and_then as_str (get_member name ms)))
one-member name p pairs ms Equal is apart next =
    let test : bytes_eq name p.0 ≡ true = sym (is_eq-slice_cmp name p.0) ∙ ap is_eq is in
    let same : name ≡ p.0 = (bytes_eq-Decides name p.0).0 test in
    let none : last_beside name pairs ≡ None = ap (λ n. last_beside n pairs) same ∙ none-beside p.0 pairs apart in
    rw (is, test, none) refl

distinct-beside : (name : List ℕ) (pairs : List (List ℕ × List ℕ)) (ms : Members) → IsDistinct (eq_by_cmp (slice_cmp nat_cmp)) (map (λ p. p.0) pairs) → members_list ms ≡ map text_member pairs
    → last_beside name pairs ≡ option_and_then as_str (get_member name ms)
unfolding IsDistinct
distinct-beside name [] no_members apart is = refl
distinct-beside name [] (member l d ms) apart is = absurd (cc)
distinct-beside name (p ∷ pairs) no_members apart is = absurd (cc)
distinct-beside name (p ∷ pairs) (member l d ms) apart is =
    let head : ◌≡◌ {A = List ℕ × Data} (l, d) (text_member p) = ap (λ xs. get_or xs 0 (l, d)) is in
    let rest : members_list ms ≡ map text_member pairs = ap (drop 1) is in
    let key : l ≡ p.0 = ap (λ m. m.0) head in
    let value : d ≡ string p.1 = ap (λ m. m.1) head in
    one-member name p pairs ms (slice_cmp nat_cmp name p.0) refl apart.0 (distinct-beside name pairs ms apart.1 rest)
    ∙ sym (ap (λ k. option_and_then as_str (get_member name (member k (string p.1) ms))) key) ∙ sym (ap (λ v. option_and_then as_str (get_member name (member l v ms))) value)

names-read : (pairs : List Lent) → map (λ p. p.0) (map read pairs) ≡ map (λ e. e.0.now) pairs
names-read [] = refl
names-read (p ∷ pairs) = ap (λ ns. p.0.now ∷ ns) (names-read pairs)

-- what the table of pairs has for a text is what the value has for it
pub beside-value : (pairs : List Lent) (d : Data) (text : List ℕ) → AreNamedTexts (map read pairs) d → IsStrictlySortedBy (slice_cmp nat_cmp) (map (λ e. e.0.now) pairs)
    → last_beside text (map read pairs) ≡ option_and_then as_str (get text d)
unfolding AreNamedTexts IsTableOf
beside-value pairs d text (ms, is, members) sorted =
    let rising = subst (IsStrictlySortedBy (slice_cmp nat_cmp)) (sym (names-read pairs)) sorted in
    distinct-beside text (map read pairs) ms (IsDistinct-from_sorted (slice_cmp nat_cmp) (map (λ p. p.0) (map read pairs)) rising) members
    ∙ ap (λ v. option_and_then as_str (get text v)) (sym is)

-- ---- the names of values

abbrev Renames : List ℕ × Data → Type 0
Renames m = (0 < length m.0) × IsText Anything m.1

cons-all : {X : Type 0} (P : X → Type 0) (x : X) (xs : List X) → P x → All P xs → All P (x ∷ xs)
cons-all P x xs h all zero d lt = h
cons-all P x xs h all (suc k) d lt = all k d (omega arith)

none-empty : (pairs : List Lent) → list_any (λ p. length p.0.now == 0) pairs ≡ false → All Renames (map text_member (map read pairs))
unfolding Anything
none-empty [] h = λ k d lt. absurd (omega arith)
none-empty (p ∷ pairs) h = elim (cases_Bool (length p.0.now == 0)) [
  | inl e ↦ let k = rw e at h in absurd (cc)
  | inr e ↦
      let k = rw e at h in
      let long : 0 < length p.0.now = let some = eqb-false (length p.0.now) 0 e in omega (arith, some) in
      cons-all Renames (text_member (read p)) (map text_member (map read pairs)) (long, text Anything (string p.1.now) p.1.now refl tt) (none-empty pairs k)
]

some-empty : (pairs : List Lent) → list_any (λ p. length p.0.now == 0) pairs ≡ true → ¬ All Renames (map text_member (map read pairs))
some-empty [] h all = absurd (cc)
some-empty (p ∷ pairs) h all = elim (cases_Bool (length p.0.now == 0)) [
  | inl e ↦
      let none = eqb-true (length p.0.now) 0 e in
      let some = (all 0 (text_member (read p)) (omega arith)).0 in
      absurd (omega arith)
  | inr e ↦ let k = rw e at h in some-empty pairs k (λ j d lt. all (suc j) d (omega arith))
]

pub renames : (pairs : List Lent) (d : Data) → AreNamedTexts (map read pairs) d → list_any (λ p. length p.0.now == 0) pairs ≡ false → IsTableOf (λ vs. AreRenames (members_list vs)) d
unfolding AreNamedTexts IsTableOf AreRenames
renames pairs d (ms, is, members) h = (ms, is, subst (All Renames) (sym members) (none-empty pairs h))

pub no-renames : (pairs : List Lent) (d : Data) → AreNamedTexts (map read pairs) d → list_any (λ p. length p.0.now == 0) pairs ≡ true → ¬ IsTableOf (λ vs. AreRenames (members_list vs)) d
unfolding AreNamedTexts IsTableOf AreRenames
no-renames pairs d (ms, is, members) h (ns, same, all) =
    let both : table ns ≡ table ms = sym same ∙ is in
    let tables : ns ≡ ms = cc in
    some-empty pairs h (subst (All Renames) (ap members_list tables ∙ members) all)

pub no-texts : (d : Data) → ¬ IsTableOf (λ ms. All (λ m. IsText Anything m.1) (members_list ms)) d → ¬ IsTableOf (λ vs. AreRenames (members_list vs)) d
unfolding IsTableOf AreRenames
no-texts d none (ms, is, all) = none (ms, is, λ k e lt. (all k e lt).1)

pub values-there : (o : Option Data) (d : Data) (found : Option (BTreeMap (String Global) (String Global))) → o ≡ Some d
    → MatchOption found (¬ IsTableOf (λ vs. AreRenames (members_list vs)) d) (λ values. AreValues (Some d) values × IsTableOf (λ vs. AreRenames (members_list vs)) d)
    → MatchOption found (¬ IsAbsentOr o (IsTableOf (λ vs. AreRenames (members_list vs)))) (λ values. AreValues o values × IsAbsentOr o (IsTableOf (λ vs. AreRenames (members_list vs))))
values-there o d None is none = λ h. none (of_present (IsTableOf (λ vs. AreRenames (members_list vs))) o d is h)
values-there o d (Some values) is has = (rw is has.0, present (IsTableOf (λ vs. AreRenames (members_list vs))) o d is has.1)

-- ---- the first field that is wrong

abbrev pub HasKey : Members → Type 0
HasKey ms = IsThere (at ms (codes "key")) (IsText (λ t. 0 < length t))

abbrev pub HasFold : Members → Type 0
HasFold ms = IsAbsentOr (at ms (codes "fold")) IsBoolean

abbrev pub HasEmpty : Members → Type 0
HasEmpty ms = IsAbsentOr (at ms (codes "empty")) (IsText Anything)

abbrev pub HasValues : Members → Type 0
HasValues ms = IsAbsentOr (at ms (codes "values")) (IsTableOf (λ vs. AreRenames (members_list vs)))

pub wrong-key : (ms : Members) → ¬ HasKey ms → FirstBroken (map_checks ms) field.Key
unfolding map_checks FirstBroken
wrong-key ms key = inl (key, refl)

pub wrong-fold : (ms : Members) → HasKey ms → ¬ HasFold ms → FirstBroken (map_checks ms) field.Fold
unfolding map_checks FirstBroken
wrong-fold ms key fold = inr (λ no. no key, inl (fold, refl))

pub wrong-empty : (ms : Members) → HasKey ms → HasFold ms → ¬ HasEmpty ms → FirstBroken (map_checks ms) field.Empty
unfolding map_checks FirstBroken
wrong-empty ms key fold empty = inr (λ no. no key, inr (λ no. no fold, inl (empty, refl)))

pub wrong-unknown : (ms : Members) → HasKey ms → HasFold ms → HasEmpty ms → ¬ HasOnly map_fields ms → FirstBroken (map_checks ms) field.Unknown
unfolding map_checks FirstBroken
wrong-unknown ms key fold empty only = inr (λ no. no key, inr (λ no. no fold, inr (λ no. no empty, inl (only, refl))))

pub wrong-values : (ms : Members) → HasKey ms → HasFold ms → HasEmpty ms → HasOnly map_fields ms → ¬ HasValues ms → FirstBroken (map_checks ms) field.Values
unfolding map_checks FirstBroken
wrong-values ms key fold empty only values = inr (λ no. no key, inr (λ no. no fold, inr (λ no. no empty, inr (λ no. no only, inl (values, refl)))))

pub none-wrong : (ms : Members) → HasKey ms → HasFold ms → HasEmpty ms → HasOnly map_fields ms → HasValues ms → NoneBroken (map_checks ms)
unfolding map_checks NoneBroken
none-wrong ms key fold empty only values = (λ no. no key, (λ no. no fold, (λ no. no empty, (λ no. no only, (λ no. no values, tt)))))

-- ---- maps, one after another

zip-push : {A B : Type 0} (R : A → B → Type 0) (xs : List A) (ys : List B) (x : A) (y : B) → AllZip R xs ys → R x y → AllZip R (xs ++ x ∷ []) (ys ++ y ∷ [])
zip-push R [] [] x y all one = (one, tt)
zip-push R [] (z ∷ ys) x y all one = absurd all
zip-push R (w ∷ xs) [] x y all one = absurd all
zip-push R (w ∷ xs) (z ∷ ys) x y all one = (all.0, zip-push R xs ys x y all.1 one)

apart-more : (maps : List NamedMap) (named : NamedMap) (place : ℕ) (other : NamedMap) → slice_get (maps ++ named ∷ []) place ≡ Some other
    → ((slice_get maps place ≡ Some other) × (take place (maps ++ named ∷ []) ≡ take place maps)) ⊎ ((other ≡ named) × (take place (maps ++ named ∷ []) ≡ maps))
apart-more [] named zero other is = inr (cc, refl)
apart-more [] named (suc k) other is = absurd (cc)
apart-more (m ∷ maps) named zero other is = inl (is, refl)
apart-more (m ∷ maps) named (suc k) other is = elim (apart-more maps named k other is) [
  | inl h ↦ inl (h.0, ap (λ l. m ∷ l) h.1)
  | inr h ↦ inr (h.0, ap (λ l. m ∷ l) h.1)
]

pub maps-none : StateMaps [] []
maps-none = record { each = tt; apart = λ place named is. absurd (cc) }

pub maps-more : (tables : List Members) (maps new : List NamedMap) (i : ℕ) (d : Members) (named : NamedMap) → i < length tables → StateMaps (take i tables) maps → StatesMap (get_or tables i d) named → IsNew maps named
    → new ≡ maps ++ named ∷ [] → StateMaps (take (i + 1) tables) new
maps-more tables maps new i d named lt so one fresh is =
    let more = take_more tables i d lt in
    rw (is, more) (record {
      each = zip-push StatesMap (take i tables) maps (get_or tables i d) named so.each one;
      apart = λ place other there. elim (apart-more maps named place other there) [
        | inl h ↦ rw h.1 (so.apart place other h.0)
        | inr h ↦ rw (h.0, h.1) fresh
      ];
    })

-- the table at a place is that of a map of a source that was there before
pub double-at : (tables : List Members) (maps : List NamedMap) (i : ℕ) (d : Members) (named : NamedMap) → i < length tables → StateMaps (take i tables) maps → StatesMap (get_or tables i d) named → IsDouble maps named
    → IsWrongAt tables field.Key (i + 1)
double-at tables maps i d named lt so one double = record {
  before = i;
  place_is = omega arith;
  maps = maps;
  are_maps = so;
  table = get_or tables i d;
  is_there = slice_get-get_or tables i d lt;
  is_wrong = inr (refl, (named, one, double));
}

-- ---- the top

pub top-wrong : (ms : Members) (w : MapField) → ¬ IsThere (at ms (codes "map")) (IsArrayOf (All (IsTableOf Anything))) → w ≡ field.Map → FirstBroken (top_checks ms) w
unfolding top_checks FirstBroken
top-wrong ms w none is = inl (none, is)

pub top-more : (ms : Members) (w : MapField) → IsThere (at ms (codes "map")) (IsArrayOf (All (IsTableOf Anything))) → ¬ HasOnly (codes "map" ∷ []) ms → w ≡ field.Map → FirstBroken (top_checks ms) w
unfolding top_checks FirstBroken
top-more ms w has only is = inr (λ no. no has, inl (only, is))

pub top-right : (ms : Members) → IsThere (at ms (codes "map")) (IsArrayOf (All (IsTableOf Anything))) → HasOnly (codes "map" ∷ []) ms → NoneBroken (top_checks ms)
unfolding top_checks NoneBroken
top-right ms has only = (λ no. no has, (λ no. no only, tt))

pub tables-there : (o : Option Data) (d : Data) (tables : List Members) → o ≡ Some d → AreTables tables d → IsThere o (IsArrayOf (All (IsTableOf Anything)))
tables-there o d tables is are = there (IsArrayOf (All (IsTableOf Anything))) o d is (tables_are d tables are)

pub none-there : (o : Option Data) (d : Data) → o ≡ Some d → ¬ IsArrayOf (All (IsTableOf Anything)) d → ¬ IsThere o (IsArrayOf (All (IsTableOf Anything)))
none-there o d is none h = none (of_there (IsArrayOf (All (IsTableOf Anything))) o d is h)

pub table-reads : (ms : Members) (tables : List Members) (r : Result (Vec NamedMap Global) MapFault) → NoneBroken (top_checks ms) → tables_of (at ms (codes "map")) ≡ tables → TablesRead tables r → TableReads ms r
table-reads ms tables (Ok maps) top is h = record { top = top; are_maps = subst (λ ts. StateMaps ts maps.items) (sym is) h }
table-reads ms tables (Err fault.Syntax) top is h = h
table-reads ms tables (Err (fault.Field w place)) top is h = inr (top, subst (λ ts. IsWrongAt ts w place) (sym is) h)
table-reads ms tables (Err fault.NoMemory) top is h = tt

pub text-reads : (text : List ℕ) (ms : Members) (r : Result (Vec NamedMap Global) MapFault) → IsTable text ms → TableReads ms r → MapsRead text r
text-reads text ms (Ok maps) is h = (ms, is, h)
text-reads text ms (Err fault.Syntax) is h = absurd h
text-reads text ms (Err (fault.Field w place)) is h = (ms, is, h)
text-reads text ms (Err fault.NoMemory) is h = tt
