-- Where a name stands in a header.
use Rattle.std.proofs.Common.{◌≡◌, ℕ, zero, suc, ◌<◌, ◌≤◌, ◌+◌, ◌++◌, ◌∷◌, true, false, Option, Some, None, List, [], map, take, length, get_or, String, Global, string_bytes, refl, sym, ap, subst, ◌∙◌, arith}
use Rattle.std.proofs.lemmas.List.{get_or-map, length-map, map-append, take_all, take_more, take_more_same}
use Rattle.std.proofs.lemmas.List.Elements.{All-push}
use Rattle.std.proofs.lemmas.Str.{IsUtf8-string_bytes}
use Rattle.std.specs.Prelude.{All, Any, IsUtf8}
use Rattle.std.specs.List.{position_or_len}
use Rattle.std.specs.Prelude.{nat_lt}
use Rattle.std.specs.Str.{bytes_eq}
use Rattle.std.proofs.lemmas.List.Sums.{position_or_len_is}
use Rattle.fw_rows.specs.Columns.{Record, text_at}
use Rattle.fw_rows.specs.Keeping.{texts_at}
use Rattle.fw_rows.specs.Kept.{name_place}

-- the first field that is the name stands here
pub name_is : (header : Record) (name : List ℕ) (i : ℕ) → i < length header → ((k : ℕ) → k < i → bytes_eq name (get_or header k []) ≡ false) → bytes_eq name (get_or header i []) ≡ true
    → Some i ≡ name_place header name
name_is header name i lt before here =
    let at : position_or_len (bytes_eq name) header ≡ i = position_or_len_is (bytes_eq name) header i [] (omega arith) before (λ _. here) in
    let within : nat_lt i (length header) ≡ true = grind arith in
    rw (at, within) refl

-- no field is the name
pub name_none : (header : Record) (name : List ℕ) → ((k : ℕ) → k < length header → bytes_eq name (get_or header k []) ≡ false) → None ≡ name_place header name
name_none header name before =
    let at : position_or_len (bytes_eq name) header ≡ length header = position_or_len_is (bytes_eq name) header (length header) [] (omega arith) before (λ lt. absurd (omega arith)) in
    let past : nat_lt (length header) (length header) ≡ false = grind arith in
    rw (at, past) refl

-- ---- the texts at places

long : (fields : Record) (places : List (Option ℕ)) → length (texts_at fields places) ≡ length places
long fields places = length-map places (text_at fields)

at_place : (fields : Record) (places : List (Option ℕ)) (i : ℕ) (d : List ℕ) → i < length places → get_or (texts_at fields places) i d ≡ text_at fields (get_or places i None)
at_place fields places i d lt = get_or-map (text_at fields) places i None d lt

-- one text more is that of the record
pub same-turn : (fields : Record) (values : List (String Global)) (places : List (Option ℕ)) (i : ℕ) (v : String Global) (lent : List ℕ) → i < length values → i < length places
    → take i (map string_bytes values) ≡ take i (texts_at fields places) → v ≡ get_or values i v → lent ≡ string_bytes v → lent ≡ text_at fields (get_or places i None)
    → take (i + 1) (map string_bytes values) ≡ take (i + 1) (texts_at fields places)
same-turn fields values places i v lent below lt so_far at is_text here =
    take_more_same (map string_bytes values) (texts_at fields places) i [] (omega (arith, length-map values (λ (s : String Global). string_bytes s))) (omega (arith, long fields places)) so_far
    (get_or-map string_bytes values i v [] below ∙ (sym (ap string_bytes at) ∙ (sym is_text ∙ (here ∙ sym (at_place fields places i [] lt)))))

-- one of the texts isn't UTF-8
pub bad-at : (fields : Record) (places : List (Option ℕ)) (i : ℕ) → i < length places → ¬ IsUtf8 (text_at fields (get_or places i None)) → Any (λ text. ¬ IsUtf8 text) (texts_at fields places)
bad-at fields places i lt bad = (i, text_at fields (get_or places i None), omega (arith, long fields places), at_place fields places i (text_at fields (get_or places i None)) lt, bad)

more-at : (fields : Record) (places : List (Option ℕ)) (i : ℕ) → i < length places → take (i + 1) (texts_at fields places) ≡ take i (texts_at fields places) ++ text_at fields (get_or places i None) ∷ []
more-at fields places i lt =
    take_more (texts_at fields places) i [] (omega (arith, long fields places)) ∙ ap (λ t. take i (texts_at fields places) ++ t ∷ []) (at_place fields places i [] lt)

-- one text more was copied
pub copied-turn : (fields : Record) (places : List (Option ℕ)) (i : ℕ) (old new : List (String Global)) (s : String Global) (lent : List ℕ) → i < length places
    → map string_bytes old ≡ take i (texts_at fields places) → new ≡ old ++ s ∷ [] → string_bytes s ≡ lent → lent ≡ text_at fields (get_or places i None)
    → map string_bytes new ≡ take (i + 1) (texts_at fields places)
copied-turn fields places i old new s lent lt so_far more is here =
    ap (map string_bytes) more ∙ map-append string_bytes old (s ∷ [])
    ∙ ap (λ ts. ts ++ string_bytes s ∷ []) so_far
    ∙ ap (λ t. take i (texts_at fields places) ++ t ∷ []) (is ∙ here)
    ∙ sym (more-at fields places i lt)

pub utf8-turn : (fields : Record) (places : List (Option ℕ)) (i : ℕ) → i < length places → All IsUtf8 (take i (texts_at fields places)) → IsUtf8 (text_at fields (get_or places i None))
    → All IsUtf8 (take (i + 1) (texts_at fields places))
utf8-turn fields places i lt so_far is_text =
    subst (λ ts. All IsUtf8 ts) (sym (more-at fields places i lt)) (All-push IsUtf8 (take i (texts_at fields places)) (text_at fields (get_or places i None)) so_far is_text)

pub whole-at : (fields : Record) (places : List (Option ℕ)) (i : ℕ) → length places ≤ i → take i (texts_at fields places) ≡ texts_at fields places
whole-at fields places i le = take_all i (texts_at fields places) (omega (arith, long fields places))

-- the bytes of texts are UTF-8
pub texts_utf8 : (values : List (String Global)) → All IsUtf8 (map string_bytes values)
texts_utf8 [] = λ k d lt. absurd (omega arith)
texts_utf8 (v ∷ values) = λ k d lt. by (texts_utf8 values) k d lt
  where
    by : All IsUtf8 (map string_bytes values) → (k : ℕ) (d : List ℕ) → k < length (map string_bytes (v ∷ values)) → IsUtf8 (get_or (map string_bytes (v ∷ values)) k d)
    by others zero d lt = IsUtf8-string_bytes v
    by others (suc k) d lt = others k d (omega arith)
