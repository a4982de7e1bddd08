-- What the places of the columns, and the texts that the reader has taken out, say of a record.
use Rattle.std.proofs.Common.{◌≡◌, ◌<◌, ◌≤◌, ◌≢◌, ◌+◌, ◌-◌, ℕ, zero, suc, Option, Some, None, List, take, drop, [], ◌∷◌, length, get_or, set, refl, sym, ap, ◌∙◌, arith, map, subst, below_more, get_or-set_other, get_or-set_same, length-set}
use Rattle.std.specs.Prelude.{IsUtf8, slice_index_or, unwrap_or}
use Rattle.std.specs.Borrow.{Bor}
use Rattle.std.specs.Str.{IsAscii}
use Rattle.std.proofs.lemmas.List.{length-map}
use Rattle.std.proofs.lemmas.Str.{IsUtf8-from_ascii, IsUtf8-nil, IsAscii-take, IsAscii-drop}
use Rattle.csv.specs.Records.{AllText, cut_from, field_at}
use Rattle.fw_rows.specs.Columns.{Record, columns, index_of, place_in, text_at, text_in}
use Rattle.fw_rows.specs.Header.{ArePlaces, place_of}
use Rattle.fw_rows.specs.Parts.{AreCells}
use Rattle.fw_rows.specs.Rules.{HasNonText}
use Rattle.fw_rows.specs.declared.cells.Cells.{Cells}
use Rattle.fw_rows.specs.declared.column.Column.{Column}
use Rattle.fw_rows.specs.declared.column.Column.TheVariants as column
use Rattle.fw_rows.specs.declared.header.Places.{Places}
use Rattle.fw_rows.proofs.ColumnFacts.{column_at, index_within, index_at, index_other}

-- ---- the places

-- the first n columns stand at these places
pub record Placed (header : Record) (places : List (Option ℕ)) (n : ℕ) : Type 0 where
  pub size : length places ≡ 15
  pub at : (k : ℕ) → k < n → get_or places k None ≡ place_in header (get_or columns k column.BilledCost)

pub placed_more : (header : Record) (places : List (Option ℕ)) (i : ℕ) (place : Option ℕ) → i < length places → Placed header places i → place ≡ place_in header (get_or columns i column.BilledCost)
    → Placed header (set places i place) (i + 1)
placed_more header places i place lt so_far here = record {
  size = length-set places i place ∙ so_far.size;
  at = below_more (λ k. get_or (set places i place) k None ≡ place_in header (get_or columns k column.BilledCost)) i
      (λ k below. let ne : k ≢ i = omega arith in rw (get_or-set_other places i k place None ne) (so_far.at k below))
      (rw (get_or-set_same places i place None lt) here);
}

pub places_are : (header : Record) (p : Places) (n : ℕ) → p.fields ≡ length header → 15 ≤ n → Placed header p.places n → ArePlaces header p
places_are header p n fields done placed = record {
  fields = fields;
  places = λ c. placed.at (index_of c) (omega (arith, index_within c)) ∙ ap (place_in header) (column_at c column.BilledCost);
}

-- ---- the texts

-- the first n of the texts are those of the fields at these places, and UTF-8
pub record Taken (fields : Record) (places : List (Option ℕ)) (texts : List (Bor (List ℕ))) (n : ℕ) : Type 0 where
  pub size : length texts ≡ 15
  pub at : (k : ℕ) (d : Bor (List ℕ)) → k < n → (get_or texts k d).now ≡ text_at fields (get_or places k None)
  pub utf8 : (k : ℕ) → k < n → IsUtf8 (text_at fields (get_or places k None))

pub taken_more : (fields : Record) (places : List (Option ℕ)) (texts : List (Bor (List ℕ))) (i : ℕ) (t : Bor (List ℕ)) → i < length texts → Taken fields places texts i
    → t.now ≡ text_at fields (get_or places i None) → IsUtf8 (text_at fields (get_or places i None)) → Taken fields places (set texts i t) (i + 1)
taken_more fields places texts i t lt so_far here is_text = record {
  size = length-set texts i t ∙ so_far.size;
  at = λ k d. below_more (λ k. (get_or (set texts i t) k d).now ≡ text_at fields (get_or places k None)) i
      (λ k below. let ne : k ≢ i = omega arith in rw (get_or-set_other texts i k t d ne) (so_far.at k d below))
      (rw (get_or-set_same texts i t d lt) here) k;
  utf8 = below_more (λ k. IsUtf8 (text_at fields (get_or places k None))) i so_far.utf8 is_text;
}

-- the field at a column's place is the text in the column
text_is : (header fields : Record) (p : Places) (c : Column) → ArePlaces header p → text_at fields (place_of p c) ≡ text_in header fields c
unfolding text_in
text_is header fields p c are = ap (text_at fields) (are.places c)

-- a text among those that were taken
text_among : (texts : List (Bor (List ℕ))) (k : ℕ) (t : List ℕ) → k < length texts → ((d : Bor (List ℕ)) → (get_or texts k d).now ≡ t) → slice_index_or (map (λ b. b.now) texts) k [] ≡ t
text_among [] k t lt is = absurd (omega arith)
text_among (b ∷ texts) zero t lt is = is b
text_among (b ∷ texts) (suc k) t lt is = text_among texts k t (omega arith) is

pub cells_are : (header fields : Record) (p : Places) (cells : Cells) (n : ℕ) → ArePlaces header p → 15 ≤ n → Taken fields p.places cells.texts n → AreCells header fields cells
cells_are header fields p cells n are done taken = record {
  all_text = λ h.
      let text = subst (λ t. IsUtf8 t) (text_is header fields p h.1 are) (taken.utf8 (index_of h.1) (omega (arith, index_within h.1))) in
      h.4 text;
  texts = λ c. text_among cells.texts (index_of c) (text_at fields (place_of p c)) (omega (arith, taken.size, index_within c)) (λ d. taken.at (index_of c) d (omega (arith, index_within c))) ∙ text_is header fields p c are;
}

-- ---- records of text

-- each part of a text of ASCII is UTF-8
pub ascii_is_text : (start : ℕ) (ends bytes : List ℕ) → IsAscii bytes → AllText (cut_from start ends bytes)
unfolding AllText cut_from
ascii_is_text start [] bytes ascii = tt
ascii_is_text start (end ∷ ends) bytes ascii =
    let field = take (end - start) (drop start bytes) in
    (IsUtf8-from_ascii field (IsAscii-take (drop start bytes) (end - start) (IsAscii-drop bytes start ascii)), ascii_is_text end ends bytes ascii)

-- of fields that are all UTF-8 the one at a place is, or there is none
utf8_at : (fields : Record) (place : ℕ) → AllText fields → IsUtf8 (unwrap_or (field_at fields place) [])
unfolding AllText field_at
utf8_at [] place all = IsUtf8-nil
utf8_at (f ∷ fields) zero all = all.0
utf8_at (f ∷ fields) (suc place) all = utf8_at fields place all.1

pub text_somewhere : (fields : Record) (place : Option ℕ) → AllText fields → IsUtf8 (text_at fields place)
text_somewhere fields None all = IsUtf8-nil
text_somewhere fields (Some place) all = utf8_at fields place all

-- within a list the default is not read
get_or-any : (cs : List Column) (k : ℕ) (d e : Column) → k < length cs → get_or cs k d ≡ get_or cs k e
get_or-any [] k d e lt = absurd (omega arith)
get_or-any (c ∷ cs) zero d e lt = refl
get_or-any (c ∷ cs) (suc k) d e lt = get_or-any cs k d e (omega arith)

-- a text that isn't UTF-8
pub non_text : (header fields : Record) (p : Places) (k : ℕ) → ArePlaces header p → k < 15 → ¬ IsUtf8 (text_at fields (get_or p.places k None)) → HasNonText header fields
unfolding text_in
non_text header fields p k are lt bad =
    let c = get_or columns k column.BilledCost in
    let place : get_or p.places k None ≡ place_in header c = subst (λ i. get_or p.places i None ≡ place_in header c) (index_at k column.BilledCost lt) (are.places c) in
    (k, c, lt, get_or-any columns k c column.BilledCost lt, λ text. bad (subst (λ t. IsUtf8 t) (sym (ap (text_at fields) place)) text))

-- ---- the texts with another one for the tags

now_set : (texts : List (Bor (List ℕ))) (i : ℕ) (t : Bor (List ℕ)) → map (λ b. b.now) (set texts i t) ≡ set (map (λ b. b.now) texts) i t.now
now_set [] i t = refl
now_set (b ∷ texts) zero t = refl
now_set (b ∷ texts) (suc i) t = ap (λ rest. b.now ∷ rest) (now_set texts i t)

pub set_other : (texts : List (Bor (List ℕ))) (i : ℕ) (t : Bor (List ℕ)) (c : Column) → i ≡ 14 → c ≢ column.Tags
    → slice_index_or (map (λ b. b.now) (set texts i t)) (index_of c) [] ≡ slice_index_or (map (λ b. b.now) texts) (index_of c) []
set_other texts i t c is other =
    ap (λ ts. get_or ts (index_of c) []) (now_set texts i t)
    ∙ get_or-set_other (map (λ b. b.now) texts) i (index_of c) t.now [] (λ e. index_other c other (e ∙ is))

pub set_tags : (texts : List (Bor (List ℕ))) (i : ℕ) (t : Bor (List ℕ)) → i < length texts → slice_index_or (map (λ b. b.now) (set texts i t)) i [] ≡ t.now
set_tags texts i t lt =
    ap (λ ts. get_or ts i []) (now_set texts i t) ∙ get_or-set_same (map (λ b. b.now) texts) i t.now [] (omega (arith, length-map texts (λ (b : Bor (List ℕ)). b.now)))
