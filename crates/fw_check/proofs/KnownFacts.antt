-- Facts on where the keys of tags stand in counts.
use Rattle.std.proofs.Common.{◌≡◌, ℕ, ◌<◌, ◌∙◌, sym, ap, subst, refl, arith, Bool, true, false, List, [], ◌∷◌, ◌++◌, length, map, get_or, set, position, slice_get, Some, None, Option, string_bytes, String, inl, inr}
use Rattle.std.proofs.lemmas.Bool.{cases_eq, lt-ltb}
use Rattle.std.proofs.lemmas.List.{append-nil, get_or-map, get_or-set_same, get_or-set_other, length-set}
use Rattle.std.proofs.lemmas.Option.{slice_get_within, get_or_from_slice_get}
use Rattle.std.specs.List.{position_or_len}
use Rattle.std.specs.Map.{keys_of}
use Rattle.std.specs.Str.{bytes_eq}
use Rattle.std.specs.declared.alloc.Global.{Global}
use Rattle.fw_charge.specs.Charge.{Charge}
use Rattle.fw_row_table.specs.Lists.{lists_of, tag_places}
use Rattle.fw_row_table.specs.Names.{Text}
use Rattle.fw_row_table.specs.Table.{tags_of, text_at}
use Rattle.fw_row_table.specs.Texts.{names_of}
use Rattle.fw_row_table.proofs.NameFacts.{place_first, position-map}
use Rattle.fw_row_table.proofs.TableFacts.{tags-back}
use Rattle.fw_row_table.proofs.TextFacts.{IsRowKnown, rows-known}
use Rattle.fw_check.specs.Counts.{counted, text_counts}
use Rattle.fw_check.specs.Known.{key_place, AreKnown}

abbrev keys : List (Text × ℕ) → List Text
keys counts = map (λ c. c.0) counts

keys_shown : (entries : List (String Global × ℕ)) → map string_bytes (keys_of entries) ≡ keys (text_counts entries)
keys_shown [] = refl
keys_shown (e ∷ es) = ap (λ texts. string_bytes e.0 ∷ texts) (keys_shown es)

-- the place of a key among entries is that in their counts
pub place_shown : (key : Text) (entries : List (String Global × ℕ))
    → position (λ q. bytes_eq key (string_bytes q)) (keys_of entries) ≡ key_place key (text_counts entries)
place_shown key entries = position-map string_bytes (bytes_eq key) (keys_of entries) ∙ ap (position (bytes_eq key)) (keys_shown entries)

-- keys grow at their end
keys_grow : (key : Text) (n : ℕ) (counts : List (Text × ℕ)) → (more : List Text) × (keys (counted bytes_eq key n counts) ≡ keys counts ++ more)
keys_grow key n [] = (key ∷ [], refl)
keys_grow key n (c ∷ cs) = by (bytes_eq key c.0) refl (keys_grow key n cs)
  where
    by : (b : Bool) → bytes_eq key c.0 ≡ b → (more : List Text) × (keys (counted bytes_eq key n cs) ≡ keys cs ++ more)
        → (more : List Text) × (keys (counted bytes_eq key n (c ∷ cs)) ≡ keys (c ∷ cs) ++ more)
    by true e rest = ([], rw e (sym (append-nil (keys (c ∷ cs)))))
    by false e rest = (rest.0, rw e (ap (λ texts. c.0 ∷ texts) rest.1))

-- so a key keeps its place while others are counted
place_stays : (text key : Text) (n place : ℕ) (counts : List (Text × ℕ)) → key_place text counts ≡ Some place → key_place text (counted bytes_eq key n counts) ≡ Some place
place_stays text key n place counts h =
    let grown = keys_grow key n counts in
    let first = place_first (bytes_eq text) (keys counts) grown.0 place h in
    rw grown.1 (
    let within : position_or_len (bytes_eq text) (keys counts ++ grown.0) < length (keys counts ++ grown.0) = omega (arith, first.0, first.1) in
    rw (lt-ltb _ _ within) (ap Some (sym first.0)))

-- and what is known stays
pub known_stay : (names : List Text) (known : List (Option ℕ)) (counts : List (Text × ℕ)) (key : Text) (n : ℕ)
    → AreKnown names known counts → AreKnown names known (counted bytes_eq key n counts)
known_stay names known counts key n h = record {
  size = h.size;
  each = λ name place e. place_stays (text_at names name) key n place counts (h.each name place e);
}

-- the place of one more name is known
pub one_known : (names : List Text) (known : List (Option ℕ)) (counts : List (Text × ℕ)) (name : ℕ) (place : Option ℕ) → name < length names
    → AreKnown names known counts → place ≡ key_place (text_at names name) counts → AreKnown names (set known name place) counts
one_known names known counts name place lt h is = record {
  size = length-set known name place ∙ h.size;
  each = λ other found e. elim (cases_eq other name) [
    | inl same ↦
        let here : get_or (set known name place) name None ≡ place = get_or-set_same known name place None (omega (arith, h.size)) in
        ap (λ o. key_place (text_at names o) counts) same ∙ sym is ∙ sym here ∙ ap (λ o. get_or (set known name place) o None) (sym same) ∙ e
    | inr differ ↦ h.each other found (sym (get_or-set_other known name other place None differ) ∙ e)
  ];
}

-- the list of a row stands for its tags
pub tags_listed : (rows : List Charge) (place : ℕ) (row : Charge) (list : List ℕ) → slice_get rows place ≡ Some row
    → slice_get (lists_of (names_of rows) rows) place ≡ Some list → tags_of (names_of rows) list ≡ row.tags
unfolding lists_of
tags_listed rows place row list at listed =
    let names = names_of rows in
    let lt : place < length rows = slice_get_within rows place row at in
    let is : get_or rows place row ≡ row = get_or_from_slice_get rows place row row at in
    let places = λ (c : Charge). tag_places names c.tags in
    let shown : list ≡ tag_places names row.tags =
    sym (get_or_from_slice_get (map places rows) place list [] listed) ∙ get_or-map places rows place row [] lt ∙ ap places is in
    let known : IsRowKnown names row = subst (IsRowKnown names) is (rows-known rows place row lt) in
    ap (tags_of names) shown ∙ tags-back names row.tags known.tags
