-- The lists of columns, as those who copy them see them.
use Rattle.std.proofs.Common.{◌≡◌, ◌-◌, drop, length-drop, ℕ, zero, suc, refl, arith, ◌<◌, ◌+◌, ◌++◌, ◌∷◌, [], List, length, length-append, get_or, map, subst, take, Some, sym, ap, ◌∙◌}
use Rattle.std.specs.Prelude.{option_map, slice_get, slice_range}
use Rattle.std.proofs.Math.Seq.{drop-append_seam}
use Rattle.std.proofs.lemmas.Option.{get_or_from_slice_get, slice_get-get_or, slice_get-map, slice_get_within}
use Rattle.std.proofs.lemmas.List.{length-map, map_push, take_all, take_more}
use Rattle.fw_charge.specs.Charge.{Charge}
use Rattle.fw_row_table.specs.declared.table.Table.{Table}
use Rattle.fw_row_table.specs.Lists.{tag_places, lists_of}
use Rattle.fw_row_table.specs.Table.{AreColumns, list_at, charge_at, tags_of}
use Rattle.fw_row_table.specs.Texts.{names_of, texts_of_tags}
use Rattle.fw_row_table.proofs.TableFacts.{list-shown, row-shown, tags-back}
use Rattle.fw_row_table.proofs.TextFacts.{AreKnown, rows-known}
use Rattle.fw_row_table.proofs.RowFacts.{row_there}

-- ---- what the tags of a row are kept as

pub list_there : (t : Table) (rows : List Charge) → AreColumns t rows → (i : ℕ) → i < length rows → slice_get (lists_of t.names rows) i ≡ Some (list_at t i)
unfolding lists_of
list_there t rows columns i h =
    let d = charge_at t i in
    let kept : Charge → List ℕ = λ (c : Charge). tag_places t.names c.tags in
    slice_get-map kept rows i
    ∙ (ap (option_map kept) (row_there t rows columns i h)
    ∙ ap Some (ap kept (row-shown t rows columns i d h) ∙ sym (list-shown t rows columns i d h)))

-- the tags of a row are kept as the list at its place, and come back from it
pub list_of_row : (rows : List Charge) (place : ℕ) (one : Charge) → slice_get rows place ≡ Some one
    → (slice_get (lists_of (names_of rows) rows) place ≡ Some (tag_places (names_of rows) one.tags)) × (tags_of (names_of rows) (tag_places (names_of rows) one.tags) ≡ one.tags)
unfolding lists_of
list_of_row rows place one there =
    let names = names_of rows in
    let within = slice_get_within rows place one there in
    let known = rows-known rows place one within in
    let is : get_or rows place one ≡ one = get_or_from_slice_get rows place one one there in (
      slice_get-map (λ (c : Charge). tag_places names c.tags) rows place ∙ ap (option_map (λ (c : Charge). tag_places names c.tags)) there,
      tags-back names one.tags (subst (λ (c : Charge). AreKnown names (texts_of_tags c.tags)) is known.tags),
    )

-- ---- what lists are spelled as, where each is spelled once

taken_get : {A : Type 0} (n : ℕ) (xs : List A) (i : ℕ) → i < n → slice_get (take n xs) i ≡ slice_get xs i
taken_get zero xs i within = absurd (omega (arith, within))
taken_get (suc n) [] i within = refl
taken_get (suc n) (x ∷ xs) zero within = refl
taken_get (suc n) (x ∷ xs) (suc i) within = taken_get n xs i (omega (arith, within))

-- the list of a row is spelled already: it is the one at its code
pub known_spelled : (spell : List ℕ → List ℕ) (lists of_rows spelled : List (List ℕ)) (code place : ℕ) (known : List ℕ) → spelled ≡ map spell (take (length spelled) lists) → code < length spelled
    → slice_get lists code ≡ slice_get of_rows place → slice_get spelled code ≡ Some known
    → (list : List ℕ) × ((slice_get of_rows place ≡ Some list) × (known ≡ spell list))
known_spelled spell lists of_rows spelled code place known are below same found =
    let front = take (length spelled) lists in
    let size : length spelled ≡ length front = ap length are ∙ length-map front spell in
    let list = get_or front code [] in
    let read : slice_get front code ≡ Some list = slice_get-get_or front code [] (omega (arith, below, size)) in
    let there : slice_get of_rows place ≡ Some list = sym same ∙ sym (taken_get (length spelled) lists code below) ∙ read in
    let mapped : slice_get spelled code ≡ Some (spell list) = ap (λ l. slice_get l code) are ∙ slice_get-map spell front code ∙ ap (option_map spell) read in
    let both : Some known ≡ Some (spell list) = sym found ∙ mapped in
    (list, (there, cc))

-- one list more is spelled
pub spelled_next : (spell : List ℕ → List ℕ) (lists of_rows spelled : List (List ℕ)) (code place : ℕ) (list : List ℕ) → spelled ≡ map spell (take (length spelled) lists) → code ≡ length spelled
    → slice_get lists code ≡ slice_get of_rows place → slice_get of_rows place ≡ Some list → spelled ++ spell list ∷ [] ≡ map spell (take (length (spelled ++ spell list ∷ [])) lists)
spelled_next spell lists of_rows spelled code place list are next same there =
    let n = length spelled in
    let read : slice_get lists n ≡ Some list = ap (slice_get lists) (sym next) ∙ same ∙ there in
    let long : length (spelled ++ spell list ∷ []) ≡ n + 1 = length-append spelled (spell list ∷ []) in
    let more : take (n + 1) lists ≡ take n lists ++ list ∷ [] =
    take_more lists n list (slice_get_within lists n list read) ∙ ap (λ l. take n lists ++ l ∷ []) (get_or_from_slice_get lists n list list read) in
    ap (λ l. l ++ spell list ∷ []) are ∙ sym (map_push spell (take n lists) list) ∙ ap (map spell) (sym more) ∙ ap (λ m. map spell (take m lists)) (sym long)

-- what was written behind the place where a buffer ended
pub last_bytes : (out written new shown : List ℕ) (start : ℕ) → start ≡ length out → new ≡ out ++ written → shown ≡ new → slice_range shown start (length shown) ≡ written
last_bytes out written new shown start at put is =
    let whole : shown ≡ out ++ written = is ∙ put in
    ap (λ n. slice_range shown n (length shown)) at
    ∙ ap (λ l. slice_range l (length out) (length l)) whole
    ∙ take_all (length (out ++ written) - length out) (drop (length out) (out ++ written)) (omega (arith, length-drop (length out) (out ++ written)))
    ∙ drop-append_seam out written
