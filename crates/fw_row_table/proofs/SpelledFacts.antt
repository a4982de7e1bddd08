-- Rows have a spelling where the names of their texts are UTF-8.
use Rattle.std.proofs.Common.{◌≡◌, ℕ, List, [], ◌∷◌, get_or, Some, subst}
use Rattle.std.specs.Prelude.{All, IsUtf8, slice_get}
use Rattle.std.proofs.lemmas.List.Elements.{All-nil, All-cons}
use Rattle.std.proofs.lemmas.Option.{slice_get_within, get_or_from_slice_get}
use Rattle.fw_charge.proofs.Fitting.{fits_tag, fits_tags}
use Rattle.fw_charge.specs.Charge.{Charge, IsCharge}
use Rattle.fw_charge.specs.Spelling.{FitsTags}
use Rattle.fw_charge.specs.Tags.{TagText}
use Rattle.fw_row_table.specs.Lending.{IsTextTag}
use Rattle.fw_row_table.specs.Names.{Text, place_of}
use Rattle.fw_row_table.specs.Texts.{names_of, texts_of_tags}
use Rattle.fw_row_table.proofs.NameFacts.{text_at_place}
use Rattle.fw_row_table.proofs.TextFacts.{AreKnown, IsKnown, rows-known}

-- a text among names that are UTF-8 is UTF-8
pub known_is_text : (names : List Text) (t : Text) → All IsUtf8 names → IsKnown names t → IsUtf8 t
known_is_text names t all known = subst (λ x. IsUtf8 x) (text_at_place names t [] known.below) (all (place_of names t) [] known.below)

-- and so are tags
pub known_are_text : (names : List Text) (tags : List TagText) → All IsUtf8 names → AreKnown names (texts_of_tags tags) → All IsTextTag tags
unfolding texts_of_tags
known_are_text names [] all known = All-nil IsTextTag
known_are_text names (t ∷ tags) all known =
    All-cons IsTextTag t tags (record { key = known_is_text names t.key all known.0; value = known_is_text names t.value all known.1.0 })
    (known_are_text names tags all known.1.1)

-- the tags of a row among rows with such names
pub tags_are_text : (rows : List Charge) (place : ℕ) (row : Charge) → All IsUtf8 (names_of rows) → slice_get rows place ≡ Some row → All IsTextTag row.tags
tags_are_text rows place row all there =
    let known = rows-known rows place row (slice_get_within rows place row there) in
    let same : get_or rows place row ≡ row = get_or_from_slice_get rows place row row there in
    subst (λ (c : Charge). All IsTextTag c.tags) same (known_are_text (names_of rows) (get_or rows place row).tags all known.tags)

-- tags of text that a row keeps have a spelling
pub tags_fit : (c : Charge) → IsCharge c → All IsTextTag c.tags → FitsTags c.tags
tags_fit c charge text =
    fits_tags c.tags charge.tags (λ k d lt. let one = text k d lt in fits_tag (get_or c.tags k d) (charge.tags.sized k d lt) one.key one.value)
