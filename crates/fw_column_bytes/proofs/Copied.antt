-- Columns that are copied are spelled as the rows say.
use Rattle.std.proofs.Common.{◌≡◌, ◌+◌, ◌/◌, ℕ, List, [], ◌∷◌, ◌++◌, length, map, refl, sym, ap, ◌∙◌, append_assoc, arith}
use Rattle.std.specs.List.{flat_map}
use Rattle.std.proofs.lemmas.List.Folds.{flat_map-map}
use Rattle.fw_bytes.specs.Spelling.{number32, listed}
use Rattle.fw_charge.specs.Charge.{Charge}
use Rattle.fw_charge.specs.Tags.{TagText}
use Rattle.fw_row_table.specs.Lists.{tag_places, lists_of}
use Rattle.fw_row_table.specs.Names.{Text}
use Rattle.fw_row_table.specs.Texts.{texts_of_tags}
use Rattle.fw_column_bytes.specs.Spelling.{code, tag, tags}

-- a column of what a function gives of each row
pub copied : {A : Type 0} (spell : A → List ℕ) (value : Charge → A) (rows : List Charge) (column : List A) → column ≡ map value rows → flat_map spell column ≡ flat_map (λ c. spell (value c)) rows
copied spell value rows column is = ap (flat_map spell) is ∙ flat_map-map spell value rows

-- ---- tags

-- the codes of the texts at places
abbrev pub codes : List ℕ → List ℕ
codes places = flat_map (λ place. number32 (1 + place)) places

-- places of tags, as their number and the codes of the texts there
abbrev pub places_spelled : List ℕ → List ℕ
places_spelled places = number32 (length places / 2) ++ codes places

pub counted : (names : List Text) (ts : List TagText) → length (tag_places names ts) / 2 ≡ length ts
unfolding tag_places texts_of_tags
counted names [] = refl
counted names (t ∷ ts) =
    let rest : length (tag_places names ts) / 2 ≡ length ts = counted names ts in
    omega (arith, rest)

codes_spelled : (names : List Text) (ts : List TagText) → codes (tag_places names ts) ≡ flat_map (tag names) ts
unfolding tag_places texts_of_tags
codes_spelled names [] = refl
codes_spelled names (t ∷ ts) =
    ap (λ (w : List ℕ). code names t.key ++ (code names t.value ++ w)) (codes_spelled names ts) ∙ sym (append_assoc (code names t.key) (code names t.value) (flat_map (tag names) ts))

pub tags_spelled : (names : List Text) (ts : List TagText) → places_spelled (tag_places names ts) ≡ listed (tag names) ts
tags_spelled names ts = (λ j. number32 (counted names ts j) ++ codes_spelled names ts j)

-- the tags of rows
pub lists_spelled : (names : List Text) (rows : List Charge) → flat_map places_spelled (lists_of names rows) ≡ tags names rows
unfolding lists_of tags
lists_spelled names rows =
    flat_map-map places_spelled (λ (c : Charge). tag_places names c.tags) rows ∙ (λ j. flat_map (λ (c : Charge). tags_spelled names c.tags j) rows)

pub lists_counted : (names : List Text) (rows : List Charge) → length (lists_of names rows) ≡ length rows
unfolding lists_of
lists_counted names [] = refl
lists_counted names (r ∷ rs) = let rest : length (lists_of names rs) ≡ length rs = lists_counted names rs in omega (arith, rest)
