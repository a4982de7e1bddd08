-- The codes of the groups of rows.
use Rattle.std.specs.Prelude.{◌≡◌, ◌↔◌, ℕ, ◌+◌, List, [], ◌∷◌, slice_get, slice_index_or, Some}
use Rattle.fw_charge.specs.Charge.{Charge}
use Rattle.fw_charge.specs.Tags.{group_of}
use Rattle.fw_row_table.specs.Names.{Text, place_of}

-- the code of a group: 0 for the empty text, else 1 more than its place in the names
unfoldable pub group_code : List Text → Text → ℕ
group_code names [] = 0
group_code names (byte ∷ rest) = 1 + place_of names (byte ∷ rest)

-- the code of a row's group under a key
unfoldable pub tag_code : Text → List Text → Charge → ℕ
tag_code key names c = group_code names (group_of key c.tags)

-- two rows have one code exactly where they have one group
unfoldable pub AgreeWithGroups : Text → List Charge → List ℕ → Type 0
AgreeWithGroups key rows codes =
    (i j : ℕ) (c d : Charge) → slice_get rows i ≡ Some c → slice_get rows j ≡ Some d
    → (slice_index_or codes i 0 ≡ slice_index_or codes j 0) ↔ (group_of key c.tags ≡ group_of key d.tags)
