-- Texts of tags, and rows that have the tags that they state. The private functions of the crate cite it.
use Rattle.std.specs.Prelude.{◌≡◌, ◌<◌, ◌+◌, ◌++◌, ℕ, List, [], ◌∷◌, length, slice_index, slice_index_or, Some, Result, Ok, Err}
use Rattle.fw_charge.specs.Charge.{Charge}
use Rattle.fw_charge.specs.Tags.{TagText, IsTags}
use Rattle.fw_row_table.specs.Lending.{charge_with}
use Rattle.fw_columns.specs.Rows.{tags_at}
use Rattle.fw_row_table.specs.declared.lending.RowView.{RowView}
use Rattle.fw_rows.specs.Parts.{TextsAreShort}
use Rattle.fw_rows.specs.Rules.{Texts, AreShort, tags_stated}
use Rattle.fw_rows.specs.declared.column.Column.TheVariants as column
use Rattle.fw_rows.specs.declared.fault.RecordFault.TheVariants as fault
use Rattle.fw_rows.specs.declared.fault.Refusal.{Refusal}
use Rattle.fw_rows.specs.declared.fault.Refusal.TheVariants as refusal

-- the row at a place has the tags that a text states
pub record HasTagsOf (text : List ℕ) (place : ℕ) (rows : List Charge) : Type 0 where
  pub within : place < length rows
  pub stated : tags_stated text ≡ Some (tags_at rows place)
  pub kept : IsTags (tags_at rows place)

-- at most so many texts are kept for the next text of charges
abbrev pub most_texts : ℕ
most_texts = 16384

-- for each text there is 1 more than the place of a row with its tags, or 0
pub record AreTagsOf (texts : List (List ℕ)) (places : List ℕ) (rows : List Charge) : Type 0 where
  pub one_each : length places ≡ length texts
  pub each : (k place : ℕ) → k < length places → slice_index places k ≡ place + 1 → HasTagsOf (slice_index_or texts k []) place rows

-- there is one row more: that with these values, and with the tags that the text of a record states
abbrev pub AddsView : Texts → RowView → List Charge → List Charge → Type 0
AddsView at row old new = AreShort at × (tags : List TagText) × (tags_stated (at column.Tags) ≡ Some tags) × (new ≡ old ++ charge_with row tags ∷ [])

-- there is one row more: that with these values and tags; or a text of the record is too long
abbrev pub IsAdded : Texts → RowView → List TagText → List Charge → List Charge → Result (Unit {0}) Refusal → Type 0
IsAdded at row tags old new (Ok u) = TextsAreShort at × (new ≡ old ++ charge_with row tags ∷ [])
IsAdded at row tags old new (Err (refusal.Broken f)) = (¬ TextsAreShort at) × (f ≡ fault.TooLong)
IsAdded at row tags old new (Err refusal.NoMemory) = Unit {0}
