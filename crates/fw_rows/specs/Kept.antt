-- Columns that are kept as tags: what a CSV text reads as where the texts in these columns are tags of its rows.
use Rattle.std.specs.Prelude.{◌≡◌, ◌≢◌, ◌⊎◌, ◌+◌, ◌<◌, ◌≤◌, ℕ, List, [], ◌∷◌, ◌++◌, length, map, position, All, Any, Option, Some, None, IsSome, Result, Ok, Err, IsUtf8, ⊤}
use Rattle.std.specs.Cmp.Lexicographic.{slice_cmp}
use Rattle.std.specs.List.{AllZip}
use Rattle.std.specs.Ordering.{nat_cmp, match_ordering}
use Rattle.std.specs.Str.{bytes_eq}
use Rattle.fw_charge.specs.Charge.{Charge}
use Rattle.fw_charge.specs.Tags.{TagText, value_under}
use Rattle.fw_rules.specs.Table.{FirstBroken, NoneBroken}
use Rattle.fw_rows.specs.Columns.{Record, missing_column, double_column, text_at, text_in}
use Rattle.fw_rows.specs.Keeps.{KeepText}
use Rattle.fw_rows.specs.Parts.{TagsAnswer}
use Rattle.fw_rows.specs.Rows.{IsHeader, body_of, header_of, most_rows, records_of}
use Rattle.fw_rows.specs.Rules.{Rule, Stands, Texts, form_rules, tags_stated, text_rules}
use Rattle.fw_rows.specs.declared.column.Column.{Column}
use Rattle.fw_rows.specs.declared.column.Column.TheVariants as column
use Rattle.fw_rows.specs.declared.fault.RecordFault.{RecordFault}
use Rattle.fw_rows.specs.declared.fault.RecordFault.TheVariants as fault
use Rattle.fw_rows.specs.declared.fault.RowFault.{RowFault}
use Rattle.fw_rows.specs.declared.fault.RowFault.TheVariants as row_fault

-- the first place at which a header has a name
abbrev pub name_place : Record → List ℕ → Option ℕ
name_place header name = position (bytes_eq name) header

-- the text of a record in a kept column; null, which is the empty text, where the header doesn't have the column
abbrev pub kept_text : Record → Record → KeepText → List ℕ
kept_text header fields keep = text_at fields (name_place header keep.column)

abbrev pub kept_texts : List KeepText → Record → Record → List (List ℕ)
kept_texts keeps header fields = map (kept_text header fields) keeps

-- a tag in front of others, unless its text is empty
abbrev pub before : List ℕ → List ℕ → List TagText → List TagText
before key [] tags = tags
before key (b ∷ text) tags = record { key = key; value = b ∷ text } ∷ tags

-- the tags that texts of kept columns are: an empty text is no tag
abbrev pub tags_kept : List KeepText → List (List ℕ) → List TagText
tags_kept [] texts = []
tags_kept (keep ∷ keeps) [] = []
tags_kept (keep ∷ keeps) (text ∷ texts) = before keep.key text (tags_kept keeps texts)

-- tags with one more, at its place in the order of the keys
abbrev pub with_tag : TagText → List TagText → List TagText
with_tag tag [] = tag ∷ []
with_tag tag (t ∷ tags) =
    match_ordering (slice_cmp nat_cmp tag.key t.key) (tag ∷ t ∷ tags) (record { key = t.key; value = tag.value } ∷ tags) (t ∷ with_tag tag tags)

-- tags with others added
abbrev pub with_tags : List TagText → List TagText → List TagText
with_tags [] tags = tags
with_tags (tag ∷ added) tags = with_tags added (with_tag tag tags)

-- a row with tags added
abbrev pub row_with : List TagText → Charge → Charge
row_with added row = record row { tags = with_tags added row.tags }

-- a text states tags that a row may have
abbrev pub StatesTags : List ℕ → List TagText → Type 0
StatesTags text tags = TagsAnswer text (Ok tags)

-- a text of tags states the key of one of some tags
abbrev pub StatesKeyOf : List TagText → List ℕ → Type 0
StatesKeyOf added text = (tags : List TagText) × StatesTags text tags × Any (λ tag. IsSome (value_under tag.key tags)) added

-- a text states the tags of another one, with others added; a text that states no tags that a row may have stays as it is
abbrev pub StatesWith : List TagText → List ℕ → List ℕ → Type 0
StatesWith added text more =
    ((tags : List TagText) × StatesTags text tags × (tags_stated more ≡ Some (with_tags added tags)))
    ⊎ (((tags : List TagText) → ¬ StatesTags text tags) × (more ≡ text))

-- the texts of a record, with the tags of its kept columns added to its tags
pub record AreKept (keeps : List KeepText) (header fields : Record) (at : Texts) : Type 0 where
  pub others : (c : Column) → c ≢ column.Tags → at c ≡ text_in header fields c
  pub tags : StatesWith (tags_kept keeps (kept_texts keeps header fields)) (text_in header fields column.Tags) (at column.Tags)

-- of the form of a record and of its kept columns: these are text, and the row doesn't have their tags already
unfoldable pub kept_rules : List KeepText → Record → Record → List Rule
kept_rules keeps header fields =
    let texts = kept_texts keeps header fields in
    form_rules header fields
    ++ ((fault.NotUtf8, Any (λ text. ¬ IsUtf8 text) texts)
    ∷ (fault.TagTwice, StatesKeyOf (tags_kept keeps texts) (text_in header fields column.Tags))
    ∷ [])

-- what a record reads as with the tags of its kept columns: the row that it stands for, or the fault of the first rule that it breaks
unfoldable pub RecordKept : List ℕ → List KeepText → Record → Record → Result Charge RecordFault → Type 0
RecordKept currency keeps header fields (Ok row) =
    NoneBroken (kept_rules keeps header fields)
    × (at : Texts) × AreKept keeps header fields at × NoneBroken (text_rules currency at) × Stands at row
RecordKept currency keeps header fields (Err f) =
    FirstBroken (kept_rules keeps header fields) f
    ⊎ (NoneBroken (kept_rules keeps header fields)
    × (at : Texts) × AreKept keeps header fields at × FirstBroken (text_rules currency at) f)

-- a record stands for a row
abbrev pub IsKeptRow : List ℕ → List KeepText → Record → Record → Type 0
IsKeptRow currency keeps header fields = (row : Charge) × RecordKept currency keeps header fields (Ok row)

-- what a header and the records after it read as with kept columns: their rows, one for one and in order, or their first fault
abbrev pub RecordsKept : List ℕ → List KeepText → Record → List Record → Result (List Charge) RowFault → Type 0
RecordsKept currency keeps header body (Err (row_fault.MissingColumn c)) = missing_column header ≡ Some c
RecordsKept currency keeps header body (Err (row_fault.DoubleColumn c)) = (missing_column header ≡ None) × (double_column header ≡ Some c)
RecordsKept currency keeps header body (Err row_fault.NoRows) = IsHeader header × (body ≡ [])
RecordsKept currency keeps header body (Err (row_fault.Record number f)) =
    IsHeader header × (before : List Record) × (bad : Record) × (after : List Record)
    × (body ≡ before ++ (bad ∷ after)) × (number ≡ length before + 1) × (number ≤ most_rows)
    × All (IsKeptRow currency keeps header) before × RecordKept currency keeps header bad (Err f)
RecordsKept currency keeps header body (Err row_fault.TooManyRows) =
    IsHeader header × (before : List Record) × (last : Record)
    × (body ≡ before ++ (last ∷ [])) × (length before ≡ most_rows) × All (IsKeptRow currency keeps header) before
RecordsKept currency keeps header body (Ok rows) =
    IsHeader header × (0 < length body) × (length body ≤ most_rows) × AllZip (λ fields row. RecordKept currency keeps header fields (Ok row)) body rows
RecordsKept currency keeps header body (Err row_fault.NoMemory) = ⊤

-- what a text reads as with kept columns: its rows, or its first fault. Memory may run out on any text
unfoldable pub RowsKept : List ℕ → List KeepText → List ℕ → Result (List Charge) RowFault → Type 0
RowsKept currency keeps text r = let records = records_of text in RecordsKept currency keeps (header_of records) (body_of records) r
