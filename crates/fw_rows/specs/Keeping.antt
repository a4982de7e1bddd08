-- How columns are kept as tags. The private functions of the reader cite it.
use Rattle.std.specs.Prelude.{◌≡◌, ◌⊎◌, ◌<◌, ℕ, List, [], length, map, slice_index_or, All, Any, Option, Some, None, Result, Ok, Err, IsUtf8, ⊤}
use Rattle.std.specs.Cmp.Lexicographic.{slice_cmp}
use Rattle.std.specs.List.Sorted.{IsStrictlySortedBy}
use Rattle.std.specs.Ordering.{nat_cmp}
use Rattle.fw_charge.specs.Charge.{Charge}
use Rattle.fw_charge.specs.Tags.{TagText, IsTags}
use Rattle.fw_rules.specs.Table.{FirstBroken, NoneBroken}
use Rattle.fw_rows.specs.Columns.{Record, text_at}
use Rattle.fw_rows.specs.Keeps.{KeepText}
use Rattle.fw_rows.specs.Kept.{AreKept, StatesKeyOf, StatesTags, kept_rules, name_place, tags_kept, with_tags}
use Rattle.fw_rows.specs.Rules.{Texts, text_rules}
use Rattle.fw_rows.specs.Sinks.{AddsRow, row_tags}
use Rattle.fw_tags.specs.Reading.{AreSized}
use Rattle.fw_rows.specs.declared.fault.RecordFault.TheVariants as fault
use Rattle.fw_rows.specs.declared.fault.Refusal.{Refusal}
use Rattle.fw_rows.specs.declared.fault.Refusal.TheVariants as refusal
use Rattle.fw_rows.specs.declared.kept_tags.KeptTags.{KeptTags}
use Rattle.fw_rows.specs.declared.kept_tags.KeptTags.TheVariants as kept
use Rattle.fw_rows.specs.declared.kept_texts.Found.{Found}
use Rattle.fw_rows.specs.declared.kept_texts.Found.TheVariants as found

-- the places of kept columns in a header
abbrev pub keep_places : List KeepText → Record → List (Option ℕ)
keep_places keeps header = map (λ keep. name_place header keep.column) keeps

-- the texts of a record at places
abbrev pub texts_at : Record → List (Option ℕ) → List (List ℕ)
texts_at fields places = map (text_at fields) places

-- tags are those of a text of tags, and those of kept columns, none of which it states already
pub record KeptAs (keeps : List KeepText) (tags : List ℕ) (texts : List (List ℕ)) (all : List TagText) : Type 0 where
  pub utf8 : All IsUtf8 texts
  pub free : ¬ StatesKeyOf (tags_kept keeps texts) tags
  pub stated : List TagText
  pub states : StatesTags tags stated
  pub with : all ≡ with_tags (tags_kept keeps texts) stated

-- the keys rise in the order of their bytes
abbrev pub KeysRise : List TagText → Type 0
KeysRise tags = IsStrictlySortedBy (slice_cmp nat_cmp) (map (λ t. t.key) tags)

-- tags as a row is given them: these, or none where they are too many or too long
abbrev pub IsWith : List TagText → KeptTags → Type 0
IsWith all kept.Unstated = ⊥
IsWith all (kept.These tags) = (tags ≡ all) × IsTags tags
IsWith all kept.TooLong = (¬ AreSized all) × KeysRise all

-- the tags of a text of tags with those of kept columns, or that it states none
abbrev pub AreTheTags : List KeepText → List ℕ → List (List ℕ) → KeptTags → Type 0
AreTheTags keeps tags texts kept.Unstated = All IsUtf8 texts × ((stated : List TagText) → ¬ StatesTags tags stated)
AreTheTags keeps tags texts (kept.These all) = KeptAs keeps tags texts all × IsTags all
AreTheTags keeps tags texts kept.TooLong = (all : List TagText) × KeptAs keeps tags texts all × (¬ AreSized all) × KeysRise all

-- where texts stand among those that are known
abbrev pub IsFound : List (List ℕ × List (List ℕ)) → List ℕ × List (List ℕ) → Found → Type 0
IsFound known texts (found.At place) = (place < length known) × (slice_index_or known place ([], []) ≡ texts)
IsFound known texts (found.Nowhere hash) = ⊤

-- a row has the tags of a text of tags and of kept columns
pub record HasKept (keeps : List KeepText) (texts : List ℕ × List (List ℕ)) (place : ℕ) (rows : List Charge) : Type 0 where
  pub within : place < length rows
  pub tags : KeptAs keeps texts.0 texts.1 (row_tags rows place)
  pub valid : IsTags (row_tags rows place)

-- for texts that are known there is a row with their tags, where one is named
abbrev pub AreFirsts : List KeepText → List (List ℕ × List (List ℕ)) → List (Option ℕ) → List Charge → Type 0
AreFirsts keeps known firsts rows =
    (k place : ℕ) → slice_index_or firsts k None ≡ Some place → (k < length known) × HasKept keeps (slice_index_or known k ([], [])) place rows

-- why a record with kept columns is refused before its other rules are looked at
abbrev pub Refuses : List KeepText → List ℕ → List (List ℕ) → Refusal → Type 0
Refuses keeps tags texts (refusal.Broken f) =
    ((f ≡ fault.NotUtf8) × Any (λ text. ¬ IsUtf8 text) texts)
    ⊎ ((f ≡ fault.TagTwice) × All IsUtf8 texts × StatesKeyOf (tags_kept keeps texts) tags)
Refuses keeps tags texts refusal.NoMemory = Unit {0}

-- what became of a record
abbrev pub Judged : List ℕ → List KeepText → Record → Record → (old new : List Charge) → Result (Unit {0}) Refusal → Type 0
Judged currency keeps header fields old new (Ok u) =
    NoneBroken (kept_rules keeps header fields)
    × (at : Texts) × AreKept keeps header fields at × NoneBroken (text_rules currency at) × AddsRow at old new
Judged currency keeps header fields old new (Err (refusal.Broken f)) =
    FirstBroken (kept_rules keeps header fields) f
    ⊎ (NoneBroken (kept_rules keeps header fields)
    × (at : Texts) × AreKept keeps header fields at × FirstBroken (text_rules currency at) f)
Judged currency keeps header fields old new (Err refusal.NoMemory) = Unit {0}
