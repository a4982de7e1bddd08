-- What a record's tags and the lengths of its texts say of the rules.
use Rattle.std.proofs.Common.{◌≡◌, ◌≢◌, ℕ, List, [], ◌∷◌, Option, Some, Result, Ok, Err, refl, sym, ◌∙◌, inl, inr}
use Rattle.std.specs.Prelude.{IfSome}
use Rattle.fw_charge.specs.Tags.{TagText}
use Rattle.fw_charge.proofs.TagFacts.{no-tags}
use Rattle.fw_rules.specs.Table.{FirstBroken}
use Rattle.fw_tags.specs.Reading.{AreSized, TagsRead}
use Rattle.fw_tags.specs.declared.fault.TagFault.{TagFault}
use Rattle.fw_tags.specs.declared.fault.TagFault.TheVariants as tag_fault
use Rattle.fw_rows.specs.Judged.{JudgedWithin}
use Rattle.fw_rows.specs.Parts.{TagsAnswer, TextsAreShort}
use Rattle.fw_rows.specs.Refusals.{refusal_of}
use Rattle.fw_rows.specs.Rules.{AreShort, Texts, tags_stated, length_rules}
use Rattle.fw_rows.specs.declared.column.Column.TheVariants as column

-- null states no tags
pub tags_null : (text : List ℕ) (tags : List TagText) → text ≡ [] → tags ≡ [] → TagsAnswer text (Ok tags)
unfolding tags_stated
tags_null text tags null empty = rw (null, empty) (refl, record { few = no-tags.few; sized = no-tags.sized })

-- a text that isn't null states the tags that it reads as
pub tags_some : (text : List ℕ) (r : Result (List TagText) TagFault) → text ≢ [] → TagsRead text r → TagsAnswer text r
unfolding tags_stated TagsRead
tags_some [] r some reads = absurd (some refl)
tags_some (b ∷ text) (Ok tags) some reads = reads
tags_some (b ∷ text) (Err tag_fault.NotTags) some reads = reads
tags_some (b ∷ text) (Err tag_fault.TooLong) some reads = reads
tags_some (b ∷ text) (Err tag_fault.NoMemory) some reads = reads

-- the tags are sized where texts and tags are within their limits
sized : (o : Option (List TagText)) (tags : List TagText) → o ≡ Some tags → IfSome o AreSized → AreSized tags
sized o tags is all = rw is at all

-- the fault of the tags is that of the rules
pub tags_fault : {A : Type 0} (at : Texts) (P : A → Type 0) (f : TagFault) → TagsAnswer (at column.Tags) (Err f) → JudgedWithin (length_rules at) P (Err (refusal_of f))
unfolding length_rules FirstBroken
tags_fault at P tag_fault.NotTags none = inl (none, refl)
tags_fault at P tag_fault.TooLong h =
    inr (
      λ none. let both = sym h.1 ∙ none in absurd (cc),
      inl ((λ short. h.2 (sized (tags_stated (at column.Tags)) h.0 h.1 short.tags)), refl),
    )
tags_fault at P tag_fault.NoMemory h = tt

-- texts and tags within their limits
pub all_short : (at : Texts) (tags : List TagText) → tags_stated (at column.Tags) ≡ Some tags → AreSized tags → TextsAreShort at → AreShort at
all_short at tags is sized_ short = record { id = short.id; unit = short.unit; sku = short.sku; sub_account = short.sub_account; tags = rw is sized_ }
