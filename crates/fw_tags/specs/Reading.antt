-- What a text of tags reads as: a JSON object whose members are texts, `true`, `false` or null.
use Rattle.std.specs.Prelude.{◌≡◌, ◌≤◌, ℕ, List, [], ◌∷◌, length, true, false, Option, Some, None, option_map, option_and_then, Result, Ok, Err, codes, All}
use Rattle.serde_json.specs.Data as json
use Rattle.serde_json.specs.Find.{as_object}
use Rattle.serde_json.specs.Read.{read}
use Rattle.fw_charge.specs.Tags.{TagText, IsTagSized, most_tags}
use Rattle.fw_tags.specs.declared.fault.TagFault.{TagFault}
use Rattle.fw_tags.specs.declared.fault.TagFault.TheVariants as fault

-- the text of a member's value: `true` and `false` are kept as these words, and null as the empty text
abbrev pub tag_text : json.Data → Option (List ℕ)
tag_text (json.string text) = Some text
tag_text (json.boolean true) = Some (codes "true")
tag_text (json.boolean false) = Some (codes "false")
tag_text json.null = Some []
tag_text (json.number n) = None
tag_text (json.array items) = None
tag_text (json.object ms) = None

-- the tags of an object's members, in their order, where each value has a text
abbrev pub tags_of : json.Members → Option (List TagText)
tags_of json.no_members = Some []
tags_of (json.member key d members) = option_and_then (λ value. option_map (λ tags. record { key = key; value = value } ∷ tags) (tags_of members)) (tag_text d)

-- the members of the JSON object that a text is
abbrev pub members_in : List ℕ → Option json.Members
members_in text = option_and_then as_object (read text)

-- the tags that a text states. The members of the object that is read have each key once, with the last value that the text gives it, in
-- rising order of the bytes of their keys
unfoldable pub tags_in : List ℕ → Option (List TagText)
tags_in text = option_and_then tags_of (members_in text)

-- at most 256 tags, with keys and texts of at most 1,024 bytes
pub record AreSized (tags : List TagText) : Type 0 where
  pub few : length tags ≤ most_tags
  pub sized : All IsTagSized tags

-- what reading a text answers; it may run out of memory on any text
unfoldable pub TagsRead : List ℕ → Result (List TagText) TagFault → Type 0
TagsRead text (Ok tags) = (tags_in text ≡ Some tags) × AreSized tags
TagsRead text (Err fault.NotTags) = tags_in text ≡ None
TagsRead text (Err fault.TooLong) = (tags : List TagText) × (tags_in text ≡ Some tags) × ¬ AreSized tags
TagsRead text (Err fault.NoMemory) = Unit {0}
