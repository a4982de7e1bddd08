-- A list of tags, `[{"key":"team","value":"a"}, ..]`, and the object that it stands for.
use Rattle.std.specs.Prelude.{ℕ, List, [], ◌∷◌, ◌++◌, Bool, ◌==◌, ◌||◌, if◌then◌else◌, is_some, Option, Some, None, option_map, option_and_then, unwrap_or, codes}
use Rattle.std.specs.Str.{is_utf8}
use Rattle.serde_json.specs.Data as json
use Rattle.serde_json.specs.Data.{put}
use Rattle.serde_json.specs.Events.{members_len}
use Rattle.serde_json.specs.Find.{as_array, as_object, as_str, get, get_member}
use Rattle.serde_json.specs.Read.{read}
use Rattle.serde_json.specs.Written.{compact_text}
use Rattle.fw_charge.specs.Tags.{TagText}
use Rattle.fw_tags.specs.Reading.{tag_text}

-- how many members a value has
abbrev pub member_count : json.Data → ℕ
member_count d = unwrap_or (option_map members_len (as_object d)) 0

abbrev pub with_value : List ℕ → Option (List ℕ) → Option TagText
with_value key value = option_map (λ v. record { key = key; value = v }) value

-- The tag that an item of a list is: an object of a `key`, which is a text, and a `value`, which is what the value of a tag may be: a text, `true`,
-- `false` or null.
unfoldable pub pair_in : json.Data → Option TagText
pair_in d =
    if member_count d == 2 then option_and_then (λ key. with_value key (option_and_then tag_text (get (codes "value") d))) (option_and_then as_str (get (codes "key") d))
    else None

-- the tags that the items of a list are, where each is one
abbrev pub pairs_in : json.Items → Option (List TagText)
pairs_in json.no_items = Some []
pairs_in (json.item d ds) = option_and_then (λ tag. option_map (λ tags. tag ∷ tags) (pairs_in ds)) (pair_in d)

-- members with those of tags added, each under a name that no other one has
abbrev pub with_members : List TagText → json.Members → Option json.Members
with_members [] ms = Some ms
with_members (tag ∷ tags) ms = if is_some (get_member tag.key ms) then None else with_members tags (put tag.key (json.string tag.value) ms)

-- the members of the object that a list of tags stands for; none where a key stands twice
abbrev pub members_of : json.Data → Option json.Members
members_of d = option_and_then (λ tags. with_members tags json.no_members) (option_and_then pairs_in (as_array d))

-- whether a byte ends a line
abbrev pub ends_line : ℕ → Bool
ends_line b = (b == 10) || (b == 13)

-- the line ends of a text
abbrev pub line_ends : List ℕ → List ℕ
line_ends [] = []
line_ends (b ∷ rest) = if ends_line b then b ∷ line_ends rest else line_ends rest

-- the text of the object with these members, and behind it line ends, which are blanks there
abbrev pub object_text : List ℕ → json.Members → List ℕ
object_text text ms = compact_text (json.object ms) ++ line_ends text

-- the object that a text of a list of tags stands for, with the line ends of the text behind it
unfoldable pub tags_in : List ℕ → Option (List ℕ)
tags_in text = if is_utf8 text then option_map (object_text text) (option_and_then members_of (read text)) else None
