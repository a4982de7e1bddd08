-- Tags as plain texts.
use Rattle.std.specs.Prelude.{◌≤◌, ℕ, List, [], length, map, find, All, Option, option_map, unwrap_or}
use Rattle.std.specs.Ordering.{nat_cmp}
use Rattle.std.specs.Cmp.Lexicographic.{slice_cmp}
use Rattle.std.specs.List.Sorted.{IsStrictlySortedBy}
use Rattle.std.specs.Str.{bytes_eq}

-- a tag: the bytes of its key and of its text
pub record TagText : Type 0 where
  pub key : List ℕ
  pub value : List ℕ

-- the greatest number of tags
abbrev pub most_tags : ℕ
most_tags = 256

-- the greatest number of bytes of a tag's key, and of its text
abbrev pub longest_tag_text : ℕ
longest_tag_text = 1024

-- a key and a text have at most 1,024 bytes each
pub record IsTagSized (tag : TagText) : Type 0 where
  pub key : length tag.key ≤ longest_tag_text
  pub value : length tag.value ≤ longest_tag_text

-- what tags keep: each key is below those after it, in the order of their bytes; there are at most 256 tags, and none is too long
pub record IsTags (tags : List TagText) : Type 0 where
  pub rising : IsStrictlySortedBy (slice_cmp nat_cmp) (map (λ t. t.key) tags)
  pub few : length tags ≤ most_tags
  pub sized : All IsTagSized tags

-- the tag with a key
unfoldable pub tag_under : List ℕ → List TagText → Option TagText
tag_under key tags = find (λ t. bytes_eq t.key key) tags

-- the text under a key
unfoldable pub value_under : List ℕ → List TagText → Option (List ℕ)
value_under key tags = option_map (λ t. t.value) (tag_under key tags)

-- the group under a key: the text under it, or the empty text where the key isn't there
unfoldable pub group_of : List ℕ → List TagText → List ℕ
group_of key tags = unwrap_or (value_under key tags) []
