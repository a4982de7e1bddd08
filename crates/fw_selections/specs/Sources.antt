-- Sources by their names.
use Rattle.std.specs.Prelude.{◌≡◌, ◌++◌, ◌⊎◌, ℕ, List, Some, slice_get, string_bytes, codes}
use Rattle.fw_select.specs.Keys.{column_name}
use Rattle.fw_select.specs.declared.key.Column.{Column}
use Rattle.fw_select.specs.declared.key.Source.{Source}
use Rattle.fw_select.specs.declared.key.Source.TheVariants as source
use Rattle.fw_selections.specs.declared.map_file.NamedMap.{NamedMap}
use Rattle.fw_select.specs.declared.key.ValueMap.{ValueMap}

-- the front of a name that always is a tag's
abbrev pub tag_front : List ℕ
tag_front = codes "tag:"

-- a name that is no column's, and doesn't begin as a tag's does
pub record IsBare (name : List ℕ) : Type 0 where
  pub no_front : (rest : List ℕ) → ¬ (name ≡ tag_front ++ rest)
  pub no_column : (c : Column) → ¬ (column_name c ≡ name)

-- the source that a name stands for: a column by its name, a tag by its key behind the front, or by the key alone where that is bare
abbrev pub IsNamed : List ℕ → Source → Type 0
IsNamed name (source.Column c) = column_name c ≡ name
IsNamed name (source.Tag tag) = (name ≡ tag_front ++ tag.now) ⊎ ((name ≡ tag.now) × IsBare name)

-- two sources are one: the same tag, or the same column
abbrev pub AreOne : Source → Source → Type 0
AreOne (source.Tag one) (source.Tag other) = one.now ≡ other.now
AreOne (source.Column one) (source.Column other) = one ≡ other
AreOne _ _ = ⊥

-- a map is that of a source: its key is a name of it
abbrev pub IsOf : NamedMap → Source → Type 0
IsOf named s = (t : Source) × IsNamed (string_bytes named.key) t × AreOne t s

-- a map is that of another source
abbrev pub IsOfAnother : NamedMap → Source → Type 0
IsOfAnother named s = (t : Source) × IsNamed (string_bytes named.key) t × (¬ AreOne t s)

-- the map of a source among some, where it has one
pub record IsMapOf (maps : List NamedMap) (s : Source) (map : ValueMap) : Type 0 where
  pub place : ℕ
  pub named : NamedMap
  pub is_there : slice_get maps place ≡ Some named
  pub is_its : IsOf named s
  pub is_map : map ≡ named.map
