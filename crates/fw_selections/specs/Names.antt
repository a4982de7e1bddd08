-- The names of groups.
use Rattle.std.specs.Prelude.{◌≡◌, ◌==◌, ◌⊎◌, ◌++◌, ◌∷◌, ℕ, zero, suc, Bool, true, List, [], codes, Some}
use Rattle.std.specs.Fmt.{debug_str}
use Rattle.std.specs.List.{AllZip, flat_map, starts_with, zip}
use Rattle.std.specs.Str.Iter.{HasSubslice}
use Rattle.fw_selections.specs.TableText.{key_text}
use Rattle.fw_selections.specs.declared.sheet.KeyName.{KeyName}

-- a text that could be taken for more than one text, or for what stands for one: ` / ` stands in it, or it begins with a quote or a parenthesis
abbrev pub IsUnclear : List ℕ → Type 0
IsUnclear text = HasSubslice text (codes " / ") ⊎ ((starts_with ◌==◌ text (codes "\"") ≡ true) ⊎ (starts_with ◌==◌ text (codes "(") ≡ true))

-- A part of a name: what people see of a text under a key. Where the text is unclear it stands in quotes: `debug_str` says how, of a text in ASCII.
pub record IsPart (is_tag : Bool) (text part : List ℕ) : Type 0 where
  pub clear : ¬ IsUnclear text → part ≡ key_text is_tag text
  pub unclear : IsUnclear text → (quoted : List ℕ) → debug_str text ≡ Some quoted → part ≡ quoted

-- parts with ` / ` between them
abbrev pub joined : List (List ℕ) → List ℕ
joined [] = []
joined (part ∷ parts) = part ++ flat_map (λ p. codes " / " ++ p) parts

-- the name of a group: a part for each of its texts under a key
pub record IsGroupName (keys : List KeyName) (texts : List (List ℕ)) (name : List ℕ) : Type 0 where
  pub parts : List (List ℕ)
  pub each : AllZip (λ m. IsPart m.0.is_tag m.1) (zip keys texts) parts
  pub name_is : name ≡ joined parts

-- ---- for private clauses

-- what stands before the part at a place
abbrev pub slash_at : ℕ → List ℕ
slash_at zero = []
slash_at (suc place) = codes " / "

-- behind the name that was there a part
pub record AddsPart (old new : List ℕ) (is_tag : Bool) (text : List ℕ) : Type 0 where
  pub part : List ℕ
  pub is_part : IsPart is_tag text part
  pub added : new ≡ old ++ part
