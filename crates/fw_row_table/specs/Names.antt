-- Texts numbered from 0 in the order in which each is first seen.
use Rattle.std.specs.Prelude.{ℕ, ◌+◌, ◌≤◌, ◌^◌, List, [], ◌∷◌, ◌++◌, length, if◌then◌else◌, All, IsUtf8}
use Rattle.std.specs.List.{list_any, position_or_len, IsDistinct}
use Rattle.std.specs.Str.{bytes_eq}

-- the bytes of a text
abbrev pub Text : Type 0
Text = List ℕ

-- no text is there twice
abbrev pub AreDistinct : List Text → Type 0
AreDistinct names = IsDistinct bytes_eq names

-- texts can be names: there are at most 2^30 of them, each once
pub record AreNames (texts : List Text) : Type 0 where
  pub few : length texts ≤ 2 ^ 30
  pub distinct : AreDistinct texts

-- the place of a text among the names, or how many names there are where it is none of them
unfoldable pub place_of : List Text → Text → ℕ
place_of names text = position_or_len (bytes_eq text) names

-- the names once a text was seen: a new text goes last
unfoldable pub with_text : List Text → Text → List Text
with_text names text = if list_any (bytes_eq text) names then names else names ++ text ∷ []

-- texts that are packed and texts that stand behind them can be kept as names
pub record AreKept (packed texts : List Text) : Type 0 where
  pub few : length packed + length texts ≤ 2 ^ 30
  pub text : All IsUtf8 packed
  pub distinct : AreDistinct (packed ++ texts)
