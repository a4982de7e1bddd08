-- Columns that are kept as tags.
use Rattle.std.specs.Prelude.{ℕ, List}

-- a column that is kept as a tag: its name in a header, and the key of the tag
pub record KeepText : Type 0 where
  pub column : List ℕ
  pub key : List ℕ
