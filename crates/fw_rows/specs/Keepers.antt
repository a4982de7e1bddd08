-- Columns that are kept as tags, and the texts that are known.
use Rattle.std.specs.Prelude.{ℕ, List}
use Rattle.fw_rows.specs.Keeps.{KeepText}

-- the kept columns, and the texts of tags so far, each with the texts of kept columns beside it
pub record KeeperValue : Type 0 where
  pub keeps : List KeepText
  pub texts : List (List ℕ × List (List ℕ))
