use Rattle.std.proofs.Common.{◌≡◌, ◌<◌, ℕ, List, length, map}
use Rattle.std.specs.Prelude.{All}
use denote.Shadow.{shadow}
use denote.Text.{Utf8}
use Rattle.fw_bytes.specs.Order.{rise_from, rise}
use Rattle.fw_row_table.specs.Names.{Text}
use Rattle.fw_row_table.specs.Table.{tags_of}
use Rattle.fw_columns.proofs.checking.keys_rise.Given as goal

-- the keys that are left rise above the last one exactly where all of them rise
pub record AreRising (names : List Text) (last : Text) (rest list : List ℕ) : Type 0 where
  pub rising : rise_from last (map (λ t. t.key) (tags_of names rest)) ≡ rise (map (λ t. t.key) (tags_of names list))
  pub within : All (λ place. place < length names) rest

abbrev pub invariant-loop-rest : goal.invariant-loop-rest
invariant-loop-rest l = AreRising l.names l.last l.rest l.list × shadow (Utf8 l.last)

abbrev pub decreases-loop-rest : goal.decreases-loop-rest
decreases-loop-rest l = length l.rest
