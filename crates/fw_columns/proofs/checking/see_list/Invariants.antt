use Rattle.std.proofs.Common.{◌<◌, ◌≤◌, ℕ, List, map, take}
use Rattle.std.specs.Prelude.{All}
use Rattle.fw_row_table.specs.Names.{Text}
use Rattle.fw_row_table.specs.Table.{text_at}
use Rattle.fw_columns.specs.Parts.{HaveSeen}
use Rattle.fw_columns.proofs.checking.see_list.Given as goal

-- the places so far
pub record ArePlacesSeen (names : List Text) (before now : ℕ) (places : List ℕ) : Type 0 where
  pub texts : HaveSeen names before now (map (text_at names) places)
  pub grows : before ≤ now
  pub within : All (λ place. place < now) places

abbrev pub invariant-loop-place : goal.invariant-loop-place
invariant-loop-place l = ArePlacesSeen l.names l.seen l.now (take l.place-index l.list)
