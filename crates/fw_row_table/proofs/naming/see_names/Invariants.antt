use Rattle.std.proofs.Common.{◌+◌, ◌≤◌, ◌^◌, ℕ, List, length, take}
use Rattle.std.specs.Prelude.{All}
use Rattle.fw_row_table.specs.Names.{Text}
use Rattle.fw_row_table.proofs.ListFacts.{AreListed}
use Rattle.fw_row_table.proofs.naming.see_names.Given as goal

-- the names once the first of the others were seen, and the place of each of these
pub record HaveSeen (before names : List Text) (places : List ℕ) (other : List Text) (n : ℕ) : Type 0 where
  pub listed : AreListed before names places (take n other)
  pub few : length names ≤ length before + n
  pub within : All (λ place. place ≤ 2 ^ 30) places

abbrev pub invariant-loop-place : goal.invariant-loop-place
invariant-loop-place l = HaveSeen l.fn.names l.names l.places.items l.other l.place
