use Rattle.std.proofs.Common.{◌+◌, ◌≤◌, ℕ, List, length, map, take}
use Rattle.fw_columns.specs.Joining.{replaced}
use Rattle.fw_row_table.proofs.ListFacts.{AreListed}
use Rattle.fw_columns.proofs.joining.see_lists.Given as goal

-- the lists once the first of the others were seen, and the place of each of these
pub record HaveSeen (before lists : List (List ℕ)) (codes : List ℕ) (other : List (List ℕ)) (places : List ℕ) (n : ℕ) : Type 0 where
  pub listed : AreListed before lists codes (map (replaced places) (take n other))
  pub few : length lists ≤ length before + n

abbrev pub invariant-loop-place : goal.invariant-loop-place
invariant-loop-place l = HaveSeen l.fn.lists l.lists l.codes.items l.other l.places l.place
