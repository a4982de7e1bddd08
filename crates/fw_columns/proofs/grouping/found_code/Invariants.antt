use Rattle.std.proofs.Common.{◌≡◌, ◌<◌, ◌^◌, ℕ, List, length}
use Rattle.std.specs.Prelude.{All}
use Rattle.fw_columns.specs.Grouping.{found_code}
use Rattle.fw_columns.proofs.grouping.found_code.Given as goal

-- none of the tags so far has the key
pub record IsLeft (key empty : ℕ) (rest list : List ℕ) : Type 0 where
  pub same : found_code key empty rest ≡ found_code key empty list
  pub few : All (λ place. place < 2 ^ 30) rest

abbrev pub invariant-loop-rest : goal.invariant-loop-rest
invariant-loop-rest l = IsLeft l.key l.empty l.rest l.list

abbrev pub decreases-loop-rest : goal.decreases-loop-rest
decreases-loop-rest l = length l.rest
