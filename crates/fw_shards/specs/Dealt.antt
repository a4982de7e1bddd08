-- How the rows and the commitments of an hour are dealt to shards: warehouses of their own, which together hold what one warehouse would.
use Rattle.std.specs.Prelude.{◌≡◌, ◌<◌, ◌==◌, ℕ, List, filter, length, map}
use Rattle.std.specs.List.{enumerate_from, range_with_len}
use Rattle.fw_amortise.specs.Lines.{rows_in}
use Rattle.fw_charge.specs.Charge.{Charge}
use Rattle.fw_cover.specs.Meeting.{Meets}
use Rattle.fw_entry.specs.Entry.{EntryValue}
use Rattle.fw_snapshot.specs.History.{commitments_of, rows_of}
use Rattle.fw_sums.specs.Hours.{has_line}
use Rattle.fw_terms.specs.Commitment.{CommitmentValue}

-- the items that are dealt to a shard, in their order; `owner` gives the number of the shard
-- that the item at each place is dealt to
unfoldable pub dealt_to : {X : Type 0} → (ℕ → ℕ) → List X → ℕ → List X
dealt_to owner xs shard = map (λ x. x.1) (filter (λ x. owner x.0 == shard) (enumerate_from 0 xs))

-- each item is dealt to one of the shards, and what they hold are these items, in their order
pub record AreDealt {X : Type 0} (owner : ℕ → ℕ) (xs : List X) (shards : List (List X)) : Type 0 where
  pub each : (place : ℕ) → place < length xs → owner place < length shards
  pub shards_are : shards ≡ map (dealt_to owner xs) (range_with_len 0 (length shards))

-- the commitments that have a line in an hour, after these entries were accepted
abbrev pub commitments_in : ℕ → List EntryValue → List CommitmentValue
commitments_in hour history = filter (has_line hour) (commitments_of history)

-- the rows of an hour
abbrev pub charges_in : ℕ → List EntryValue → List Charge
charges_in hour history = rows_in hour (rows_of history)

-- the commitments that have a line in the hour, and its rows, are dealt to shards, each to one,
-- so that no commitment of one shard applies to a row of another
pub record IsDealt (hour : ℕ) (whole : List EntryValue) (shards : List (List EntryValue)) : Type 0 where
  pub owner : ℕ → ℕ
  pub row_owner : ℕ → ℕ
  pub commitments : AreDealt owner (commitments_in hour whole) (map (commitments_in hour) shards)
  pub rows : AreDealt row_owner (charges_in hour whole) (map (charges_in hour) shards)
  pub apart : (place row : ℕ) → Meets (commitments_in hour whole) (charges_in hour whole) hour place row
      → owner place ≡ row_owner row
