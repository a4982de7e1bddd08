-- Shards, and the hours that each is asked for.
use Rattle.std.specs.Prelude.{◌≡◌, ◌<◌, ◌≤◌, ◌&&◌, [], ◌∷◌, ℕ, All, Bool, List, filter, map, nat_le, nat_lt}
use Rattle.std.specs.List.{AllZip}
use Rattle.fw_amortise.specs.LineValue.{LineValue}
use Rattle.fw_amortise.specs.Lines.{rows_in}
use Rattle.fw_entry.specs.Entry.{EntryValue}
use Rattle.fw_query.specs.OfHistory.{AreLinesOf}
use Rattle.fw_shards.specs.Dealt.{IsDealt}
use Rattle.fw_snapshot.specs.History.{commitments_of, rows_of}

-- a shard, by the entries that it accepted, and the hours that it is asked for: from `from` up
-- to, and not including, `to`
pub record AskedValue : Type 0 where
  pub history : List EntryValue
  pub from : ℕ
  pub to : ℕ

abbrev pub is_asked : ℕ → AskedValue → Bool
is_asked hour a = nat_le a.from hour && nat_lt hour a.to

-- the shards that are asked for an hour
abbrev pub asked_for : ℕ → List AskedValue → List (List EntryValue)
asked_for hour asked = map (λ a. a.history) (filter (is_asked hour) asked)

-- no shard is asked for an hour outside of these
pub record IsAskedWithin (from to : ℕ) (a : AskedValue) : Type 0 where
  pub since : from ≤ a.from
  pub until : a.to ≤ to

-- the shards hold together what one warehouse would in the hours from `from` up to, and not
-- including, `to`: what it has in each hour is dealt to those that are asked for the hour
pub record AreShardsOf (whole : List EntryValue) (from to : ℕ) (asked : List AskedValue) : Type 0 where
  pub within : All (IsAskedWithin from to) asked
  pub dealt : (hour : ℕ) → from ≤ hour → hour < to → IsDealt hour whole (asked_for hour asked)

-- a shard has the commitments of the one warehouse, and its rows of the hour
pub record HoldsHour (whole : List EntryValue) (hour : ℕ) (shard : List EntryValue) : Type 0 where
  pub commitments : commitments_of shard ≡ commitments_of whole
  pub rows : rows_in hour (rows_of shard) ≡ rows_in hour (rows_of whole)

-- the plain case: one shard alone is asked for each hour, and it holds the hour
pub record HoldHours (whole : List EntryValue) (from to : ℕ) (asked : List AskedValue) : Type 0 where
  pub within : All (IsAskedWithin from to) asked
  pub one : (hour : ℕ) → from ≤ hour → hour < to
      → (shard : List EntryValue) × (asked_for hour asked ≡ shard ∷ []) × HoldsHour whole hour shard

-- the lines that each shard has in the hours that it is asked for
abbrev pub AreLinesOfEach : List AskedValue → List (List LineValue) → Type 0
AreLinesOfEach asked each = AllZip (λ a lines. AreLinesOf a.history a.from a.to lines) asked each
