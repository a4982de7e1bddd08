-- Direct reports, and what they add up to.
use Rattle.std.specs.Prelude.{◌≡◌, ◌+◌, ◌<◌, ◌≤◌, ℕ, List, length, map, min, sum_by, take, unsigned_abs}
use Rattle.std.specs.List.{AllZip, flat_map}
use Rattle.fw_allocate.specs.Costs.{CostValue}
use Rattle.fw_entry.specs.Entry as entry
use Rattle.fw_query.specs.Limits.{most_total}
use Rattle.fw_query.specs.Reports.{EntryValue}
use Rattle.fw_shards.specs.Asked.{AskedValue}
use Rattle.fw_snapshot.specs.History.{commitments_of, rows_of}
use Rattle.fw_sums.specs.Costs.{Cost}
use Rattle.fw_sums.specs.Totals.{HasTotals}

-- a direct report: what the lines of each group come to in these hours, under no policy
abbrev pub IsDirectOn : List entry.EntryValue → List ℕ → ℕ → ℕ → List Cost → Type 0
IsDirectOn history key from to report = HasTotals (commitments_of history) (rows_of history) key from to report

-- what an entry of a report has but for what its group is charged
abbrev pub direct_of : EntryValue → Cost
direct_of e = record { group = e.group; billed = e.billed; effective = e.direct }

-- the direct report of each shard, on the hours that it is asked for
abbrev pub AreDirectOnEach : List ℕ → List AskedValue → List (List Cost) → Type 0
AreDirectOnEach key asked reports = AllZip (λ a report. IsDirectOn a.history key a.from a.to report) asked reports

-- the entries of all reports
abbrev pub all_of : List (List Cost) → List Cost
all_of reports = flat_map (λ report. report) reports

-- the direct costs of a report
abbrev pub directs : List Cost → List CostValue
directs report = map (λ c. record { group = c.group; cost = c.effective }) report

-- the sums of the absolute costs
abbrev pub billed_size : List Cost → ℕ
billed_size costs = sum_by (λ c. unsigned_abs c.billed) costs

abbrev pub direct_size : List Cost → ℕ
direct_size costs = sum_by (λ c. unsigned_abs c.effective) costs

-- the most that these may be where reports are added: 10^37 nanos
abbrev pub most_added : ℕ
most_added = 10000000000000000000000000000000000000

-- the entries of reports can be added
pub record CanBeAdded (costs : List Cost) : Type 0 where
  pub billed : billed_size costs ≤ most_added
  pub direct : direct_size costs ≤ most_added

-- the entries before this place don't pass the most of a report, and with the entry at it they do
pub record PassesAtEntry (report : List Cost) (place : ℕ) : Type 0 where
  pub below : place < length report
  pub within : direct_size (take place report) ≤ most_total
  pub past : most_total < direct_size (take (place + 1) report)

-- a size as it is counted: past the most it is kept as the next number
abbrev pub capped : ℕ → ℕ
capped size = min size (most_added + 1)
