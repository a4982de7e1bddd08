-- What exported rows come to.
use Rattle.std.specs.Prelude.{ℕ, ℤ, List, map}
use Rattle.fw_charge.specs.Charge.{Charge}
use Rattle.fw_entry.specs.Entry as entry
use Rattle.fw_snapshot.specs.History.{commitments_of, rows_of}
use Rattle.fw_sums.specs.Costs.{sum_in}
use Rattle.fw_sums.specs.Hours.{row_cost}
use Rattle.fw_allocated.specs.LineRows.{AreRangeExports}

-- these rows are what the lines of the hours from `from` up to, and not including, `to`, are exported as, after these entries were accepted
abbrev pub AreExportsOf : List entry.EntryValue → ℕ → ℕ → List Charge → Type 0
AreExportsOf history from to exports = AreRangeExports (commitments_of history) (rows_of history) from to exports

-- the sums of BilledCost and of EffectiveCost over the rows that have this text under a tag key; without the key they have the empty text
abbrev pub billed_under : List ℕ → List Charge → List ℕ → ℤ
billed_under key rows group = sum_in (λ c. c.billed) (map (row_cost key) rows) group

abbrev pub effective_under : List ℕ → List Charge → List ℕ → ℤ
effective_under key rows group = sum_in (λ c. c.effective) (map (row_cost key) rows) group
