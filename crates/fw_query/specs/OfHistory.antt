-- Lines and reports of a history: of all rows, commitments and the policy that its entries come to. Each commitment has all its purchases, also
-- those that were added to it later. The laws speak of these.
use Rattle.std.specs.Prelude.{ℕ, List}
use Rattle.fw_amortise.specs.LineValue.{LineValue}
use Rattle.fw_entry.specs.Entry as entry
use Rattle.fw_snapshot.specs.History.{commitments_of, policy_of, rows_of}
use Rattle.fw_sums.specs.RangeLines.{AreRangeLines}
use Rattle.fw_query.specs.Reports.{EntryValue, IsReport}

-- the lines of the hours from `from` up to, and not including, `to`, after these entries were accepted: those that `report` sums, and whose text
-- `lines_csv` writes
abbrev pub AreLinesOf : List entry.EntryValue → ℕ → ℕ → List LineValue → Type 0
AreLinesOf history from to lines = AreRangeLines (commitments_of history) (rows_of history) from to lines

-- the report on those lines, under the policy that was set last
abbrev pub IsReportOn : List entry.EntryValue → List ℕ → ℕ → ℕ → List EntryValue → Type 0
IsReportOn history key from to report = IsReport (commitments_of history) (rows_of history) (policy_of history) key from to report
