-- What each state keeps, and what follows of each report on its entries and of the lines that the report sums.
use Rattle.std.specs.Prelude.{◌≡◌, ◌+◌, ◌≤◌, ℕ, All, List, Some, codes, filter, map, pos, slice_get, true}
use Rattle.fw_allocate.specs.Costs.{total}
use Rattle.fw_amortise.specs.Carrying.{cost_of_all}
use Rattle.fw_amortise.specs.LineValue.{LineValue}
use Rattle.fw_charge.specs.Codes.{category_word}
use Rattle.fw_entry.specs.Entry.{EntryValue}
use Rattle.fw_entry.specs.Spelling.{IsEntry}
use Rattle.fw_query.specs.Accounted.{AreAccountedBetween}
use Rattle.fw_query.specs.Carried.{amount_between, billed_by_all, cost_between, shows_purchase_of, shows_share_of}
use Rattle.fw_query.specs.OfHistory.{AreLinesOf, IsReportOn}
use Rattle.fw_query.specs.Reports as reports
use Rattle.fw_query.specs.Texts.{id_text}
use Rattle.fw_snapshot.specs.History.{commitments_of, rows_of}
use Rattle.fw_snapshot.specs.Judging.{IsLegal}
use Rattle.fw_terms.specs.Commitment.{CommitmentValue, cost_of}

-- each entry was accepted after those before it, and keeps its limits
pub record IsWhole (entries : List EntryValue) : Type 0 where
  pub legal : IsLegal entries
  pub each : All IsEntry entries

-- Reports on these entries add up, and so do their lines. What the groups of a report are charged sums to their direct costs, and these to the
-- EffectiveCost of its lines; what they were billed sums to the BilledCost of these. In any hours the lines of a commitment carry its amounts there, over its
-- term what its purchases cost, to the last nano, and are billed nothing; the lines of these have an EffectiveCost of 0, and are billed what the
-- purchases in the hours cost. Its purchases are its own and those that were added to it. No row is left out of the lines, and none is counted twice.
pub record ReportsAddUp (entries : List EntryValue) : Type 0 where
  pub charged : (key : List ℕ) (from to : ℕ) (report : List reports.EntryValue) → IsReportOn entries key from to report → total (map (λ e. e.charged) report) ≡ total (map (λ e. e.direct) report)
  pub direct : (key : List ℕ) (from to : ℕ) (lines : List LineValue) (report : List reports.EntryValue) → AreLinesOf entries from to lines → IsReportOn entries key from to report
      → total (map (λ e. e.direct) report) ≡ total (map (λ l. l.effective) lines)
  pub billed : (key : List ℕ) (from to : ℕ) (lines : List LineValue) (report : List reports.EntryValue) → AreLinesOf entries from to lines → IsReportOn entries key from to report
      → total (map (λ e. e.billed) report) ≡ total (map (λ l. l.billed) lines)
  pub hours : (from to : ℕ) (lines : List LineValue) (place : ℕ) (c : CommitmentValue) → AreLinesOf entries from to lines → slice_get (commitments_of entries) place ≡ Some c
      → cost_of_all (filter (shows_share_of c.id) lines) ≡ pos (amount_between c from to)
  pub term : (from to : ℕ) (lines : List LineValue) (place : ℕ) (c : CommitmentValue) → AreLinesOf entries from to lines → slice_get (commitments_of entries) place ≡ Some c
      → from ≤ c.start → c.start + c.hours ≤ to → cost_of_all (filter (shows_share_of c.id) lines) ≡ pos (cost_of c.purchases)
  pub purchases : (from to : ℕ) (lines : List LineValue) (place : ℕ) (c : CommitmentValue) → AreLinesOf entries from to lines → slice_get (commitments_of entries) place ≡ Some c
      → All (λ line. category_word line.category ≡ codes "Purchase" → id_text line.commitment ≡ c.id → line.effective ≡ pos 0) lines
  pub bought : (from to : ℕ) (lines : List LineValue) (place : ℕ) (c : CommitmentValue) → from ≤ to → AreLinesOf entries from to lines → slice_get (commitments_of entries) place ≡ Some c
      → billed_by_all (filter (shows_purchase_of c.id) lines) ≡ pos (cost_between c from to)
  pub unbilled : (from to : ℕ) (lines : List LineValue) (place : ℕ) (c : CommitmentValue) → AreLinesOf entries from to lines → slice_get (commitments_of entries) place ≡ Some c
      → All (λ line. shows_share_of c.id line ≡ true → line.billed ≡ pos 0) lines
  pub rows : (from to : ℕ) (lines : List LineValue) → from ≤ to → AreLinesOf entries from to lines → AreAccountedBetween (commitments_of entries) (rows_of entries) from to lines
