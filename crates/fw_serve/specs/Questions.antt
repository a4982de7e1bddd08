-- How reports and lines are answered.
use Rattle.std.specs.Prelude.{◌≡◌, ℕ, List, Result, Ok, Err, Vec}
use Rattle.std.specs.declared.alloc.Global.{Global}
use Rattle.fw_amortise.specs.LineValue.{LineValue}
use Rattle.fw_sums.specs.Limits.{IsRange}
use Rattle.fw_sums.specs.RangeLines.{AreRangeLines}
use Rattle.fw_query.specs.Refusals.{IsRefused, AreRefused}
use Rattle.fw_query.specs.Reports.{EntryValue, IsReport}
use Rattle.fw_query.specs.Texts.{report_text, lines_text}
use Rattle.fw_query.specs.declared.fault.QueryFault.{QueryFault}
use Rattle.fw_snapshot.specs.History.{History, rows_of, commitments_of, policy_of}
use Rattle.fw_serve.specs.Replies.{query_fault_line, counted}

-- there is this report under the key over what is held in the hours, or there is none for this reason
unfoldable pub IsOutcome : History → List ℕ → ℕ → ℕ → Result (List EntryValue) QueryFault → Type 0
IsOutcome held key from to (Ok entries) = IsRange from to × IsReport (commitments_of held.entries) (rows_of held.entries) (policy_of held.entries) key from to entries
IsOutcome held key from to (Err fault) = IsRefused (commitments_of held.entries) (rows_of held.entries) key from to fault

unfoldable pub report_answer : Result (List EntryValue) QueryFault → List ℕ
report_answer (Ok entries) = counted (report_text entries)
report_answer (Err fault) = query_fault_line fault

-- a report over the hours from `from` up to `to` was asked for
pub record ReportAnswer (held : History) (key : List ℕ) (from to : ℕ) (text : List ℕ) : Type 0 where
  pub outcome : Result (List EntryValue) QueryFault
  pub is_outcome : IsOutcome held key from to outcome
  pub says : text ≡ report_answer outcome

-- these are the lines of what is held in the hours, or there are none for this reason
unfoldable pub AreOutcome : History → ℕ → ℕ → Result (List LineValue) QueryFault → Type 0
AreOutcome held from to (Ok lines) = IsRange from to × AreRangeLines (commitments_of held.entries) (rows_of held.entries) from to lines
AreOutcome held from to (Err fault) = AreRefused from to fault

unfoldable pub lines_answer : Result (List LineValue) QueryFault → List ℕ
lines_answer (Ok lines) = counted (lines_text lines)
lines_answer (Err fault) = query_fault_line fault

-- the lines of the hours from `from` up to `to` were asked for
pub record LinesAnswer (held : History) (from to : ℕ) (text : List ℕ) : Type 0 where
  pub outcome : Result (List LineValue) QueryFault
  pub are_outcome : AreOutcome held from to outcome
  pub says : text ≡ lines_answer outcome

-- the text is that of the report, or there is no report for this reason
unfoldable pub IsReportText : History → List ℕ → ℕ → ℕ → Result (Vec ℕ Global) QueryFault → Type 0
IsReportText held key from to (Ok text) = (entries : List EntryValue) × IsOutcome held key from to (Ok entries) × (text.items ≡ report_text entries)
IsReportText held key from to (Err fault) = IsOutcome held key from to (Err fault)

-- the text is that of the lines, or there are none for this reason
unfoldable pub IsLinesText : History → ℕ → ℕ → Result (Vec ℕ Global) QueryFault → Type 0
IsLinesText held from to (Ok text) = (lines : List LineValue) × AreOutcome held from to (Ok lines) × (text.items ≡ lines_text lines)
IsLinesText held from to (Err fault) = AreOutcome held from to (Err fault)
