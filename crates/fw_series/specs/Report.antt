-- Reports as text.
use Rattle.std.specs.Prelude.{◌≡◌, ℕ, List}
use Rattle.fw_entry.specs.Entry as entry
use Rattle.fw_query.specs.OfHistory.{IsReportOn}
use Rattle.fw_query.specs.Reports.{EntryValue}
use Rattle.fw_query.specs.Texts.{report_text}

-- the text is the CSV of the report on a history under a key
abbrev pub IsReportCsv : List entry.EntryValue → List ℕ → ℕ → ℕ → List ℕ → Type 0
IsReportCsv history key from to text =
    (entries : List EntryValue) × IsReportOn history key from to entries × (text ≡ report_text entries)
