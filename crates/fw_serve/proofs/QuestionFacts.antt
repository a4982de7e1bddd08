-- What questions are answered.
use Rattle.std.proofs.Common.{◌≡◌, ◌⊎◌, ℕ, List, Ok, Err, inl, inr}
use Rattle.std.specs.Prelude.{Result}
use Rattle.fw_amortise.specs.LineValue.{LineValue}
use Rattle.fw_sums.specs.Limits.{IsRange}
use Rattle.fw_query.specs.OfHistory.{AreLinesOf, IsReportOn}
use Rattle.fw_query.specs.Refusals.{AreRefused, IsRefused}
use Rattle.fw_query.specs.Reports.{EntryValue}
use Rattle.fw_query.specs.Texts.{lines_text, report_text}
use Rattle.fw_query.specs.declared.fault.QueryFault.{QueryFault}
use Rattle.fw_script.specs.Plain.{lines, report, state}
use Rattle.fw_snapshot.specs.History.{History, commitments_of, rows_of}
use Rattle.fw_serve.specs.Answers.{Answer}
use Rattle.fw_serve.specs.Questions.{AreOutcome, IsOutcome, lines_answer, report_answer}
use Rattle.fw_serve.specs.Replies.{counted, query_fault_line, state_line}
use Rattle.fw_serve.specs.Standings.{Standing}

report_found : (held : History) (key : List ℕ) (from to : ℕ) (answer : List ℕ) (outcome : Result (List EntryValue) QueryFault) → IsOutcome held key from to outcome → answer ≡ report_answer outcome
    → ((fault : QueryFault) × IsRefused (commitments_of held.entries) (rows_of held.entries) key from to fault × (answer ≡ query_fault_line fault))
    ⊎ ((found : List EntryValue) × IsRange from to × IsReportOn held.entries key from to found × (answer ≡ counted (report_text found)))
unfolding IsOutcome report_answer
report_found held key from to answer (Ok found) is says = inr (found, is.0, is.1, says)
report_found held key from to answer (Err fault) is says = inl (fault, is, says)

pub report_answered : (before after : Standing) (key : List ℕ) (from to : ℕ) (answer : List ℕ) → Answer before (report key from to) answer after
    → (((fault : QueryFault) × IsRefused (commitments_of before.history.entries) (rows_of before.history.entries) key from to fault × (answer ≡ query_fault_line fault))
    ⊎ ((found : List EntryValue) × IsRange from to × IsReportOn before.history.entries key from to found × (answer ≡ counted (report_text found)))) × (after ≡ before)
unfolding Answer
report_answered before after key from to answer given = (report_found before.history key from to answer given.0.outcome given.0.is_outcome given.0.says, given.1)

lines_found : (held : History) (from to : ℕ) (answer : List ℕ) (outcome : Result (List LineValue) QueryFault) → AreOutcome held from to outcome → answer ≡ lines_answer outcome
    → ((fault : QueryFault) × AreRefused from to fault × (answer ≡ query_fault_line fault))
    ⊎ ((found : List LineValue) × IsRange from to × AreLinesOf held.entries from to found × (answer ≡ counted (lines_text found)))
unfolding AreOutcome lines_answer
lines_found held from to answer (Ok found) are says = inr (found, are.0, are.1, says)
lines_found held from to answer (Err fault) are says = inl (fault, are, says)

pub lines_answered : (before after : Standing) (from to : ℕ) (answer : List ℕ) → Answer before (lines from to) answer after
    → (((fault : QueryFault) × AreRefused from to fault × (answer ≡ query_fault_line fault))
    ⊎ ((found : List LineValue) × IsRange from to × AreLinesOf before.history.entries from to found × (answer ≡ counted (lines_text found)))) × (after ≡ before)
unfolding Answer
lines_answered before after from to answer given = (lines_found before.history from to answer given.0.outcome given.0.are_outcome given.0.says, given.1)

pub state_answered : (before after : Standing) (answer : List ℕ) → Answer before state answer after → (answer ≡ state_line before.history) × (after ≡ before)
unfolding Answer
state_answered before after answer given = given
