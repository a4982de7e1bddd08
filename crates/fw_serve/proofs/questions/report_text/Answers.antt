use Rattle.std.proofs.lemmas.Result.{err_from_is_err_and}
use Rattle.fw_serve.specs.Questions.{IsOutcome, IsReportText}
use Rattle.fw_serve.proofs.questions.report_text.Goals as goal

pub returns-in_err-report-clause-text : goal.returns-in_err-report-clause-text
unfolding IsReportText IsOutcome
returns-in_err-report-clause-text g c =
    let p = err_from_is_err_and c.from_residual.result c.from_residual.ensures.1 in
    rw (p.1, p.2) c.in_err-report.ensures.fault

pub returns-in_err-report_csv-clause-text : goal.returns-in_err-report_csv-clause-text
unfolding IsReportText IsOutcome
returns-in_err-report_csv-clause-text g c =
    let p = err_from_is_err_and c.from_residual-in_err-report_csv.result c.from_residual-in_err-report_csv.ensures.1 in
    rw (p.1, p.2) tt

pub returns-clause-text : goal.returns-clause-text
unfolding IsReportText IsOutcome
returns-clause-text g c =
    (c.in_ok-report.report, (c.in_ok-report.ensures.range, c.in_ok-report.ensures.report), c.in_ok-report_csv.ensures)
