use Rattle.fw_rows.specs.Parts.{texts_of}
use Rattle.fw_rows.specs.Rules.{length_rules}
use Rattle.fw_rows.proofs.JudgedFacts.{first-front}
use Rattle.fw_column_rows.specs.Views.{view_rules}
use Rattle.fw_column_rows.proofs.ViewFacts.{view_parted, all_judged}
use Rattle.fw_column_rows.proofs.filling.FillingRowSink.add.Goals as goal

pub returns-in-Err-clause-row : goal.returns-in-Err-clause-row
returns-in-Err-clause-row c =
    let at = texts_of c.args.cells.now in rw (view_parted c.args.currency at) (first-front (view_rules c.args.currency at) (length_rules at) c.in-Err.fault c.in-Err.ensures)

pub returns-in-Ok-clause-row : goal.returns-in-Ok-clause-row
returns-in-Ok-clause-row c =
    all_judged c.args.currency (texts_of c.args.cells.now) c.in-Ok.row c.args.self.now.columns c.add_view.new.self.columns c.add_view.result c.in-Ok.ensures.0 c.in-Ok.ensures.1 c.add_view.ensures.row
