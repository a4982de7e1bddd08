use Rattle.fw_rows.specs.Parts.{texts_of}
use Rattle.fw_rows.proofs.WordFacts.{test-yes}
use Rattle.fw_column_rows.proofs.ViewFacts.{view_charge}
use Rattle.fw_column_rows.proofs.filling.add_these.Goals as goal

pub push-requires-clause-valid : goal.push-requires-clause-valid
push-requires-clause-valid c =
    view_charge (texts_of c.args.cells.now) c.args.row.now c.args.tags.now c.requires.stands (test-yes _ _ c.are_short.ensures c.if-not-are_short.false) c.as_slice.ensures.valid
