use Rattle.fw_columns.specs.Rows.{tags_at}
use Rattle.fw_rows.specs.Parts.{texts_of}
use Rattle.fw_rows.proofs.WordFacts.{test-yes}
use Rattle.fw_column_rows.proofs.ViewFacts.{view_charge}
use Rattle.fw_column_rows.proofs.filling.add_like.Goals as goal

pub push_like-requires-clause-valid : goal.push_like-requires-clause-valid
push_like-requires-clause-valid c =
    view_charge (texts_of c.args.cells.now) c.args.row.now (tags_at c.args.columns.now c.args.place) c.requires.stands (test-yes _ _ c.are_short.ensures c.if-not-are_short.false) c.requires.valid
