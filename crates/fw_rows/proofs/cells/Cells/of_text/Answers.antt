use Rattle.std.proofs.Common.{arith}
use Rattle.csv.specs.Records.{fields_of}
use Rattle.fw_rows.proofs.CellFacts.{taken_more, cells_are, text_somewhere}
use Rattle.fw_rows.proofs.cells.Cells.of_text.Goals as goal

pub loop-index-preserved : goal.loop-index-preserved
loop-index-preserved c =
    taken_more (fields_of c.args.fields.now) c.args.places.now.places c.loop-index.texts c.loop-index.index c.known_text_at.result (omega (arith, c.loop-index.invariant.size, c.loop-index-test.true)) c.loop-index.invariant c.known_text_at.ensures
    (text_somewhere (fields_of c.args.fields.now) _ c.requires)

pub returns : goal.returns
returns c = λ header are.
    let done = c.loop-index-test.false in
    cells_are header (fields_of c.args.fields.now) c.args.places.now (record { texts = c.loop-index.texts }) c.loop-index.index are (omega arith) c.loop-index.invariant
