use Rattle.std.proofs.Common.{arith}
use Rattle.csv.specs.Records.{fields_of}
use Rattle.fw_rows.proofs.CellFacts.{taken_more, cells_are, non_text}
use Rattle.fw_rows.proofs.cells.Cells.of_record.Goals as goal

pub returns-in_err-texts : goal.returns-in_err-texts
returns-in_err-texts c = λ header are.
    rw c.from_residual.ensures (non_text header (fields_of c.args.fields.now) c.args.places.now c.loop-index.index are (omega (arith, c.loop-index-test.true)) c.in_err-texts.ensures)

pub loop-index-preserved : goal.loop-index-preserved
loop-index-preserved c =
    taken_more (fields_of c.args.fields.now) c.args.places.now.places c.loop-index.texts c.loop-index.index c.in_ok-texts.field-0 (omega (arith, c.loop-index.invariant.size, c.loop-index-test.true)) c.loop-index.invariant c.in_ok-texts.ensures.0 c.in_ok-texts.ensures.1

pub returns : goal.returns
returns c = λ header are.
    let done = c.loop-index-test.false in
    cells_are header (fields_of c.args.fields.now) c.args.places.now (record { texts = c.loop-index.texts }) c.loop-index.index are (omega arith) c.loop-index.invariant
