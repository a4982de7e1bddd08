use Rattle.std.proofs.Common.{arith}
use Rattle.csv.specs.Records.{fields_of}
use Rattle.fw_rows.proofs.CellFacts.{placed_more, places_are}
use Rattle.fw_rows.proofs.header.Places.of_columns.Goals as goal

pub loop-index-preserved : goal.loop-index-preserved
loop-index-preserved c =
    placed_more (fields_of c.args.header.now) c.loop-index.places c.loop-index.index c.place_in.result (omega (arith, c.loop-index.invariant.size, c.loop-index-test.true)) c.loop-index.invariant c.place_in.ensures

pub returns : goal.returns
returns c =
    let done = c.loop-index-test.false in
    places_are (fields_of c.args.header.now) (record { fields = c.len.result; places = c.loop-index.places }) c.loop-index.index c.len.ensures (omega arith) c.loop-index.invariant
