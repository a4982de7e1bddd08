use Rattle.std.proofs.Common.{arith}
use Rattle.csv.specs.Records.{fields_of}
use Rattle.fw_rows.proofs.PlaceFacts.{same-turn}
use Rattle.fw_rows.proofs.kept_places.are_at.Goals as goal

pub loop-index-preserved : goal.loop-index-preserved
loop-index-preserved c =
    same-turn (fields_of c.args.fields.now) c.args.values.now c.args.places.now c.loop-index.index c.index-values-index.result c.as_str.result.now
    (omega (arith, c.loop-index-test.true, c.if-values-places.false)) (omega (arith, c.loop-index-test.true))
    c.loop-index.invariant c.index-values-index.is c.as_str.ensures.value (c.is_text_at.ensures c.if-not-is_text_at.false)
