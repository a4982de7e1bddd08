use Rattle.std.proofs.Common.{◌∙◌, sym, arith, below_more}
use Rattle.csv.specs.Records.{fields_of}
use Rattle.fw_rows.proofs.PlaceFacts.{name_is, name_none}
use Rattle.fw_rows.proofs.kept_places.name_place.Goals as goal

pub loop-place-preserved : goal.loop-place-preserved
loop-place-preserved c = below_more _ _ c.loop-place.invariant (sym c.is_name_at.ensures ∙ c.if-is_name_at.false)

pub returns-then-is_name_at : goal.returns-then-is_name_at
returns-then-is_name_at c = name_is (fields_of c.args.header.now) c.args.name.now c.loop-place.place (omega (arith, c.len-place-end.ensures)) c.loop-place.invariant (sym c.is_name_at.ensures ∙ c.if-is_name_at.true)

pub returns : goal.returns
returns c = name_none (fields_of c.args.header.now) c.args.name.now (λ k lt. c.loop-place.invariant k (omega (arith, c.len-place-end.ensures, lt)))
