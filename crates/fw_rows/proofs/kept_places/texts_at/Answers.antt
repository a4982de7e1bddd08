use Rattle.std.proofs.Common.{◌∙◌, arith, subst}
use Rattle.std.specs.Prelude.{All, IsUtf8}
use Rattle.csv.specs.Records.{fields_of}
use Rattle.fw_rows.proofs.PlaceFacts.{bad-at, copied-turn, utf8-turn, whole-at}
use Rattle.fw_rows.proofs.kept_places.texts_at.Goals as goal

pub returns-in_default : goal.returns-in_default
returns-in_default c = bad-at (fields_of c.args.fields.now) c.args.places.now c.loop-place.place-index c.loop-place-test.true c.in_default.ensures

pub loop-place-preserved : goal.loop-place-preserved
loop-place-preserved c =
    let fields = fields_of c.args.fields.now in
    let places = c.args.places.now in
    let i = c.loop-place.place-index in
    record {
      same = copied-turn fields places i c.loop-place.texts.items c.push.new.self.items c.in_ok-from_str.field-0 c.in-Some.text.now c.loop-place-test.true c.loop-place.invariant.same c.in_ok-push.ensures.items c.in_ok-from_str.ensures.ok c.in-Some.ensures.0;
      utf8 = utf8-turn fields places i c.loop-place-test.true c.loop-place.invariant.utf8 c.in-Some.ensures.1;
    }

pub returns : goal.returns
returns c =
    let whole = whole-at (fields_of c.args.fields.now) c.args.places.now c.loop-place.place-index (omega (arith, c.loop-place-test.false)) in
    (c.loop-place.invariant.same ∙ whole, subst (λ texts. All IsUtf8 texts) whole c.loop-place.invariant.utf8)
