use Rattle.std.proofs.Common.{◌≡◌, ◌∙◌, sym, arith}
use Rattle.fw_adding.proofs.TextFacts.{different, not_different, one_more, same_at}
use Rattle.fw_adding.proofs.fields.are_same_texts.Goals as goal

pub returns-then-ne : goal.returns-then-ne
returns-then-ne c =
    let apart : ¬ (c.as_str.result.now ≡ c.as_str-in-loop-place.result.now) = different _ _ c.ne.result c.ne.ensures c.if-ne.true in (
      λ holds. absurd (cc),
      λ same. absurd (apart (let here = same_at c.args.one.now c.args.other.now c.loop-place.place c.index-one-place.result c.index-other-place.result (omega arith) (omega arith)
          c.index-one-place.is c.index-other-place.is same in c.as_str.ensures.value ∙ (here ∙ sym c.as_str-in-loop-place.ensures.value))),
    )

pub loop-place-preserved : goal.loop-place-preserved
loop-place-preserved c =
    let equal : c.as_str.result.now ≡ c.as_str-in-loop-place.result.now = not_different _ _ c.ne.result c.ne.ensures c.if-ne.false in
    one_more c.args.one.now c.args.other.now c.loop-place.place c.index-one-place.result c.index-other-place.result (omega arith) (omega arith)
    c.index-one-place.is c.index-other-place.is (sym c.as_str.ensures.value ∙ (equal ∙ c.as_str-in-loop-place.ensures.value)) c.loop-place.invariant
