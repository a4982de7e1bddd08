use Rattle.std.proofs.Common.{◌≡◌, ◌∙◌, ◌++◌, ◌∷◌, [], ◌&&◌, Bool, false, arith, get_or, sym}
use Rattle.std.proofs.lemmas.List.{get_or-set_other, length-set, take_more_set}
use Rattle.fw_lanes.proofs.Masks.{zip2_more}
use Rattle.fw_lanes.proofs.mask.and_with.Goals as goal

pub loop-at-preserved : goal.loop-at-preserved
loop-at-preserved c =
    let i = c.loop-at.at in
    let old = c.as_mut_slice-places.result.now in
    let others = c.as_slice-others.result.now in
    let places = c.loop-at.places in
    let value = get_or places i false && get_or others i false in
    let kept = c.loop-at.invariant in
    let same : get_or places i false ≡ get_or old i false = kept.left i (omega arith) in
    record {
      many = length-set places i value ∙ kept.many;
      set = take_more_set places i value (omega arith) ∙ (λ j. kept.set j ++ (same j && get_or others i false) ∷ []) ∙ sym (zip2_more (λ (a b : Bool). a && b) old others i false false (omega arith) (omega arith));
      left = λ k behind. get_or-set_other places i k value false (omega arith) ∙ kept.left k (omega arith);
    }
