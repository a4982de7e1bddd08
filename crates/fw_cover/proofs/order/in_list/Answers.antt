use Rattle.std.proofs.Common.{◌∷◌, [], ◌++◌, map, take, sym, ap, ◌∙◌}
use Rattle.std.specs.List.{enumerate_from}
use Rattle.std.proofs.lemmas.List.{map-append}
use Rattle.fw_cover.specs.PlacedView.{placed_of}
use Rattle.fw_cover.proofs.Listing.{enumerate_more}
use Rattle.fw_cover.proofs.order.in_list.Goals as goal

pub loop-place-preserved : goal.loop-place-preserved
loop-place-preserved c =
    let at = c.loop-place.place in
    let d = c.index-commitments-place.result in
    ap (map placed_of) c.in_ok-push.ensures.items
    ∙ (map-append placed_of c.loop-place.all.items _
    ∙ (rw c.loop-place.invariant (ap (λ x. enumerate_from 0 (take at c.args.commitments.now) ++ (at, x) ∷ []) c.index-commitments-place.is)
    ∙ sym (enumerate_more c.args.commitments.now at d c.loop-place-test.true)))
