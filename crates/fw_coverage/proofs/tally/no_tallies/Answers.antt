use Rattle.std.proofs.Common.{◌∙◌, ◌++◌, ◌∷◌, [], map, take, sym, ap}
use Rattle.std.specs.List.{enumerate_from}
use Rattle.std.proofs.lemmas.List.{map_push}
use Rattle.fw_cover.proofs.Listing.{enumerate_more}
use Rattle.fw_coverage.specs.Tallies.{no_tally}
use Rattle.fw_coverage.proofs.tally.no_tallies.Goals as goal

pub loop-place-preserved : goal.loop-place-preserved
loop-place-preserved c =
    let at = c.loop-place.place in
    let d = c.index-commitments-place.result in
    c.in_ok-push.ensures.items
    ∙ (λ j. c.loop-place.invariant j ++ c.new.ensures j ∷ [])
    ∙ ap (λ x. map no_tally (enumerate_from 0 (take at c.args.commitments.now)) ++ no_tally (at, x) ∷ []) c.index-commitments-place.is
    ∙ sym (map_push no_tally (enumerate_from 0 (take at c.args.commitments.now)) _)
    ∙ ap (map no_tally) (sym (enumerate_more c.args.commitments.now at d c.loop-place-test.true))
