use Rattle.std.proofs.Common.{◌≡◌, ◌∙◌, ◌++◌, ◌∷◌, [], Some, ap, map, sym, take}
use Rattle.std.specs.Prelude.{slice_get}
use Rattle.std.proofs.lemmas.List.{map_push, take_more}
use Rattle.std.proofs.lemmas.Option.{get_or_from_slice_get, slice_get_within}
use Rattle.fw_persistent.proofs.sequence.Sequence.references.Goals as goal

pub loop-place-preserved : goal.loop-place-preserved
loop-place-preserved g c =
    let all = c.args.self.now in
    let i = c.loop-place.place in
    let one = c.get.result.now in
    let there : slice_get all i ≡ Some one = c.get.ensures in
    ap (map (λ r. r.now)) c.in_ok-push.ensures.items ∙ map_push (λ r. r.now) c.loop-place.references.items c.get.result
    ∙ ap (λ l. l ++ one ∷ []) c.loop-place.invariant
    ∙ sym (take_more all i one (slice_get_within all i one there) ∙ ap (λ s. take i all ++ s ∷ []) (get_or_from_slice_get all i one one there))
