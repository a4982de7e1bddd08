use Rattle.std.proofs.Common.{◌≡◌, ◌∙◌, ◌++◌, ◌∷◌, [], ap, sym, arith, get_or, nat_abs, pos}
use Rattle.std.proofs.lemmas.List.{length-set, map_more, take_more_set}
use Rattle.fw_charge.specs.Charge.{hour_of}
use Rattle.fw_sums.specs.Hours.{is_marked}
use Rattle.fw_sums.proofs.marks.mask_by_hour.Goals as goal

pub loop-place-preserved : goal.loop-place-preserved
loop-place-preserved c =
    let i = c.loop-place.place in
    let mask = c.loop-place.mask in
    let seconds = c.args.seconds.now in
    let here : c.is_marked.result ≡ is_marked c.args.marks.now c.args.from (hour_of (nat_abs (get_or seconds i (pos 0)))) = c.is_marked.ensures ∙ ap (λ s. is_marked c.args.marks.now c.args.from (hour_of s)) c.second_of.ensures in
    rw c.set.ensures (
      length-set mask i c.is_marked.result ∙ c.loop-place.invariant.0,
      take_more_set mask i c.is_marked.result (omega arith) ∙ (λ j. c.loop-place.invariant.1 j ++ here j ∷ [])
          ∙ sym (map_more (λ s. is_marked c.args.marks.now c.args.from (hour_of (nat_abs s))) seconds i (pos 0) (omega arith)),
    )
