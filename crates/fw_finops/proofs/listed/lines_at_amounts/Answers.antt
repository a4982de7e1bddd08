use Rattle.std.proofs.Common.{◌≡◌, ◌∙◌, ◌+◌, ◌++◌, ◌∷◌, [], Bor, ap, map, sym, take}
use Rattle.std.proofs.lemmas.List.{map_more}
use Rattle.fw_charge.specs.Charge.{Charge}
use Rattle.fw_finops.proofs.PricedFacts.{amounts_more}
use Rattle.fw_finops.proofs.listed.lines_at_amounts.Goals as goal

pub loop-row-preserved : goal.loop-row-preserved
loop-row-preserved c =
    let place = c.loop-row.row-index in
    let row = c.row-item.result in
    let so_far = map (λ (r : Bor Charge). r.now) (take place c.args.rows.now) in
    let more : map (λ (r : Bor Charge). r.now) (take (place + 1) c.args.rows.now) ≡ so_far ++ row.now ∷ [] =
    map_more (λ (r : Bor Charge). r.now) c.args.rows.now place row c.loop-row-test.true ∙ ap (λ (r : Bor Charge). so_far ++ r.now ∷ []) (sym c.row-item.is) in
    rw more (amounts_more c.args.tag.now c.args.hour so_far row.now c.price_by-amount.result c.amount_line.result _ _ c.loop-row.invariant c.price_by-amount.ensures c.amount_line.ensures c.in_ok-push.ensures.items)
