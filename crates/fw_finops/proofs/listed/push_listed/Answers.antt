use Rattle.std.proofs.Common.{◌≡◌, ◌∙◌, ◌+◌, ◌++◌, ◌∷◌, [], Bor, ap, map, sym, take}
use Rattle.std.proofs.lemmas.List.{map_more}
use Rattle.fw_charge.specs.Charge.{Charge}
use Rattle.fw_finops.proofs.PricedFacts.{adds_more, adds_none}
use Rattle.fw_finops.proofs.listed.push_listed.Goals as goal

pub loop-row-init : goal.loop-row-init
loop-row-init c = adds_none c.args.tag.now c.args.hour c.args.lines.now.items

pub loop-row-preserved : goal.loop-row-preserved
loop-row-preserved c =
    let place = c.loop-row.row-index in
    let row = c.row-item.result in
    let more : map (λ (r : Bor Charge). r.now) (take (place + 1) c.args.rows.now) ≡ map (λ (r : Bor Charge). r.now) (take place c.args.rows.now) ++ row.now ∷ [] =
    map_more (λ (r : Bor Charge). r.now) c.args.rows.now place row c.loop-row-test.true ∙ ap (λ (r : Bor Charge). map (λ (r : Bor Charge). r.now) (take place c.args.rows.now) ++ r.now ∷ []) (sym c.row-item.is) in
    rw more (adds_more c.args.tag.now c.args.hour (map (λ (r : Bor Charge). r.now) (take place c.args.rows.now)) row.now _ _ _ c.loop-row.invariant c.in_ok-push_row.ensures)
