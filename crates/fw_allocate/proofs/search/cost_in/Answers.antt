use Rattle.std.proofs.Common.{rules, ◌≡◌, pos, sym, ap, ◌∙◌, get_or, nat_cmp, arith}
use Rattle.std.specs.Cmp.Lexicographic.{slice_cmp}
use Rattle.std.proofs.lemmas.Int.{to_z-of_z}
use Rattle.std.proofs.lemmas.List.{get_or-map, length-map}
use Rattle.std.specs.Int.{w128}
use Rattle.std.proofs.lemmas.Fn.{always_returns_same}
use Rattle.fw_allocate.specs.Costs.{CostValue, amounts_in, groups_in}
use Rattle.fw_allocate.proofs.Amounts.{amount_at, amount_absent}
use Rattle.fw_allocate.proofs.Rising.{searchable, none_of, tied_texts}
use Rattle.fw_allocate.proofs.search.cost_in.Goals as goal

pub returns-in-Ok : goal.returns-in-Ok
returns-in-Ok c =
    let tied = c.in-Ok.ensures.position (λ cost. slice_cmp nat_cmp cost.group c.args.group.now) (always_returns_same _ _ _ (λ a r f k. search rules)) in
    let costs = c.args.costs.now in
    let k = c.in-Ok.place in
    let one = c.index-costs-place.result in
    let g = c.args.group.now in
    let there : get_or (groups_in costs) k g ≡ g = get_or-map (λ (e : CostValue). e.group) costs k one g c.in-Ok.ensures.bound ∙ tied_texts _ _ (tied one) in
    let is = amount_at (groups_in costs) (amounts_in costs) g k g c.requires (omega (arith, c.in-Ok.ensures.bound, length-map costs (λ (e : CostValue). e.group))) there in
    let cost = get_or-map (λ (e : CostValue). e.cost) costs k one (pos 0) c.in-Ok.ensures.bound in
    to_z-of_z w128 c.cost.result (search rules) ∙ c.cost.ensures ∙ ap (λ (e : CostValue). e.cost) c.index-costs-place.is ∙ sym cost ∙ sym is

pub returns-in-Err : goal.returns-in-Err
returns-in-Err c =
    let point = c.in-Err.ensures.position (λ cost. slice_cmp nat_cmp cost.group c.args.group.now) (always_returns_same _ _ _ (λ a r f k. search rules))
    (searchable (λ cost. cost.group) c.args.costs.now c.args.group.now c.requires) in
    sym (amount_absent (groups_in c.args.costs.now) (amounts_in c.args.costs.now) c.args.group.now (none_of (λ cost. cost.group) c.args.costs.now c.args.group.now c.in-Err.field-0 point))
