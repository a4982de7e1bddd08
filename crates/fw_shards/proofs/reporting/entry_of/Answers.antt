use Rattle.std.proofs.Common.{◌≡◌, ◌∙◌, Some, None, ap, pos, rules}
use Rattle.std.proofs.lemmas.Int.{to_z-of_z}
use mir.Val.{SFits}
use mir.Syntax.{w128}
use Rattle.std.specs.Option.{option_map_or}
use Rattle.fw_shards.specs.Entries.{cost_at}
use Rattle.fw_sums.specs.Costs.{Cost}
use Rattle.fw_shards.proofs.reporting.entry_of.Goals as goal

pub returns-in-Some : goal.returns-in-Some
returns-in-Some c =
    let found : Some c.in-Some.own.now ≡ cost_at c.args.sum.now c.args.cost.now.group = c.in-Some.ensures ∙ ap (cost_at c.args.sum.now) c.group-name.ensures in
    let billed_fits : SFits w128 c.billed.result = search rules in
    let direct_fits : SFits w128 c.direct.result = search rules in
    let cost_fits : SFits w128 c.cost.result = search rules in
    c.of_charge.ensures ∙ (λ j. record {
      group = (c.in_ok-group.ensures.ok ∙ c.group-name.ensures) j;
      billed = (to_z-of_z w128 _ billed_fits ∙ c.billed.ensures ∙ ap (λ o. option_map_or (λ (e : Cost). e.billed) o (pos 0)) found) j;
      direct = (to_z-of_z w128 _ direct_fits ∙ c.direct.ensures ∙ ap (λ o. option_map_or (λ (e : Cost). e.effective) o (pos 0)) found) j;
      charged = (to_z-of_z w128 _ cost_fits ∙ c.cost.ensures) j;
    })

pub returns-in-None : goal.returns-in-None
returns-in-None c =
    let found : None ≡ cost_at c.args.sum.now c.args.cost.now.group = c.in-None.ensures ∙ ap (cost_at c.args.sum.now) c.group-name.ensures in
    let cost_fits : SFits w128 c.cost-in-None.result = search rules in
    c.of_charge-in-None.ensures ∙ (λ j. record {
      group = (c.in_ok-group.ensures.ok ∙ c.group-name.ensures) j;
      billed = ap (λ o. option_map_or (λ (e : Cost). e.billed) o (pos 0)) found j;
      direct = ap (λ o. option_map_or (λ (e : Cost). e.effective) o (pos 0)) found j;
      charged = (to_z-of_z w128 _ cost_fits ∙ c.cost-in-None.ensures) j;
    })
