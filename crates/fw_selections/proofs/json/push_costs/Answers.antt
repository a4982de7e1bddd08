use Rattle.std.proofs.Common.{◌≡◌, ◌∙◌, ◌++◌, ◌∷◌, ◌<◌, ◌^◌, [], ap, arith, rules}
use Rattle.std.specs.Prelude.{codes, nat_abs, option_copied, string_bytes}
use Rattle.std.proofs.lemmas.Int.{to_z-of_z}
use mir.Val.{SFits}
use mir.Syntax.{w128}
use Rattle.fw_money.specs.Writing.{text_of}
use Rattle.fw_selections.specs.JsonMembers.{later_members}
use Rattle.fw_selections.specs.JsonText.{sum_members}
use Rattle.fw_selections.proofs.JsonWritten.{costs_written}
use Rattle.fw_selections.proofs.json.push_costs.Goals as goal

pub returns : goal.returns
returns c =
    let costs = c.args.costs in
    let tag = option_copied c.args.sum in
    let old = string_bytes c.args.text.now in
    let billed = c.as_str.result.now in
    let effective = c.as_str-2.result.now in
    let billed_fits : SFits w128 costs.billed = search rules in
    let effective_fits : SFits w128 costs.effective = search rules in
    let billed_is : billed ≡ text_of costs.billed = c.as_str.ensures.value ∙ c.in_ok-billed.ensures ∙ ap text_of (to_z-of_z w128 _ billed_fits) in
    let effective_is : effective ≡ text_of costs.effective = c.as_str-2.ensures.value ∙ c.in_ok-effective.ensures ∙ ap text_of (to_z-of_z w128 _ effective_fits) in
    let small : nat_abs costs.billed < 10 ^ 64 = search (rules, arith) in
    let also : nat_abs costs.effective < 10 ^ 64 = search (rules, arith) in
    c.in_ok-push_sum.ensures
    ∙ ap (λ t. t ++ later_members (sum_members tag costs.amount)) (c.in_ok-push_str-5.ensures.bytes
    ∙ ap (λ t. t ++ 34 ∷ []) (c.in_ok-push_str-4.ensures.bytes
    ∙ ap (λ t. t ++ effective) (c.in_ok-push_str-3.ensures.bytes
    ∙ ap (λ t. t ++ codes "\",\"effective\":\"") (c.in_ok-push_str-2.ensures.bytes ∙ ap (λ t. t ++ billed) c.in_ok-push_str.ensures.bytes))))
    ∙ costs_written old billed effective tag costs billed_is effective_is small also
