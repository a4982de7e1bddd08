use Rattle.std.proofs.Common.{◌≡◌, ◌∙◌, ◌++◌, ◌∷◌, [], ap, rules}
use Rattle.std.specs.Prelude.{string_bytes}
use Rattle.std.proofs.lemmas.Int.{to_z-of_z}
use mir.Val.{SFits}
use mir.Syntax.{w128}
use Rattle.serde_json.specs.Data.{string}
use Rattle.fw_money.specs.Writing.{text_of}
use Rattle.fw_selections.specs.JsonMembers.{member_text}
use Rattle.fw_selections.proofs.JsonWritten.{sum_written}
use Rattle.fw_selections.proofs.json.push_sum_of.Goals as goal

pub returns : goal.returns
returns c =
    let costs = c.args.costs in
    let old = string_bytes c.args.text.now in
    let tag = c.args.tag.now in
    let amount = c.as_str.result.now in
    let fits : SFits w128 costs.amount = search rules in
    let amount_is : amount ≡ text_of costs.amount = c.as_str.ensures.value ∙ c.in_ok-amount.ensures ∙ ap text_of (to_z-of_z w128 _ fits) in
    c.in_ok-push_str-2.ensures.bytes
    ∙ ap (λ t. t ++ 125 ∷ []) (c.in_ok-push_member.ensures ∙ ap (λ t. t ++ member_text (tag, string amount)) c.in_ok-push_str.ensures.bytes)
    ∙ sum_written old tag amount costs.amount amount_is
