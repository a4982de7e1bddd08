use Rattle.std.proofs.Common.{◌∙◌, ◌++◌, ◌∷◌, [], ap, rules, subst}
use Rattle.std.specs.Prelude.{string_bytes}
use Rattle.std.proofs.lemmas.Int.{to_z-of_z}
use mir.Val.{SFits}
use mir.Syntax.{w128}
use Rattle.fw_table.specs.Amounts.{IsCentsText}
use Rattle.fw_selections.specs.TableText.{cells}
use Rattle.fw_selections.proofs.table.costs_line.Goals as goal

pub returns : goal.returns
returns c =
    let costs = c.args.costs in
    let billed = string_bytes c.in_ok-billed.billed in
    let effective = string_bytes c.in_ok-effective.effective in
    let billed_fits : SFits w128 costs.billed = search rules in
    let effective_fits : SFits w128 costs.effective = search rules in
    let more = c.in_ok-push_sum.ensures in
    record {
      billed = billed;
      effective = effective;
      sums = more.texts;
      billed_is = subst (λ z. IsCentsText z billed) (to_z-of_z w128 _ billed_fits) c.in_ok-billed.ensures;
      effective_is = subst (λ z. IsCentsText z effective) (to_z-of_z w128 _ effective_fits) c.in_ok-effective.ensures;
      are_sums = more.are_sums;
      line_is = ap cells (more.added
          ∙ ap (λ t. t ++ more.texts) (c.in_ok-texts.ensures ∙ ap (λ b. b ∷ (c.as_str-2.result.now ∷ [])) c.as_str.ensures.value ∙ ap (λ e. billed ∷ (e ∷ [])) c.as_str-2.ensures.value));
    }
