use Rattle.std.proofs.Common.{◌∙◌, ◌++◌, ◌∷◌, [], ap, map, refl, rules, subst}
use Rattle.std.specs.Prelude.{string_bytes}
use Rattle.std.proofs.lemmas.Int.{to_z-of_z}
use mir.Val.{SFits}
use mir.Syntax.{w128}
use Rattle.fw_table.specs.Amounts.{IsCentsText}
use Rattle.fw_selections.proofs.TableFacts.{text_more, three_texts}
use Rattle.fw_selections.proofs.table.push_costs.Goals as goal

pub returns : goal.returns
returns c =
    let old = c.args.texts.now.items in
    let one = c.push.new.self.items in
    let two = c.push-2.new.self.items in
    let three = c.push-3.new.self.items in
    let billed = string_bytes c.in_ok-billed.billed in
    let effective = string_bytes c.in_ok-effective.effective in
    let share = string_bytes c.in_ok-share.share in
    let billed_fits : SFits w128 c.args.costs.billed = search rules in
    let effective_fits : SFits w128 c.args.costs.effective = search rules in
    let all_fits : SFits w128 c.args.all.effective = search rules in
    record {
      texts = billed ∷ (effective ∷ (share ∷ []));
      are_costs = record {
        billed = billed;
        effective = effective;
        share = share;
        billed_is = subst (λ z. IsCentsText z billed) (to_z-of_z w128 _ billed_fits) c.in_ok-billed.ensures;
        effective_is = subst (λ z. IsCentsText z effective) (to_z-of_z w128 _ effective_fits) c.in_ok-effective.ensures;
        share_is = rw (to_z-of_z w128 c.args.costs.effective effective_fits, to_z-of_z w128 c.args.all.effective all_fits) at c.in_ok-share.ensures;
        texts_are = refl;
      };
      added = text_more two three c.in_ok-share.share share c.in_ok-push-3.ensures.items refl
          ∙ ap (λ t. t ++ share ∷ []) (text_more one two c.in_ok-effective.effective effective c.in_ok-push-2.ensures.items refl
          ∙ ap (λ t. t ++ effective ∷ []) (text_more old one c.in_ok-billed.billed billed c.in_ok-push.ensures.items refl))
          ∙ three_texts (map string_bytes old) billed effective share;
    }
