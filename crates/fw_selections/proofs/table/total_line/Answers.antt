use Rattle.std.proofs.Common.{◌∙◌, ◌++◌, ◌∷◌, [], ap, append_assoc, map, replicate, subst}
use Rattle.std.specs.Prelude.{codes, string_bytes}
use Rattle.fw_selections.specs.TableText.{AreCosts, AreSumCells, blanks, cells}
use Rattle.fw_selections.specs.Written.{sum_name}
use Rattle.fw_selections.specs.declared.rows.Costs.{Costs}
use Rattle.fw_selections.proofs.table.total_line.Goals as goal

pub returns : goal.returns
returns c =
    let sheet = c.args.sheet.now in
    let added = c.in_ok-push_costs.ensures in
    let more = c.in_ok-push_sum.ensures in
    let blank = replicate (blanks sheet) [] in
    record {
      costs = added.texts;
      are_costs = subst (λ all. AreCosts all all added.texts) c.in_ok-all.ensures added.are_costs;
      sums = more.texts;
      are_sums = subst (λ (all : Costs). AreSumCells (sum_name sheet) all.amount more.texts) c.in_ok-all.ensures more.are_sums;
      line_is = ap cells (more.added
          ∙ ap (λ t. t ++ more.texts) (added.added
          ∙ ap (λ t. t ++ added.texts) (c.in_ok-push_blanks.ensures
          ∙ ap (λ n. map string_bytes c.push_text.new.texts.items ++ replicate n []) c.blanks_of.ensures
          ∙ ap (λ t. t ++ blank) (c.in_ok-push_text.ensures ∙ ap (λ t. map string_bytes t ++ codes "Total" ∷ []) c.new-texts.ensures.items)))
          ∙ ap (λ t. codes "Total" ∷ t) (append_assoc blank added.texts more.texts));
    }
