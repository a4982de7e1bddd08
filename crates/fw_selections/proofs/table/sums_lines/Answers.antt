use Rattle.std.proofs.Common.{◌∙◌, ◌++◌, ◌∷◌, [], ap, map, subst}
use Rattle.std.specs.Prelude.{codes}
use Rattle.fw_selections.specs.CsvText.{in_sum}
use Rattle.fw_selections.specs.TableText.{IsCosts, cells, line_value}
use Rattle.fw_selections.specs.Written.{sum_name}
use Rattle.fw_selections.proofs.TableFacts.{line_more, three_lines}
use Rattle.fw_selections.proofs.table.sums_lines.Goals as goal

pub returns : goal.returns
returns c =
    let tag = sum_name c.args.sheet.now in
    let none = c.new-lines.result.items in
    let one = c.push.new.self.items in
    let two = c.push-2.new.self.items in
    let three = c.push-3.new.self.items in
    let head = cells (codes "BilledCost" ∷ (codes "EffectiveCost" ∷ in_sum tag)) in
    let costs = line_value c.in_ok-costs_line.field-0 in
    record {
      line = costs;
      is_costs = subst (λ all. IsCosts tag all costs) c.in_ok-all.ensures c.in_ok-costs_line.ensures;
      lines_are = three_lines (map line_value none) (map line_value one) (map line_value two) (map line_value three) head costs (ap (map line_value) c.new-lines.ensures.items)
          (line_more none one c.in_ok-names_line.field-0 c.in_ok-push.ensures.items ∙ ap (λ l. map line_value none ++ l ∷ []) c.in_ok-names_line.ensures)
          (line_more one two _ c.in_ok-push-2.ensures.items)
          (line_more two three c.in_ok-costs_line.field-0 c.in_ok-push-3.ensures.items);
    }
