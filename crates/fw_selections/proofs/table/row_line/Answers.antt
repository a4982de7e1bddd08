use Rattle.std.proofs.Common.{◌∙◌, ◌++◌, ap, append_assoc, map}
use Rattle.std.specs.Prelude.{string_bytes}
use Rattle.fw_selections.specs.Shown.{row_value}
use Rattle.fw_selections.specs.TableText.{cells, shown_under}
use Rattle.fw_selections.proofs.table.row_line.Goals as goal

pub returns : goal.returns
returns c =
    let added = c.in_ok-push_costs.ensures in
    let more = c.in_ok-push_sum.ensures in
    let period = map string_bytes c.args.period.now in
    let shown = shown_under c.args.sheet.now.keys.now (row_value c.args.row.now).texts in
    record {
      costs = added.texts;
      are_costs = added.are_costs;
      sums = more.texts;
      are_sums = more.are_sums;
      line_is = ap cells (more.added
          ∙ ap (λ t. t ++ more.texts) (added.added
          ∙ ap (λ t. t ++ added.texts) (c.in_ok-push_shown_texts.ensures ∙ ap (λ t. t ++ shown) c.in_ok-texts.ensures)
          ∙ append_assoc period shown added.texts)
          ∙ append_assoc period (shown ++ added.texts) more.texts
          ∙ ap (λ t. period ++ t) (append_assoc shown added.texts more.texts));
    }
