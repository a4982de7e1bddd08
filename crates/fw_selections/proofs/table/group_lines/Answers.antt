use Rattle.std.proofs.Common.{◌∙◌, ◌++◌, ◌∷◌, [], ap, map}
use Rattle.std.specs.List.{flat_map}
use Rattle.fw_selections.specs.TableText.{cells, heads, line_value}
use Rattle.fw_selections.proofs.TableFacts.{line_more, lines_all}
use Rattle.fw_selections.proofs.table.group_lines.Goals as goal

pub returns : goal.returns
returns c =
    let none = c.new-lines.result.items in
    let one = c.push.new.self.items in
    let two = c.push-2.new.self.items in
    let three = c.push_shown.new.lines.items in
    let four = c.push-3.new.self.items in
    let five = c.push-4.new.self.items in
    let shown = c.in_ok-push_shown.ensures in
    let total = line_value c.in_ok-total_line.field-0 in
    record {
      chosen = shown.chosen;
      are_chosen = shown.are_chosen;
      parts = shown.parts.lines;
      each = shown.parts.each;
      total = total;
      is_total = c.in_ok-total_line.ensures;
      lines_are = lines_all (map line_value none) (map line_value one) (map line_value two) (map line_value three) (map line_value four) (map line_value five) (cells (heads c.args.sheet.now)) total (flat_map (λ part. part) shown.parts.lines)
          (ap (map line_value) c.new-lines.ensures.items)
          (line_more none one c.in_ok-head_line.field-0 c.in_ok-push.ensures.items ∙ ap (λ l. map line_value none ++ l ∷ []) c.in_ok-head_line.ensures)
          (line_more one two _ c.in_ok-push-2.ensures.items)
          shown.parts.added
          (line_more three four _ c.in_ok-push-3.ensures.items)
          (line_more four five c.in_ok-total_line.field-0 c.in_ok-push-4.ensures.items);
    }
