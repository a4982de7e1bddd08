use Rattle.std.proofs.Common.{◌∙◌, ap, length, sym}
use Rattle.fw_posted.specs.Marks.{selected}
use Rattle.fw_posted.specs.Rows.{segment_rows}
use Rattle.fw_posted.proofs.MarkFacts.{selected_all}
use Rattle.fw_posted.proofs.posted.PostedRows.all_of.Goals as goal

pub invariant_of-result : goal.invariant_of-result
invariant_of-result c =
    let rows = segment_rows c.args.segments in
    record {
      parts = c.in_ok-parts.ensures.parts;
      rows = c.in_ok-parts.ensures.rows;
      counting = c.in_ok-parts.ensures.rows ∙ ap length (sym (ap (λ l. selected l rows) c.in_ok-parts.ensures.marks ∙ selected_all rows));
    }
