use Rattle.std.proofs.Common.{◌∙◌, ap, length, sym}
use Rattle.fw_posted.specs.Marks.{selected}
use Rattle.fw_posted.specs.Rows.{segment_rows}
use Rattle.fw_posted.proofs.MarkFacts.{count_selected}
use Rattle.fw_posted.proofs.posted.PostedRows.marked.Goals as goal

pub invariant_of-result : goal.invariant_of-result
invariant_of-result c =
    let rows = segment_rows c.args.segments in
    record {
      parts = c.in_ok-parts.ensures.parts;
      rows = c.requires;
      counting = c.count_true.ensures ∙ count_selected c.args.counts.now rows c.requires ∙ ap (λ l. length (selected l rows)) (sym c.in_ok-parts.ensures.marks);
    }
