use Rattle.std.proofs.Common.{◌≡◌, ◌∙◌, [], ap}
use Rattle.fw_posted.specs.Gone.{without_all}
use Rattle.fw_posted.specs.Marks.{selected}
use Rattle.fw_posted.specs.PartView.{kept_since}
use Rattle.fw_posted.specs.declared.left.Left.{Left}
use Rattle.fw_posted.proofs.part.of_marks.Goals as goal

pub returns-clause-marks : goal.returns-clause-marks
unfolding without_all
returns-clause-marks c = rw c.new-2.ensures (ap (λ (l : Left). l.counts.items) c.in_ok-new.ensures.ok)

pub returns-clause-left : goal.returns-clause-left
unfolding without_all kept_since
returns-clause-left c =
    rw (c.new-2.ensures, c.in_ok-new.ensures.ok) (c.in_ok-selected_rows.ensures ∙ ap (λ l. selected l c.args.rows.now) c.deref.ensures.value)
