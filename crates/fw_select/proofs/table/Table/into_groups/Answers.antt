use Rattle.std.proofs.Common.{◌≡◌, List, map}
use Rattle.std.proofs.lemmas.Result.{IfOk-weaker}
use Rattle.fw_select.specs.Groups.{AreTotals, GroupCost}
use Rattle.fw_select.specs.Table.{AreSums, kept_total}
use Rattle.fw_select.proofs.TableFacts.{totals_from_sorted}
use Rattle.fw_select.proofs.table.Table.into_groups.Goals as goal

pub returns : goal.returns
returns c =
    let ordered = c.in_ok-alloc.ensures in
    IfOk-weaker c.kept_groups.result (λ groups. groups.items ≡ map kept_total c.in_ok-alloc.field-0.by_group.entries) (λ groups. (costs : List GroupCost) → AreSums c.args.self costs → AreTotals costs groups.items)
    (λ groups is costs sums. rw is (totals_from_sorted costs c.args.self.by_group.entries _ sums.sums ordered.reordered.0 ordered.reordered.2 ordered.sorted ordered.unique))
    c.kept_groups.ensures
