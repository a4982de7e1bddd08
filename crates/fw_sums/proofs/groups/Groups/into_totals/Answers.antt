use Rattle.std.proofs.Common.{◌≡◌, List, map}
use Rattle.std.proofs.lemmas.Result.{IfOk-weaker}
use Rattle.fw_sums.specs.Costs.{Cost}
use Rattle.fw_sums.specs.Sums.{AreSums, kept_total}
use Rattle.fw_sums.specs.Totals.{AreTotals}
use Rattle.fw_sums.proofs.SortedFacts.{totals_from_sorted}
use Rattle.fw_sums.proofs.groups.Groups.into_totals.Goals as goal

pub returns : goal.returns
returns c =
    let ordered = c.in_ok-sorted.ensures in
    IfOk-weaker c.kept_totals.result (λ totals. totals.items ≡ map kept_total c.in_ok-sorted.sorted.by_group.entries) (λ totals. (costs : List Cost) → AreSums c.args.self costs → AreTotals costs totals.items)
    (λ totals is costs sums. rw is (totals_from_sorted costs c.args.self.by_group.entries _ sums.sums ordered.reordered.0 ordered.reordered.2 ordered.sorted ordered.unique))
    c.kept_totals.ensures
