use Rattle.std.proofs.Common.{◌≡◌, ◌∙◌, ap}
use Rattle.fw_snapshot.specs.History.{rows_of}
use Rattle.fw_sums.specs.Hours.{all_rows, lent}
use Rattle.fw_select.proofs.walk.groups_on.Goals as goal

pub returns : goal.returns
returns c =
    let rows : all_rows (lent c.as_slice.result.now) ≡ rows_of c.args.shown.now.entries =
    ap all_rows (ap lent c.as_slice.ensures.value) ∙ c.in_ok-segments.ensures in
    rw (rows, c.commitment_list.ensures, c.state.ensures) at c.groups_of.ensures
