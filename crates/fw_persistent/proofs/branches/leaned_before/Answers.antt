use Rattle.std.proofs.Common.{◌≡◌, IfOk, ap, subst}
use Rattle.fw_persistent.specs.Branches.{entry_pair, branch_values, node_values}
use Rattle.fw_persistent.proofs.Middle.{turned}
use Rattle.fw_persistent.proofs.branches.leaned_before.Goals as goal

pub returns-then-deref-height : goal.returns-then-deref-height
returns-then-deref-height g c =
    let high = c.args.high.now in
    let middle = c.in-Fork.middle.value in
    let is : branch_values high.before ≡ node_values middle = ap branch_values c.in-Fork.is in
    let turn = turned (branch_values c.args.before) (entry_pair c.args.entry) (branch_values middle.before) (entry_pair middle.entry) (branch_values middle.after) (entry_pair high.entry) (branch_values high.after) in
    subst (λ values. IfOk c.joined-then-deref-height-2.result (λ branch. branch_values branch ≡ values)) (cc (is, turn, c.in_ok-lesser.ensures, c.in_ok-greater.ensures, c.in_ok-copy.ensures, c.in_ok-copy-2.ensures, c.in_ok-copy-3.ensures, c.in_ok-copy-4.ensures, c.in_ok-copy-5.ensures, c.deref-then-deref-height.ensures, c.deref-then-deref-height-2.ensures, c.deref-then-deref-height-3.ensures)) c.joined-then-deref-height-2.ensures
