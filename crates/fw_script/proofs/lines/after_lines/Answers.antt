use Rattle.std.proofs.Common.{subst, add-one}
use Rattle.fw_script.specs.Lines.{FollowsLines}
use Rattle.fw_script.proofs.LinesLaws.{FollowsLines-start, FollowsLines-more, FollowsLines-ended}
use Rattle.fw_script.proofs.lines.after_lines.Goals as goal

pub loop-init : goal.loop-init
loop-init c = FollowsLines-start c.args.text.now

pub returns-in_err-following : goal.returns-in_err-following
returns-in_err-following c =
    rw c.from_residual.ensures (λ following. FollowsLines-ended c.loop.counter c.args.count c.args.text.now following c.loop-test.true (subst (λ rest. FollowsLines c.loop.counter c.args.text.now rest) c.in_err-following.ensures c.loop.invariant))

pub loop-preserved : goal.loop-preserved
loop-preserved c = rw add-one (FollowsLines-more c.loop.counter c.args.text.now c.loop.rest.now _ c.in_ok-following.following.now c.loop.invariant c.in_ok-following.ensures)
