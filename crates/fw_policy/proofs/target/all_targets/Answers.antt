use Rattle.std.proofs.Common.{◌+◌, drop}
use Rattle.std.proofs.lemmas.List.{drop_more, drop_all}
use Rattle.std.proofs.lemmas.Result.{err_from_is_err_and}
use Rattle.fw_policy.proofs.TargetFacts.{made-start, made-more, made-all, make-fault}
use Rattle.fw_policy.proofs.target.all_targets.Goals as goal

pub loop-named-init : goal.loop-named-init
loop-named-init c = rw c.new-targets.ensures.items (made-start c.args.weights.now)

pub returns-in_err-target_of : goal.returns-in_err-target_of
returns-in_err-target_of c =
    let ws = c.args.weights.now in let i = c.loop-named.named-index in
    let p = err_from_is_err_and c.from_residual.result c.from_residual.ensures.1 in
    rw (p.1, p.2) (make-fault ws c.loop-named.targets.items (drop i ws) (drop (i + 1) ws) _ c.in_err-target_of.field-0.0 c.loop-named.invariant (drop_more ws i _ c.loop-named-test.true) c.in_err-target_of.ensures)

pub loop-named-preserved : goal.loop-named-preserved
loop-named-preserved c =
    let ws = c.args.weights.now in let i = c.loop-named.named-index in
    rw c.in_ok-push.ensures.items (made-more ws c.loop-named.targets.items (drop i ws) (drop (i + 1) ws) _ c.in_ok-target_of.field-0 c.loop-named.invariant (drop_more ws i _ c.loop-named-test.true) c.in_ok-target_of.ensures.0 c.in_ok-target_of.ensures.1 c.in_ok-target_of.ensures.2)

pub returns : goal.returns
returns c = let ws = c.args.weights.now in let i = c.loop-named.named-index in made-all ws c.loop-named.targets.items (drop i ws) c.loop-named.invariant (drop_all i ws c.loop-named-test.false)
