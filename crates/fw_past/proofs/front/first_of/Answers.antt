use Rattle.std.proofs.Common.{◌≡◌, ◌∙◌, ℕ, List, IfOk, take, ap, subst, arith}
use Rattle.fw_charge.specs.Charge.{Charge}
use Rattle.fw_past.proofs.FrontFacts.{row_more}
use Rattle.fw_past.proofs.front.first_of.Goals as goal

pub loop-place-preserved : goal.loop-place-preserved
loop-place-preserved c =
    c.in_ok-push_lent.ensures.added ∙ row_more c.args.columns.now c.loop-place.first c.loop-place.place c.lent.result c.loop-place.invariant c.lent.ensures

pub returns : goal.returns
returns c =
    let all : c.loop-place.place ≡ c.args.count = omega (arith, c.loop-place-test.false, c.loop-place.auto.place-end) in
    let is : c.loop-place.first ≡ take c.args.count c.args.columns.now = c.loop-place.invariant ∙ ap (λ (n : ℕ). take n c.args.columns.now) all in
    subst (λ (l : List Charge). IfOk c.finish.result (λ first. first ≡ l)) is c.finish.ensures
