use Rattle.std.proofs.Common.{◌≡◌, ◌∙◌, ◌-◌, ◌+◌, ◌<◌, ℕ, false, ap, arith, length, set, sym}
use Rattle.fw_posted.specs.Marks.{without}
use Rattle.fw_posted.proofs.MarkFacts.{without_nothing, without_one}
use Rattle.fw_posted.proofs.marks.withdraw.Goals as goal

pub loop-place-init : goal.loop-place-init
loop-place-init c =
    sym (ap (λ n. without c.args.from n c.args.marks.now) (let e : c.args.from - c.args.from ≡ 0 = omega arith in e) ∙ without_nothing c.args.from c.args.marks.now)

pub loop-place-preserved : goal.loop-place-preserved
loop-place-preserved c =
    let marks = c.args.marks.now in
    let from = c.args.from in
    let place = c.loop-place.place in
    let done : ℕ = place - from in
    let at : place ≡ from + done = omega (arith, c.loop-place.auto.place) in
    let next : done + 1 ≡ place + 1 - from = omega (arith, c.loop-place.auto.place) in
    let inside : from + done < length marks = omega (arith, at, c.requires, c.loop-place-test.true) in
    ap (λ l. set l place false) c.loop-place.invariant
    ∙ ap (λ n. set (without from done marks) n false) at
    ∙ without_one from done marks inside
    ∙ ap (λ n. without from n marks) next
