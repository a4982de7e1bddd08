use Rattle.std.proofs.Common.{◌≡◌, ◌∙◌, ◌-◌, ◌+◌, ◌<◌, ◌≤◌, ℕ, false, ap, arith, length, set, sym}
use Rattle.fw_posted.specs.Marks.{without}
use Rattle.fw_posted.proofs.MarkFacts.{without_nothing, without_one}
use Rattle.fw_snapshot.proofs.state.building.take_away.Goals as goal

pub loop-place-init : goal.loop-place-init
loop-place-init c =
    let start = c.in-Some.span.start in
    let marks = c.args.marks.now.items in
    sym (ap (λ n. without start n marks) (let none : start - start ≡ 0 = omega arith in none) ∙ without_nothing start marks)

pub loop-place-preserved : goal.loop-place-preserved
loop-place-preserved c =
    let marks = c.args.marks.now.items in
    let start = c.in-Some.span.start in
    let place = c.loop-place.place in
    let done : ℕ = place - start in
    let at : place ≡ start + done = omega (arith, c.loop-place.auto.place) in
    let next : done + 1 ≡ place + 1 - start = omega (arith, c.loop-place.auto.place) in
    let within : start + c.in-Some.span.rows ≤ length marks = rw c.in-Some.is at c.requires in
    let inside : start + done < length marks = omega (arith, at, within, c.loop-place-test.true) in
    ap (λ l. set l place false) c.loop-place.invariant
    ∙ ap (λ n. set (without start done marks) n false) at
    ∙ without_one start done marks inside
    ∙ ap (λ n. without start n marks) next

pub returns-after-loop-place : goal.returns-after-loop-place
returns-after-loop-place c =
    let start = c.in-Some.span.start in
    let place = c.loop-place.place in
    let end : place ≤ start + c.in-Some.span.rows = c.loop-place.auto.place-end (omega arith) in
    let all : place - start ≡ c.in-Some.span.rows = omega (arith, end, c.loop-place-test.false) in
    rw c.in-Some.is (c.loop-place.invariant ∙ ap (λ n. without start n c.args.marks.now.items) all)
