use Rattle.std.proofs.Common.{◌≡◌, ◌∙◌, ◌+◌, ◌-◌, ◌++◌, ◌∷◌, ◌&&◌, ◌||◌, [], take, drop, sym, ap, subst, arith}
use Rattle.std.specs.List.{list_all, list_any}
use Rattle.fw_replace.specs.Posts.{rows_at}
use Rattle.fw_replace.specs.Summaries.{begins_in, reach_of}
use Rattle.fw_replace.specs.declared.summary.Reach.TheVariants as reach
use Rattle.fw_replace.proofs.ReadFacts.{next_item}
use Rattle.fw_replace.proofs.SummaryFacts.{across, all_more, any_more, inside, outside}
use Rattle.fw_replace.proofs.summary.reach_of.Goals as goal

pub loop-place-preserved : goal.loop-place-preserved
loop-place-preserved c =
    let first = c.range_of-first.result.0 in
    let place = c.loop-place.place in
    let before = take (place - first) (drop first c.args.rows.now) in
    let row = c.lent.result in
    let test = begins_in c.args.from c.args.to in
    let step : take (place + 1 - first) (drop first c.args.rows.now) ≡ before ++ row ∷ [] = next_item c.args.rows.now first place row c.loop-place.auto.place c.lent.ensures in
    record {
      some_in =
          ap (λ b. b || c.begins_in-is_in.result) c.loop-place.invariant.some_in
          ∙ ap (λ b. list_any test before || b) c.begins_in-is_in.ensures
          ∙ sym (ap (list_any test) step ∙ any_more test before row);
      all_in =
          ap (λ b. b && c.begins_in-is_in.result) c.loop-place.invariant.all_in
          ∙ ap (λ b. list_all test before && b) c.begins_in-is_in.ensures
          ∙ sym (ap (list_all test) step ∙ all_more test before row);
    }

pub returns-in-true-true : goal.returns-in-true-true
returns-in-true-true c =
    let first = c.range_of-first.result.0 in
    let place = c.loop-place.place in
    let read = take (place - first) (drop first c.args.rows.now) in
    let behind : place - first ≡ c.range_of-first.result.1 - first = omega (arith, c.loop-place.auto.place-end, c.range_of-first.ensures.order, c.loop-place-test.false) in
    let is : read ≡ rows_at c.args.rows.now c.args.post.now = ap (λ n. take n (drop first c.args.rows.now)) behind ∙ c.range_of-first.ensures.rows in
    subst (λ rows. reach.Inside ≡ reach_of c.args.from c.args.to rows) is
    (inside c.args.from c.args.to read (sym c.loop-place.invariant.some_in ∙ c.in-true-true.is-0) (sym c.loop-place.invariant.all_in ∙ c.in-true-true.is-1))

pub returns-in-true-false : goal.returns-in-true-false
returns-in-true-false c =
    let first = c.range_of-first.result.0 in
    let place = c.loop-place.place in
    let read = take (place - first) (drop first c.args.rows.now) in
    let behind : place - first ≡ c.range_of-first.result.1 - first = omega (arith, c.loop-place.auto.place-end, c.range_of-first.ensures.order, c.loop-place-test.false) in
    let is : read ≡ rows_at c.args.rows.now c.args.post.now = ap (λ n. take n (drop first c.args.rows.now)) behind ∙ c.range_of-first.ensures.rows in
    subst (λ rows. reach.Across ≡ reach_of c.args.from c.args.to rows) is
    (across c.args.from c.args.to read (sym c.loop-place.invariant.some_in ∙ c.in-true-false.is-0) (sym c.loop-place.invariant.all_in ∙ c.in-true-false.is-1))

pub returns-in-false-default : goal.returns-in-false-default
returns-in-false-default c =
    let first = c.range_of-first.result.0 in
    let place = c.loop-place.place in
    let read = take (place - first) (drop first c.args.rows.now) in
    let behind : place - first ≡ c.range_of-first.result.1 - first = omega (arith, c.loop-place.auto.place-end, c.range_of-first.ensures.order, c.loop-place-test.false) in
    let is : read ≡ rows_at c.args.rows.now c.args.post.now = ap (λ n. take n (drop first c.args.rows.now)) behind ∙ c.range_of-first.ensures.rows in
    subst (λ rows. reach.Outside ≡ reach_of c.args.from c.args.to rows) is
    (outside c.args.from c.args.to read (sym c.loop-place.invariant.some_in ∙ c.in-false-default.is-0))
