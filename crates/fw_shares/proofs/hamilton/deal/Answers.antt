use Rattle.std.proofs.Common.{◌≡◌, ◌*◌, ◌/◌, get_or, take, arith, refl}
use Rattle.std.proofs.lemmas.List.{get_or-map, take_all}
use Rattle.fw_shares.proofs.Dealing.{dealt_more}
use Rattle.fw_shares.proofs.hamilton.deal.Goals as goal

pub loop-place-preserved : goal.loop-place-preserved
loop-place-preserved c =
    let floor : get_or c.args.floors.now c.loop-place.place 0 ≡ c.args.total * get_or c.args.weights.now c.loop-place.place 0 / c.args.whole =
    rw c.requires.floors (get_or-map (λ w. c.args.total * w / c.args.whole) c.args.weights.now c.loop-place.place 0 0 c.loop-place-test.true) in
    rw (c.in_ok-push.ensures.items, floor)
    (dealt_more c.args.total c.args.whole c.args.weights.now c.args.cut c.loop-place.place c.loop-place.shares.items c.loop-place.ties _ _ _
    c.loop-place-test.true refl c.loop-place.invariant (rw c.remainder.ensures at c.unit_for-unit.ensures.unit) (rw c.remainder.ensures at c.unit_for-unit.ensures.left))

pub returns : goal.returns
returns c =
    let whole : take c.loop-place.place c.args.weights.now ≡ c.args.weights.now = take_all c.loop-place.place c.args.weights.now c.loop-place-test.false in
    let d = c.loop-place.invariant in
    let none = rw whole at d.left_is in
    let all = rw whole at d.total in
    record {
      one_each = omega (arith, d.one_each, c.loop-place-test.false, c.loop-place.auto.place-end);
      each = λ i h. d.each i (omega arith);
      total = omega (arith, none, all, c.requires.ties);
    }
