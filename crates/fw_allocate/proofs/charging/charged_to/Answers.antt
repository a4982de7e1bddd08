use Rattle.std.proofs.Common.{rules, ◌≤◌, ◌^◌, unsigned_abs, arith, ◌+ℤ◌, ◌-ℤ◌}
use Rattle.std.proofs.lemmas.Int.{to_z-of_z}
use Rattle.std.specs.Int.{w128}
use Rattle.fw_allocate.proofs.GiftFacts.{cost_small}
use Rattle.fw_allocate.proofs.ChargeFacts.{sub_fits, add_fits}
use Rattle.fw_allocate.proofs.charging.charged_to.Goals as goal

pub overflow_sub-result : goal.overflow_sub-result
overflow_sub-result c =
    let small : unsigned_abs c.cost_in.result ≤ 10 ^ 19 = rw c.cost_in.ensures (omega (arith, cost_small c.args.direct.now c.args.group.now, c.requires.small)) in
    rw (to_z-of_z w128 c.cost_in.result (search rules), to_z-of_z w128 c.taken_from.result (search rules)) (sub_fits c.cost_in.result c.taken_from.result small c.taken_from.ensures.small)

pub overflow_add-result : goal.overflow_add-result
overflow_add-result c =
    let small : unsigned_abs c.cost_in.result ≤ 10 ^ 19 = rw c.cost_in.ensures (omega (arith, cost_small c.args.direct.now c.args.group.now, c.requires.small)) in
    let first = sub_fits c.cost_in.result c.taken_from.result small c.taken_from.ensures.small in
    rw (to_z-of_z w128 c.cost_in.result (search rules), to_z-of_z w128 c.taken_from.result (search rules), to_z-of_z w128 (c.cost_in.result -ℤ c.taken_from.result) first, to_z-of_z w128 c.brought_to.result (search rules))
    (add_fits c.cost_in.result c.taken_from.result c.brought_to.result small c.taken_from.ensures.small c.brought_to.ensures.small)

pub returns : goal.returns
returns c =
    let small : unsigned_abs c.cost_in.result ≤ 10 ^ 19 = rw c.cost_in.ensures (omega (arith, cost_small c.args.direct.now c.args.group.now, c.requires.small)) in
    let first = sub_fits c.cost_in.result c.taken_from.result small c.taken_from.ensures.small in
    let both = add_fits c.cost_in.result c.taken_from.result c.brought_to.result small c.taken_from.ensures.small c.brought_to.ensures.small in
    rw (
      to_z-of_z w128 c.cost_in.result (search rules),
      to_z-of_z w128 c.taken_from.result (search rules),
      to_z-of_z w128 (c.cost_in.result -ℤ c.taken_from.result) first,
      to_z-of_z w128 c.brought_to.result (search rules),
      to_z-of_z w128 ((c.cost_in.result -ℤ c.taken_from.result) +ℤ c.brought_to.result) both,
    )
    (rw (c.cost_in.ensures, c.taken_from.ensures.taken, c.brought_to.ensures.brought))
