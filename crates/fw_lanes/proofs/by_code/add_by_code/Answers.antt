use Rattle.std.proofs.Common.{◌<◌, ◌≤◌, ◌≡◌, ◌+◌, ◌+ℤ◌, ◌||◌, ◌^◌, ap, arith, length, nat_abs, pos, get_or, false, refl, rules}
use Rattle.std.proofs.lemmas.Int.{to_z-of_z}
use Rattle.std.specs.Int.{w64, w128}
use mir.Val.{SFits}
use Rattle.fw_lanes.specs.Masked.{kept_of}
use Rattle.fw_lanes.specs.declared.by_code.CodeSum.{CodeSum}
use Rattle.fw_lanes.proofs.ByCode.{cost_near, nothing, room_billed, room_effective, row_next}
use Rattle.fw_lanes.proofs.by_code.add_by_code.Goals as goal

pub grown-requires : goal.grown-requires
grown-requires c =
    let place = get_or c.args.codes.now c.loop-at.at 0 in
    let long : c.loop-at.at < length c.args.codes.now = c.loop-at-test.true in
    let within : place < length c.args.sums.now = c.requires.within c.loop-at.at 0 long in
    let few : c.loop-at.at ≤ 65536 = omega arith in
    let fits : SFits w128 (get_or c.loop-at.sums place nothing).billed = search rules in
    rw (to_z-of_z w128 (get_or c.loop-at.sums place nothing).billed fits) (room_billed c.args.sums.now c.loop-at.sums c.loop-at.at place within few c.requires.room c.loop-at.invariant.near_billed)

pub grown-requires-in-loop-at : goal.grown-requires-in-loop-at
grown-requires-in-loop-at c =
    let place = get_or c.args.codes.now c.loop-at.at 0 in
    let long : c.loop-at.at < length c.args.codes.now = c.loop-at-test.true in
    let within : place < length c.args.sums.now = c.requires.within c.loop-at.at 0 long in
    let few : c.loop-at.at ≤ 65536 = omega arith in
    let fits : SFits w128 (get_or c.loop-at.sums place nothing).effective = search rules in
    rw (to_z-of_z w128 (get_or c.loop-at.sums place nothing).effective fits) (room_effective c.args.sums.now c.loop-at.sums c.loop-at.at place within few c.requires.room c.loop-at.invariant.near_effective)

pub loop-at-preserved : goal.loop-at-preserved
loop-at-preserved c =
    let i = c.loop-at.at in
    let sums = c.loop-at.sums in
    let mask = c.as_slice-mask.result.now in
    let place = get_or c.args.codes.now i 0 in
    let many : length mask ≡ length c.args.mask.now = ap length c.as_slice-mask.ensures.places in
    let within : place < length c.args.sums.now = c.requires.within i 0 c.loop-at-test.true in
    let long : length sums ≡ length c.args.sums.now = c.loop-at.auto.sums in
    let billed_fits : SFits w128 c.grown.result = search rules in
    let effective_fits : SFits w128 c.grown-in-loop-at.result = search rules in
    let sum_fits : SFits w128 (get_or sums place nothing).billed = search rules in
    let other_fits : SFits w128 (get_or sums place nothing).effective = search rules in
    let value_fits : SFits w64 (get_or c.args.billed.now i (pos 0)) = search rules in
    let cost_fits : SFits w64 (get_or c.args.effective.now i (pos 0)) = search rules in
    let is_billed : c.grown.result ≡ (get_or sums place nothing).billed +ℤ kept_of (get_or c.args.billed.now i (pos 0)) (get_or mask i false) = simp to_z-of_z at c.grown.ensures.sum in
    let is_effective : c.grown-in-loop-at.result ≡ (get_or sums place nothing).effective +ℤ kept_of (get_or c.args.effective.now i (pos 0)) (get_or mask i false) = simp to_z-of_z at c.grown-in-loop-at.ensures.sum in
    let small_billed : nat_abs c.grown.result ≤ nat_abs (get_or sums place nothing).billed + 2 ^ 63 = simp to_z-of_z at c.grown.ensures.small in
    let small_effective : nat_abs c.grown-in-loop-at.result ≤ nat_abs (get_or sums place nothing).effective + 2 ^ 63 = simp to_z-of_z at c.grown-in-loop-at.ensures.small in
    let new : CodeSum = record { billed = c.grown.result; effective = c.grown-in-loop-at.result; is_marked = (get_or sums place nothing).is_marked || get_or mask i false } in
    rw (to_z-of_z w128 c.grown.result billed_fits, to_z-of_z w128 c.grown-in-loop-at.result effective_fits) (record {
      added = row_next c.args.billed.now c.args.effective.now c.args.codes.now mask c.args.sums.now sums i new (omega arith) (omega arith) (omega arith) (omega arith) within is_billed is_effective refl c.loop-at.invariant.added;
      near_billed = cost_near (λ s. s.billed) c.args.sums.now sums i place new long refl small_billed within c.loop-at.invariant.near_billed;
      near_effective = cost_near (λ s. s.effective) c.args.sums.now sums i place new long refl small_effective within c.loop-at.invariant.near_effective;
    })
