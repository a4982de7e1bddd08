use Rattle.std.proofs.Common.{◌≡◌, ◌∙◌, ◌++◌, ◌≤◌, ℕ, List, ap, arith, drop, length, refl, replicate, take}
use Rattle.std.proofs.lemmas.List.{length-replicate, take-append-le, take_all}
use Rattle.fw_lanes.specs.declared.by_code.CodeSum.{CodeSum}
use Rattle.fw_lanes.proofs.ByCode.{nothing, rows_from_none, small_from_none}
use Rattle.fw_lanes.proofs.by_code.sums_by_code.Goals as goal

-- what was written through the slice is the list
written : (n : ℕ) (sums rest : List CodeSum) → length sums ≡ n → take n (sums ++ rest) ≡ sums
written n sums rest long = let within : n ≤ length sums = omega (arith, long) in take-append-le n sums rest within ∙ take_all n sums (omega (arith, long))

pub returns-clause-sums : goal.returns-clause-sums
returns-clause-sums c =
    let lent : c.deref_mut.result.now ≡ replicate c.args.count nothing = c.deref_mut.ensures.value ∙ c.in_ok-sums.ensures.items_if_clones_equal (λ y e. e) in
    let many : length c.add_by_code.new.sums ≡ c.args.count = c.add_by_code.auto.sums ∙ ap length lent ∙ length-replicate c.args.count nothing in
    rw (written c.in_ok-sums.sums.len c.add_by_code.new.sums (drop (length c.add_by_code.new.sums) c.in_ok-sums.sums.items) (omega (arith, many)))
    (rows_from_none c.args.billed.now c.args.effective.now c.args.codes.now c.args.mask.now c.args.count c.add_by_code.new.sums many (rw lent at c.add_by_code.ensures.sums))

pub returns-clause-small_billed : goal.returns-clause-small_billed
returns-clause-small_billed c =
    let lent : c.deref_mut.result.now ≡ replicate c.args.count nothing = c.deref_mut.ensures.value ∙ c.in_ok-sums.ensures.items_if_clones_equal (λ y e. e) in
    let many : length c.add_by_code.new.sums ≡ c.args.count = c.add_by_code.auto.sums ∙ ap length lent ∙ length-replicate c.args.count nothing in
    rw (written c.in_ok-sums.sums.len c.add_by_code.new.sums (drop (length c.add_by_code.new.sums) c.in_ok-sums.sums.items) (omega (arith, many)))
    (small_from_none (λ s. s.billed) c.args.count c.add_by_code.new.sums refl many (rw lent at c.add_by_code.ensures.near_billed))

pub returns-clause-small_effective : goal.returns-clause-small_effective
returns-clause-small_effective c =
    let lent : c.deref_mut.result.now ≡ replicate c.args.count nothing = c.deref_mut.ensures.value ∙ c.in_ok-sums.ensures.items_if_clones_equal (λ y e. e) in
    let many : length c.add_by_code.new.sums ≡ c.args.count = c.add_by_code.auto.sums ∙ ap length lent ∙ length-replicate c.args.count nothing in
    rw (written c.in_ok-sums.sums.len c.add_by_code.new.sums (drop (length c.add_by_code.new.sums) c.in_ok-sums.sums.items) (omega (arith, many)))
    (small_from_none (λ s. s.effective) c.args.count c.add_by_code.new.sums refl many (rw lent at c.add_by_code.ensures.near_effective))
