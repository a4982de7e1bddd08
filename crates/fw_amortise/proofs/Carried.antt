-- The amounts telescope.
use Rattle.std.proofs.Common.{◌≡◌, ℕ, zero, suc, ◌+◌, ◌*◌, ◌/◌, ◌<◌, ◌≤◌, arith, ap, ◌∙◌, sum_by}
use Rattle.std.specs.List.{range_with_len}
use Rattle.std.proofs.Math.Nat.{div-mul-le_self, mul-div_cancel, zero-div}
use Rattle.std.proofs.lemmas.Nat.{le-div}
use Rattle.std.proofs.lemmas.List.Sums.{sum_by-cons}
use Rattle.fw_amortise.specs.Amount.{carried_before, amount_of}

pub carried_rises : (total hours k : ℕ) → 0 < hours → carried_before total hours k ≤ carried_before total hours (k + 1)
carried_rises total hours k pos = le-div _ _ hours pos (omega (arith, div-mul-le_self (total * k) hours))

amounts_from : (total hours k n : ℕ) → 0 < hours → sum_by (amount_of total hours) (range_with_len k n) + carried_before total hours k ≡ carried_before total hours (k + n)
unfolding amount_of
amounts_from total hours k zero pos =
    let same : carried_before total hours k ≡ carried_before total hours (k + 0) = ap (carried_before total hours) (omega arith) in omega (arith, same)
amounts_from total hours k (suc n) pos =
    let next : carried_before total hours (k + 1 + n) ≡ carried_before total hours (k + suc n) = ap (carried_before total hours) (omega arith) in
    rw (sum_by-cons (amount_of total hours) k (range_with_len (k + 1) n))
    (omega (arith, amounts_from total hours (k + 1) n pos, carried_rises total hours k pos, next))

pub amounts_sum : (total hours : ℕ) → 0 < hours → sum_by (amount_of total hours) (range_with_len 0 hours) ≡ total
amounts_sum total hours pos =
    let start : carried_before total hours 0 ≡ 0 = (ap (λ x. x / hours) (let z : total * 0 ≡ 0 = omega arith in z)) ∙ zero-div hours in
    let end : carried_before total hours (0 + hours) ≡ total = ap (λ x. total * x / hours) (omega arith) ∙ mul-div_cancel total pos in
    omega (arith, amounts_from total hours 0 hours pos, start, end)
