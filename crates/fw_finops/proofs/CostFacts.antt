-- What is left of rows costs less by what was taken.
use Rattle.std.proofs.Common.{◌≡◌, ℕ, zero, suc, ◌+◌, ◌-◌, ◌*◌, ◌/◌, ◌<◌, ◌≤◌, ◌==◌, true, false, List, [], ◌∷◌, ◌++◌, None, Some, arith, ap, cond, get_or, refl, sum_by, sym, zero-add}
use Rattle.std.specs.Prelude.{slice_get, unsigned_abs, ℤ}
use Rattle.std.specs.List.{enumerate_from}
use Rattle.std.proofs.Math.Nat.{div-mul-le_self}
use Rattle.std.proofs.lemmas.Bool.{eq-eqb, ne_eqb}
use Rattle.std.proofs.lemmas.List.Sums.{sum_by-cons, sum_by_push}
use Rattle.std.proofs.lemmas.Nat.{le-div}
use Rattle.fw_charge.specs.Charge.{Charge}
use Rattle.fw_cover.specs.Cover.{taken_of_row}
use Rattle.fw_cover.specs.Eligible.{is_eligible}
use Rattle.fw_cover.specs.Hour.{left_of, quantities_of, quantity_of}
use Rattle.fw_cover.specs.declared.taken.Taken.{Taken}
use Rattle.fw_cover.proofs.Within.{eligible_quantity}
use Rattle.fw_finops.specs.Costs.{left_cost, open_cost}
use Rattle.fw_finops.specs.Prices.{cost_of_left, taken_cost}

-- less is left, and costs no more
quotient_rises : (m n k : ℕ) → 0 < k → m ≤ n → m / k ≤ n / k
quotient_rises m n k some h = let low = div-mul-le_self m k in le-div (m / k) n k some (omega (arith, low, h))

pub cost_rises : (cost : ℤ) (row : Charge) (less more : ℕ) → 0 < quantity_of row → less ≤ more → cost_of_left cost row less ≤ cost_of_left cost row more
unfolding cost_of_left
cost_rises cost row less more some h =
    let product : unsigned_abs cost * less ≤ unsigned_abs cost * more = grind (arith, h) in
    quotient_rises (unsigned_abs cost * less) (unsigned_abs cost * more) (quantity_of row) some product

-- a sum over the rows beside their places, of which one number differs
sum_same : (f g : ℕ × Charge → ℕ) (n : ℕ) (rows : List Charge) → ((k : ℕ) (row : Charge) → n ≤ k → f (k, row) ≡ g (k, row)) → sum_by f (enumerate_from n rows) ≡ sum_by g (enumerate_from n rows)
sum_same f g n [] same = refl
sum_same f g n (row ∷ rows) same =
    let rest = sum_same f g (n + 1) rows (λ k r h. same k r (omega (arith, h))) in
    let here = same n row (omega arith) in
    let a = sum_by-cons f (n, row) (enumerate_from (n + 1) rows) in
    let b = sum_by-cons g (n, row) (enumerate_from (n + 1) rows) in
    omega (arith, rest, here, a, b)

pub sum_at : (f g : ℕ × Charge → ℕ) (n i x : ℕ) (rows : List Charge) (row : Charge) → slice_get rows i ≡ Some row → ((k : ℕ) (r : Charge) → (n + i == k) ≡ false → f (k, r) ≡ g (k, r))
    → f (n + i, row) ≡ g (n + i, row) + x → sum_by f (enumerate_from n rows) ≡ sum_by g (enumerate_from n rows) + x
sum_at f g n i x [] row at same here = absurd (let e : None ≡ Some row = at in cc)
sum_at f g n zero x (r ∷ rows) row at same here =
    let is : r ≡ row = (let e : Some r ≡ Some row = at in cc) in
    let rest = sum_same f g (n + 1) rows (λ k d h. same k d (ne_eqb (n + 0) k (λ e. omega (arith, e, h)))) in
    let first : f (n, r) ≡ g (n, r) + x = rw is (rw (let z : n + 0 ≡ n = omega arith in z) at here) in
    let a = sum_by-cons f (n, r) (enumerate_from (n + 1) rows) in
    let b = sum_by-cons g (n, r) (enumerate_from (n + 1) rows) in
    omega (arith, rest, first, a, b)
sum_at f g n (suc i) x (r ∷ rows) row at same here =
    let place : n + suc i ≡ (n + 1) + i = omega arith in
    let rest = sum_at f g (n + 1) i x rows row at (λ k d h. same k d (rw place h)) (rw place at here) in
    let first : f (n, r) ≡ g (n, r) = same n r (ne_eqb (n + suc i) n (λ e. omega (arith, e))) in
    let a = sum_by-cons f (n, r) (enumerate_from (n + 1) rows) in
    let b = sum_by-cons g (n, r) (enumerate_from (n + 1) rows) in
    omega (arith, rest, first, a, b)

-- a take makes what is left cost less by what it takes
pub take_costs : (rows : List Charge) (done : List Taken) (t : Taken) (row : Charge) → slice_get rows t.row ≡ Some row → is_eligible row ≡ true
    → left_cost rows done ≡ left_cost rows (done ++ t ∷ []) + taken_cost row.effective row (left_of rows done t.row) (left_of rows done t.row - t.quantity)
unfolding left_cost left_of taken_of_row taken_cost open_cost
take_costs rows done t row at eligible =
    let q : ℕ → ℕ = λ r. get_or (quantities_of rows) r 0 in
    let pushed : (r : ℕ) → taken_of_row r (done ++ t ∷ []) ≡ taken_of_row r done + cond (t.row == r) t.quantity 0 = λ r. sum_by_push (λ t. cond (t.row == r) t.quantity 0) done t in
    let after : left_of rows (done ++ t ∷ []) t.row ≡ left_of rows done t.row - t.quantity =
    (let one : cond (t.row == t.row) t.quantity 0 ≡ t.quantity = rw (eq-eqb t.row t.row refl) refl in omega (arith, one, pushed t.row)) in
    let less : cost_of_left row.effective row (left_of rows done t.row - t.quantity) ≤ cost_of_left row.effective row (left_of rows done t.row) =
    cost_rises row.effective row (left_of rows done t.row - t.quantity) (left_of rows done t.row) (eligible_quantity row eligible) (omega arith) in
    let here : open_cost row (left_of rows done t.row) ≡ open_cost row (left_of rows (done ++ t ∷ []) t.row) + taken_cost row.effective row (left_of rows done t.row) (left_of rows done t.row - t.quantity) =
    rw (eligible, after) (omega (arith, less)) in
    sum_at (λ r. open_cost r.1 (left_of rows done r.0)) (λ r. open_cost r.1 (left_of rows (done ++ t ∷ []) r.0)) 0 t.row
    (taken_cost row.effective row (left_of rows done t.row) (left_of rows done t.row - t.quantity)) rows row at
    (λ k r apart.
    let other : (t.row == k) ≡ false = rw (zero-add t.row) at apart in
    let none : cond (t.row == k) t.quantity 0 ≡ 0 = rw other refl in
    let kept : left_of rows (done ++ t ∷ []) k ≡ left_of rows done k = omega (arith, none, pushed k) in
    ap (open_cost r) (sym kept))
    (rw (zero-add t.row) here)
