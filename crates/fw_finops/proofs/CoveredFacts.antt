-- Takes in turn: what is left of rows, changed in place, is what the earlier takes left.
use Rattle.std.proofs.Common.{◌≡◌, ◌∙◌, ◌≢◌, ℕ, ◌+◌, ◌-◌, ◌<◌, ◌≤◌, ◌==◌, List, [], ◌∷◌, ◌++◌, Some, append_assoc, arith, ap, cond, drop, get_or, get_or-set_other, length, length-set, refl, set, sym, take, ⊎_elim}
use Rattle.std.specs.Prelude.{slice_get}
use Rattle.std.proofs.lemmas.Bool.{cases_eq, eq-eqb, ne_eqb}
use Rattle.std.proofs.lemmas.Grind.{get_or-set_at}
use Rattle.std.proofs.lemmas.List.{drop_more, get_or-map, length-map, take_more}
use Rattle.std.proofs.lemmas.List.Sums.{sum_by_push}
use Rattle.fw_charge.specs.Charge.{Charge}
use Rattle.fw_terms.specs.Commitment.{CommitmentValue}
use Rattle.fw_cover.specs.Cover.{taken_of_row}
use Rattle.fw_cover.specs.Hour.{left_of, quantities_of, quantity_of}
use Rattle.fw_cover.specs.declared.taken.Taken.{Taken}
use Rattle.fw_amortise.specs.LineValue.{LineValue}
use Rattle.fw_finops.specs.Lines.{covered_after, covered_line}

-- an array has what takes left of each row
pub record HasLeft (rows : List Charge) (done : List Taken) (left : List ℕ) : Type 0 where
  pub many : length left ≡ length rows
  pub each : (r : ℕ) → get_or left r 0 ≡ left_of rows done r

pub left_at_first : (rows : List Charge) → HasLeft rows [] (quantities_of rows)
unfolding left_of taken_of_row
left_at_first rows = record { many = length-map rows quantity_of; each = λ r. omega arith }

-- one take more
pub left_more : (rows : List Charge) (done : List Taken) (t : Taken) (left : List ℕ) (before : ℕ) → t.row < length rows → before ≡ get_or left t.row 0 → HasLeft rows done left
    → HasLeft rows (done ++ t ∷ []) (set left t.row (before - t.quantity))
unfolding left_of taken_of_row
left_more rows done t left before below eb had =
    let inside : t.row < length left = omega (arith, below, had.many) in
    record {
      many = length-set left t.row (before - t.quantity) ∙ had.many;
      each = λ r.
          let pushed : taken_of_row r (done ++ t ∷ []) ≡ taken_of_row r done + cond (t.row == r) t.quantity 0 = sum_by_push (λ t. cond (t.row == r) t.quantity 0) done t in
          ⊎_elim
          (λ same.
          let value : get_or (set left t.row (before - t.quantity)) r 0 ≡ before - t.quantity = get_or-set_at left t.row r (before - t.quantity) 0 (sym same) inside in
          let one : cond (t.row == r) t.quantity 0 ≡ t.quantity = rw (eq-eqb t.row r same) refl in
          let was : before ≡ left_of rows done r = eb ∙ had.each t.row ∙ ap (left_of rows done) same in
          omega (arith, value, one, was, pushed))
          (λ other.
          let ne : r ≢ t.row = λ e. other (sym e) in
          let none : cond (t.row == r) t.quantity 0 ≡ 0 = rw (ne_eqb t.row r other) refl in
          let kept : get_or (set left t.row (before - t.quantity)) r 0 ≡ get_or left r 0 = get_or-set_other left t.row r (before - t.quantity) 0 ne in
          omega (arith, none, kept, had.each r, pushed))
          (cases_eq t.row r);
    }

-- what is left of a row is at most its quantity
pub left_within : (rows : List Charge) (done : List Taken) (r : ℕ) (row : Charge) → r < length rows → row ≡ get_or rows r row → left_of rows done r ≤ quantity_of row
unfolding left_of
left_within rows done r row below at =
    let here : get_or (quantities_of rows) r 0 ≡ quantity_of row = get_or-map quantity_of rows r row 0 below ∙ ap quantity_of (sym at) in
    omega (arith, here)

-- the line of a take, and the lines of those behind it
pub line_more : (cs : List CommitmentValue) (rows : List Charge) (hour : ℕ) (taken : List Taken) (i : ℕ) (d : Taken) (c : CommitmentValue) (row : Charge) (before : ℕ) (all next whole : List LineValue)
    → i < length taken → slice_get cs (get_or taken i d).commitment ≡ Some c → slice_get rows (get_or taken i d).row ≡ Some row → before ≡ left_of rows (take i taken) (get_or taken i d).row
    → all ++ covered_after cs rows hour (take i taken) (drop i taken) ≡ whole → next ≡ all ++ covered_line hour c row (get_or taken i d) before ∷ []
    → next ++ covered_after cs rows hour (take (i + 1) taken) (drop (i + 1) taken) ≡ whole
line_more cs rows hour taken i d c row before all next whole below ec er eb was en =
    let t : Taken = get_or taken i d in
    let behind : drop i taken ≡ t ∷ drop (i + 1) taken = drop_more taken i d below in
    let more : take (i + 1) taken ≡ take i taken ++ t ∷ [] = take_more taken i d below in
    let later : List LineValue = covered_after cs rows hour (take (i + 1) taken) (drop (i + 1) taken) in
    let first : covered_after cs rows hour (take i taken) (t ∷ drop (i + 1) taken) ≡ covered_line hour c row t before ∷ covered_after cs rows hour (take i taken ++ t ∷ []) (drop (i + 1) taken) = rw (ec, er, eb) refl in
    let line : covered_after cs rows hour (take i taken) (drop i taken) ≡ covered_line hour c row t before ∷ later =
    ap (covered_after cs rows hour (take i taken)) behind ∙ first ∙ ap (λ done. covered_line hour c row t before ∷ covered_after cs rows hour done (drop (i + 1) taken)) (sym more) in
    ap (λ l. l ++ later) en ∙ append_assoc all (covered_line hour c row t before ∷ []) later ∙ ap (λ l. all ++ l) (sym line) ∙ was
