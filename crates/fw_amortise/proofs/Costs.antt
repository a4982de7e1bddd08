-- What is billed of a row: nothing for what was taken of it, and the whole where nothing was.
use Rattle.std.proofs.Common.{◌≡◌, ◌∙◌, ℕ, ◌*◌, ◌/◌, ◌<◌, ℤ, pos, true, false, List, All, refl, ap, sym}
use Rattle.std.specs.Prelude.{int_lt, negsuc, unsigned_abs, ⊤}
use Rattle.std.proofs.Math.Nat.{mul-div_cancel}
use Rattle.fw_charge.specs.Charge.{Charge}
use Rattle.fw_terms.specs.Commitment.{CommitmentValue}
use Rattle.fw_cover.specs.Eligible.{is_eligible}
use Rattle.fw_cover.specs.Hour.{quantity_of}
use Rattle.fw_cover.proofs.Within.{eligible_quantity}
use Rattle.fw_amortise.specs.Carrying.{is_share}
use Rattle.fw_amortise.specs.LineValue.{LineValue}
use Rattle.fw_amortise.specs.Lines.{AreLines, given_line, purchase_line, rest_line, unused_line, used_line}
use Rattle.fw_amortise.specs.declared.line.LineKind.TheVariants as kind
use Rattle.fw_amortise.proofs.Accounting.{Measured, eligible_whole, measured_of}
use Rattle.fw_amortise.proofs.EachLine.{HoldsOfEach, lines_each}

-- a line of a share bills nothing
abbrev BillsNothing : LineValue → Type 0
BillsNothing line = is_share line.kind ≡ true → line.billed ≡ pos 0

each_bills_nothing : (hour : ℕ) → HoldsOfEach BillsNothing (λ row. ⊤) hour
unfolding purchase_line given_line used_line unused_line rest_line
each_bills_nothing hour = record {
  purchase = λ c p e. absurd (cc);
  given = λ row known e. absurd (cc);
  used = λ c rows t share e. refl;
  unused = λ c share e. refl;
  rest = λ row u known e. absurd (cc);
}

pub shares_bill_nothing : (cs : List CommitmentValue) (rows : List Charge) (hour : ℕ) (lines : List LineValue) → AreLines cs rows hour lines → All (λ line. is_share line.kind ≡ true → line.billed ≡ pos 0) lines
shares_bill_nothing cs rows hour lines a = lines_each BillsNothing (λ row. ⊤) cs rows hour lines (each_bills_nothing hour) (λ k d l. tt) a

not_below : (z : ℤ) → int_lt z (pos 0) ≡ false → pos (unsigned_abs z) ≡ z
not_below (pos n) h = refl
not_below (negsuc n) h = absurd (let e : true ≡ false = h in cc)

-- the whole of a row costs what the row does
pub whole_rest : (hour : ℕ) (row : Charge) → is_eligible row ≡ true → rest_line hour row (quantity_of row) ≡ record (given_line hour row) { kind = kind.Rest }
unfolding rest_line given_line
whole_rest hour row eligible =
    let some : 0 < quantity_of row = eligible_quantity row eligible in
    let measured : Measured row = measured_of row eligible in
    let billed : pos (unsigned_abs row.billed * quantity_of row / quantity_of row) ≡ row.billed = ap pos (mul-div_cancel (unsigned_abs row.billed) some) ∙ not_below row.billed measured.billed in
    let effective : pos (unsigned_abs row.effective * quantity_of row / quantity_of row) ≡ row.effective = ap pos (mul-div_cancel (unsigned_abs row.effective) some) ∙ not_below row.effective measured.effective in
    rw (billed, effective, sym (eligible_whole row eligible)) refl
