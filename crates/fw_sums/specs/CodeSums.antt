-- What the rows of a segment bring, by the codes of their groups. The private functions of the report cite it.
use Rattle.std.specs.Prelude.{◌<◌, ◌≤◌, ◌^◌, ℕ, zero, suc, pos, nat_abs, Bool, List, [], length, map, slice_index_or, All}
use Rattle.fw_charge.specs.Charge.{Charge}
use Rattle.fw_row_table.specs.Names.{Text}
use Rattle.fw_row_table.specs.Texts.{names_of}
use Rattle.fw_columns.specs.Codes.{tag_code}
use Rattle.fw_lanes.specs.Masked.{AreRowSums, billed_of, effective_of}
use Rattle.fw_lanes.specs.declared.by_code.CodeSum.{CodeSum}
use Rattle.fw_sums.specs.Costs.{Cost}
use Rattle.fw_sums.specs.Sums.{AreAmounts}

-- the code of each row's group under a key
abbrev pub codes_of : Text → List Charge → List ℕ
codes_of key rows = map (tag_code key (names_of rows)) rows

-- the group of a code: the empty text for 0 and for a code that no name has
abbrev pub code_text : List Text → ℕ → Text
code_text names zero = []
code_text names (suc place) = slice_index_or names place []

-- what the rows with a code bring together
abbrev pub code_cost : List Text → List CodeSum → ℕ → Cost
code_cost names sums code = record {
  group = code_text names code;
  billed = slice_index_or (billed_of sums) code (pos 0);
  effective = slice_index_or (effective_of sums) code (pos 0);
}

-- the sums of the rows at whose places the mask is true, for each code that a row has under the key; each cost is an amount
pub record AreCodeSums (key : Text) (rows : List Charge) (mask : List Bool) (sums : List CodeSum) : Type 0 where
  pub within : All (λ code. code < length sums) (codes_of key rows)
  pub are : AreRowSums (map (λ c. c.billed) rows) (map (λ c. c.effective) rows) (codes_of key rows) mask (length sums) sums
  pub billed_small : All (λ sum. nat_abs sum ≤ 2 ^ 79) (billed_of sums)
  pub effective_small : All (λ sum. nat_abs sum ≤ 2 ^ 79) (effective_of sums)
  pub amounts : All (λ r. AreAmounts r.billed r.effective) rows
