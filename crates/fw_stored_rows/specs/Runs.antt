-- Which lists of tags are known to be equal while the rows of two columns are compared.
use Rattle.std.specs.Prelude.{◌≡◌, ◌+◌, ◌⊎◌, ◌==◌, ℕ, List, Some, slice_get, slice_index_or, if◌then◌else◌}
use Rattle.fw_charge.specs.Charge.{Charge}
use Rattle.fw_row_table.specs.Lists.{lists_of, tag_lists}
use Rattle.fw_row_table.specs.Texts.{names_of}

-- the row at a place, whose tags are kept as the list with this code
pub record HasList (rows : List Charge) (code place : ℕ) (one : Charge) : Type 0 where
  pub there : slice_get rows place ≡ Some one
  pub list : slice_get (tag_lists rows) code ≡ slice_get (lists_of (names_of rows) rows) place

-- each row whose tags are kept as one list has the tags of each row of the others whose tags are kept as the other list
abbrev pub AreSameLists : List Charge → List Charge → ℕ → ℕ → Type 0
AreSameLists one other own code = (i j : ℕ) → (x y : Charge) → HasList one own i x → HasList other code j y → x.tags ≡ y.tags

-- what is known of each list of the others: 1 + the code of a list that has the same tags, or 0 where nothing is
abbrev pub AreKnown : List ℕ → List Charge → List Charge → Type 0
AreKnown known one other = (code own : ℕ) → slice_index_or known code 0 ≡ own + 1 → AreSameLists one other own code

-- a number is noted of a code, or nothing is
abbrev pub IsNoted : List ℕ → List ℕ → ℕ → ℕ → Type 0
IsNoted old new code number = (new ≡ old) ⊎ ((c : ℕ) → slice_index_or new c 0 ≡ (if c == code then number else slice_index_or old c 0))
