-- What a text reads as, read before its turn.
use Rattle.std.specs.Prelude.{ℕ, List, Option, Some, None, Result}
use Rattle.fw_charge.specs.Charge.{Charge}
use Rattle.fw_rows.specs.Keeps.{KeepText}
use Rattle.fw_rows.specs.Kept.{RowsKept}
use Rattle.fw_rows.specs.Rows.{RowsRead}
use Rattle.fw_rows.specs.declared.fault.RowFault.{RowFault}

-- a text reads as these rows, or has this fault, where these columns are kept as tags, or none are
abbrev pub RowsReadBy : Option (List KeepText) → List ℕ → List ℕ → Result (List Charge) RowFault → Type 0
RowsReadBy None currency text rows = RowsRead currency text rows
RowsReadBy (Some keeps) currency text rows = RowsKept currency keeps text rows

-- a text that was read: under which currency, which columns were kept as tags, and what it reads as
pub record ReadValue : Type 0 where
  pub keeps : Option (List KeepText)
  pub currency : List ℕ
  pub text : List ℕ
  pub rows : Result (List Charge) RowFault

-- it is what the text reads as
abbrev pub IsRead : ReadValue → Type 0
IsRead r = RowsReadBy r.keeps r.currency r.text r.rows
