-- How many rows a file has.
use Rattle.std.proofs.Common.{List, ℕ, Ok}
use Rattle.std.proofs.lemmas.Slice.Zip.{AllZip-long}
use Rattle.fw_charge.specs.Charge.{Charge}
use Rattle.fw_entry.specs.Spelling.{IsRowCount}
use Rattle.fw_rows.specs.Rows.{RowsRead}

-- a text's rows are as many as a post may have
pub counted : (currency text : List ℕ) (rows : List Charge) → RowsRead currency text (Ok rows) → IsRowCount rows
unfolding RowsRead
counted currency text rows read =
    let same = AllZip-long _ _ rows read.3 in
    record { some = rw same read.1; few = rw same read.2 }
