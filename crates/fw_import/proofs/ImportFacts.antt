-- How many rows a text reads as, and that entries with the same bytes are one.
use Rattle.std.proofs.Common.{◌≡◌, ◌∙◌, ◌++◌, List, [], ℕ, Result, Ok, ap}
use Rattle.std.proofs.lemmas.Slice.Zip.{AllZip-long}
use Rattle.fw_charge.specs.Charge.{Charge}
use Rattle.fw_entry.specs.Entry.{EntryValue}
use Rattle.fw_entry.specs.Spelling.{IsEntry, IsRowCount, entry}
use Rattle.fw_entry_bytes.specs.Reading.{entry_at}
use Rattle.fw_entry_bytes.specs.declared.form.Form.TheVariants as form
use Rattle.fw_rows.specs.Keeps.{KeepText}
use Rattle.fw_rows.specs.Kept.{RowsKept}
use Rattle.fw_rows.specs.Rows.{RowsRead}

-- a text's rows are as many as a post may have
pub counted : (currency text : List ℕ) (rows : List Charge) → RowsRead currency text (Ok rows) → IsRowCount rows
unfolding RowsRead
counted currency text rows read =
    let same = AllZip-long _ _ rows read.3 in
    record { some = rw same read.1; few = rw same read.2 }

pub counted_kept : (currency : List ℕ) (keeps : List KeepText) (text : List ℕ) (rows : List Charge) → RowsKept currency keeps text (Ok rows) → IsRowCount rows
unfolding RowsKept
counted_kept currency keeps text rows read =
    let same = AllZip-long _ _ rows read.3 in
    record { some = rw same read.1; few = rw same read.2 }

-- what is read is one thing
read_once : (r : Result (EntryValue × List ℕ) ℕ) (x y : EntryValue × List ℕ) → r ≡ Ok x → r ≡ Ok y → x ≡ y
read_once r x y first second = cc

-- entries that are spelled alike, and whose spellings read as them by the form that has each, are one
pub one_spelling : ((rest : List ℕ) (e : EntryValue) → IsEntry e → entry_at form.Two (entry e ++ rest) ≡ Ok (e, rest))
    → (a b : EntryValue) → IsEntry a → IsEntry b → entry a ≡ entry b → a ≡ b
one_spelling reads a b first second same =
    let other : entry_at form.Two (entry a ++ []) ≡ Ok (b, []) = ap (λ (bytes : List ℕ). entry_at form.Two (bytes ++ [])) same ∙ reads [] b second in
    ap (λ (x : EntryValue × List ℕ). x.0) (read_once (entry_at form.Two (entry a ++ [])) (a, []) (b, []) (reads [] a first) other)
