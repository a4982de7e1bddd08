-- What is read of rows by column, from its fields.
use Rattle.std.proofs.Common.{◌≡◌, ℕ, ◌-◌, true, List, length, take, Ok, refl}
use Rattle.std.specs.List.{list_all}
use Rattle.std.specs.Str.{bytes_eq}
use Rattle.fw_bytes.specs.Reading.{Fails}
use Rattle.fw_bytes.specs.declared.fault.ReadError.{ReadError}
use Rattle.fw_bytes.specs.declared.fault.ReadError.TheVariants as errors
use Rattle.fw_charge.specs.Charge.{Charge}
use Rattle.fw_fields.specs.Row.{fields_agree}
use Rattle.fw_column_bytes.specs.Spelling.{columns}
use Rattle.fw_column_bytes.specs.Reading.{Parts, parts_at, rows_fields, rows_from, columns_at}

pub parts_fail : (bytes : List ℕ) (e : ReadError) → Fails e (parts_at bytes) → Fails e (columns_at bytes)
unfolding columns_at
parts_fail bytes errors.NoMemory h = tt
parts_fail bytes (errors.Corrupt left) h = rw h refl

pub columns_taken : (bytes : List ℕ) (p : Parts × List ℕ) (rows : List Charge) → parts_at bytes ≡ Ok p → list_all fields_agree (rows_fields p.0) ≡ true → rows_from p.0 ≡ rows
    → bytes_eq (columns rows) (take (length bytes - length p.1) bytes) ≡ true → columns_at bytes ≡ Ok (rows, p.1)
unfolding columns_at
columns_taken bytes p rows read agree made spelled = rw (read, agree, made, spelled) refl
