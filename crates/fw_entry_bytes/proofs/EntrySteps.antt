-- The last step of reading an entry: how long it is.
use Rattle.std.proofs.Common.{◌≡◌, ℕ, ◌<◌, ◌≤◌, ◌-◌, ◌+◌, true, false, List, ◌++◌, length, Ok, Err, refl, ap, arith}
use Rattle.std.proofs.lemmas.Bool.{le-leb, lt-leb}
use Rattle.std.proofs.lemmas.List.{length-append}
use Rattle.fw_bytes.specs.Reading.{checked, seen, Fails}
use Rattle.fw_bytes.specs.declared.fault.ReadError.{ReadError}
use Rattle.fw_bytes.specs.declared.fault.ReadError.TheVariants as errors
use Rattle.fw_bytes.proofs.Laws.{IsBytes}
use Rattle.fw_entry.specs.Spelling.{entry, most_entry_bytes, IsEntry}
use Rattle.fw_entry_bytes.specs.declared.form.Form.{Form}
use Rattle.fw_entry_bytes.specs.Reading.{Fields, fields_at, entry_from, is_small, entry_at}
use Rattle.fw_entry_bytes.proofs.EntryFormat.{fields_format, entry_format}

-- what was read and what follows are all of the bytes
pub size_is : (form : Form) (bytes : List ℕ) (f : Fields × List ℕ) → IsBytes bytes → fields_at form bytes ≡ Ok f → length (entry (entry_from f.0)) + length f.1 ≡ length bytes
unfolding entry
size_is form bytes f is e =
    let t = (fields_format form).takes bytes f is e in
    let all : length bytes ≡ length (entry (entry_from f.0) ++ f.1) = ap (λ (x : List ℕ). length x) t.0.parts in
    omega (arith, all, length-append (entry (entry_from f.0)) f.1)

pub no_longer : (form : Form) (bytes : List ℕ) (f : Fields × List ℕ) → IsBytes bytes → fields_at form bytes ≡ Ok f → length f.1 ≤ length bytes
no_longer form bytes f is e = omega (arith, size_is form bytes f is e)

refuses : (form : Form) (bytes : List ℕ) (f : Fields × List ℕ) → fields_at form bytes ≡ Ok f → is_small (entry_from f.0) ≡ false → entry_at form bytes ≡ Err (length bytes)
unfolding entry_at checked seen
refuses form bytes f e size = rw (e, size) refl

takes : (form : Form) (bytes : List ℕ) (f : Fields × List ℕ) → fields_at form bytes ≡ Ok f → is_small (entry_from f.0) ≡ true → entry_at form bytes ≡ Ok (entry_from f.0, f.1)
unfolding entry_at checked seen
takes form bytes f e size = rw (e, size) refl

-- too many bytes are a fault at the first of them
pub entry_refused : (form : Form) (bytes : List ℕ) (f : Fields × List ℕ) → IsBytes bytes → fields_at form bytes ≡ Ok f → most_entry_bytes < length bytes - length f.1 → entry_at form bytes ≡ Err (length bytes)
entry_refused form bytes f is e large = refuses form bytes f e (lt-leb _ _ (omega (arith, size_is form bytes f is e)))

pub entry_taken : (form : Form) (bytes : List ℕ) (f : Fields × List ℕ) → IsBytes bytes → fields_at form bytes ≡ Ok f → length bytes - length f.1 ≤ most_entry_bytes → entry_at form bytes ≡ Ok (entry_from f.0, f.1)
entry_taken form bytes f is e small = takes form bytes f e (le-leb _ _ (omega (arith, size_is form bytes f is e)))

pub entry_kept : (form : Form) (bytes : List ℕ) (f : Fields × List ℕ) → IsBytes bytes → fields_at form bytes ≡ Ok f → length bytes - length f.1 ≤ most_entry_bytes → IsEntry (entry_from f.0)
entry_kept form bytes f is e small = ((entry_format form).takes bytes (entry_from f.0, f.1) is (entry_taken form bytes f is e small)).1.0

faulty : (form : Form) (bytes : List ℕ) (left : ℕ) → fields_at form bytes ≡ Err left → entry_at form bytes ≡ Err left
unfolding entry_at checked seen
faulty form bytes left e = rw e refl

-- a fault of a field is one of the entry
pub entry_fails : (form : Form) (bytes : List ℕ) (e : ReadError) → Fails e (fields_at form bytes) → Fails e (entry_at form bytes)
entry_fails form bytes errors.NoMemory h = tt
entry_fails form bytes (errors.Corrupt left) h = faulty form bytes left h
