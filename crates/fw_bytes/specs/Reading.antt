-- Reading from left to right. A reading answers the value and the bytes after it, or the first fault: how many
-- bytes there were from the place of the fault to the end.
use Rattle.std.specs.Prelude.{◌≡◌, ℕ, zero, suc, Bool, List, [], ◌∷◌, length, take, drop, Option, Some, None, Result, Ok, Err, nat_lt, if◌then◌else◌, ℤ}
use Rattle.std.specs.Int.{Width, w32, w64, byte_len, from_le_bytes, cast_signed}
use Rattle.std.specs.Str.{is_utf8}
use Rattle.fw_bytes.specs.declared.fault.ReadError.{ReadError}
use Rattle.fw_bytes.specs.declared.fault.ReadError.TheVariants as errors

abbrev pub Reading : Type 0 → Type 0
Reading A = List ℕ → Result (A × List ℕ) ℕ

infixl 10 ◌>>=◌
abbrev pub ◌>>=◌ : {A B : Type 0} → Result A ℕ → (A → Result B ℕ) → Result B ℕ
(Ok x) >>= f = f x
(Err left) >>= f = Err left

-- What a function returned, seen by view, is what reading gives, unless memory ran out.
abbrev pub Fails : {Y : Type 0} → ReadError → Result Y ℕ → Type 0
Fails errors.NoMemory read = Unit {0}
Fails (errors.Corrupt left) read = read ≡ Err left

abbrev pub Gives : {X Y : Type 0} → (X → Y) → Result X ReadError → Result Y ℕ → Type 0
Gives view (Ok x) read = read ≡ Ok (view x)
Gives view (Err e) read = Fails e read

-- ---- fields

abbrev pub number_at : Width → Reading ℕ
number_at w bytes = if nat_lt (length bytes) (byte_len w) then Err (length bytes) else Ok (from_le_bytes w (take (byte_len w) bytes), drop (byte_len w) bytes)

unfoldable pub signed64_at : Reading ℤ
signed64_at bytes = do
  n ← number_at w64 bytes
  Ok (cast_signed w64 n.0, n.1)

-- a length and that many bytes, of UTF-8: one field
unfoldable pub text_at : Reading (List ℕ)
text_at bytes = do
  n ← number_at w32 bytes
  if nat_lt (length n.1) n.0 then Err (length bytes) else (if is_utf8 (take n.0 n.1) then Ok (take n.0 n.1, drop n.0 n.1) else Err (length bytes))

-- a byte that stands for a value of a few
abbrev pub means : {A : Type 0} → Option A → List ℕ → Result (A × List ℕ) ℕ
means (Some x) rest = Ok (x, rest)
means None rest = Err (suc (length rest))

unfoldable pub code_at : {A : Type 0} → (ℕ → Option A) → Reading A
code_at meaning [] = Err 0
code_at meaning (b ∷ rest) = means (meaning b) rest

unfoldable pub optional_at : {A : Type 0} → Reading A → Reading (Option A)
optional_at read [] = Err 0
optional_at read (zero ∷ rest) = Ok (None, rest)
optional_at read (suc zero ∷ rest) = do
  x ← read rest
  Ok (Some x.0, x.1)
optional_at read (suc (suc b) ∷ rest) = Err (suc (length rest))

-- a value that a rule refuses is a fault at its own first byte
unfoldable pub checked : {A : Type 0} → (A → Bool) → Reading A → Reading A
checked rule read bytes = do
  x ← read bytes
  if rule x.0 then Ok x else Err (length bytes)

-- ---- fields together

unfoldable pub both : {A B : Type 0} → Reading A → Reading B → Reading (A × B)
both first second bytes = do
  x ← first bytes
  y ← second x.1
  Ok ((x.0, y.0), y.1)

unfoldable pub seen : {A B : Type 0} → (A → B) → Reading A → Reading B
seen view read bytes = do
  x ← read bytes
  Ok (view x.0, x.1)

unfoldable pub times : {A : Type 0} → Reading A → ℕ → Reading (List A)
times read zero bytes = Ok ([], bytes)
times read (suc n) bytes = do
  first ← read bytes
  others ← times read n first.1
  Ok (first.0 ∷ others.0, others.1)

-- a count within the limits, and that many items
unfoldable pub list_at : {A : Type 0} → ℕ → ℕ → Reading A → Reading (List A)
list_at least most read bytes = do
  n ← number_at w32 bytes
  if nat_lt n.0 least then Err (length bytes) else (if nat_lt most n.0 then Err (length bytes) else times read n.0 n.1)
