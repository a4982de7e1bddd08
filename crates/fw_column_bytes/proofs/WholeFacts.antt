-- A column whose bytes are all there, read in one pass.
use Rattle.std.proofs.Common.{◌≡◌, ℕ, ◌+◌, ◌-◌, ◌*◌, ◌<◌, ◌≤◌, Bool, true, List, [], ◌∷◌, length, get_or, take, drop, set, Result, Ok, Err, refl, sym, ap, ◌∙◌, arith}
use Rattle.std.specs.Prelude.{◌&&◌, ℤ, nat_abs, nat_le}
use Rattle.std.specs.Int.{w32, w64, cast_signed}
use Rattle.std.proofs.lemmas.Bool.{and_parts, le-ltb, leb-true}
use Rattle.std.proofs.lemmas.List.{drop_more, length-set, take_all, take_more, take_more_set}
use Rattle.fw_bytes.specs.Reading.{number_at, signed64_at, code_at, checked, times}
use Rattle.fw_bytes.proofs.Loop.{with_front, goes_on, is_done}
use Rattle.fw_money.specs.Amount.{most_nanos}
use Rattle.fw_charge.specs.Charge.{last_second}
use Rattle.fw_fields.specs.Reading.{nanos_at, second_at}
use Rattle.fw_row_table.specs.Names.{Text}
use Rattle.fw_column_bytes.specs.Reading.{byte_at, is_text_code, text_code_at}

-- values so far, each in its range if all so far are: what was read, and what is still to be read
pub record AreRight {A : Type 0} (read : List ℕ → Result (A × List ℕ) ℕ) (width : ℕ) (column : List A) (is_right : Bool) (place count : ℕ) (bytes : List ℕ) : Type 0 where
  pub long : length column ≡ count
  pub so_far : is_right ≡ true → with_front (take place column) (times read (count - place) (drop (width * place) bytes)) ≡ times read count bytes

pub no_front : {A : Type 0} (r : Result (List A × List ℕ) ℕ) → with_front [] r ≡ r
no_front (Ok x) = refl
no_front (Err e) = refl

pub begins : {A : Type 0} (read : List ℕ → Result (A × List ℕ) ℕ) (width : ℕ) (column : List A) (count : ℕ) (bytes : List ℕ) → length column ≡ count → AreRight read width column true 0 count bytes
begins read width column count bytes long =
    let none : width * 0 ≡ 0 = omega arith in
    let all : count - 0 ≡ count = omega arith in
    record { long = long; so_far = λ e. rw (none, all) (no_front (times read count bytes)) }

pub one_more : {A : Type 0} (read : List ℕ → Result (A × List ℕ) ℕ) (width : ℕ) (column : List A) (is_right ok : Bool) (place count : ℕ) (bytes : List ℕ) (x : A) (after : List ℕ) → AreRight read width column is_right place count bytes → place < count
    → after ≡ drop (width * (place + 1)) bytes → (ok ≡ true → read (drop (width * place) bytes) ≡ Ok (x, after)) → AreRight read width (set column place x) (is_right && ok) (place + 1) count bytes
one_more read width column is_right ok place count bytes x after are lt is one = record {
  long = length-set column place x ∙ are.long;
  so_far =
      λ e.
      let two = and_parts is_right ok e in
      let so_far = are.so_far two.0 in
      let next = goes_on read (take place column) count place (drop (width * place) bytes) x after (times read count bytes) lt (one two.1) so_far in
      (λ j. with_front (take_more_set column place x (omega (arith, lt, are.long)) j) (times read (count - (place + 1)) (sym is j))) ∙ next;
}

pub all_read : {A : Type 0} (read : List ℕ → Result (A × List ℕ) ℕ) (width : ℕ) (column : List A) (is_right : Bool) (place count : ℕ) (bytes : List ℕ) → AreRight read width column is_right place count bytes → place ≡ count → is_right ≡ true
    → times read count bytes ≡ Ok (column, drop (width * count) bytes)
all_read {A = A} read width column is_right place count bytes are end e =
    is_done read (take place column) count place (drop (width * place) bytes) (times read count bytes) (omega (arith, end)) (are.so_far e)
    ∙ (λ j. Ok (take_all place column (omega (arith, end, are.long)) j, drop (width * end j) bytes))

reads_byte : (least most byte : ℕ) (after : List ℕ) → (nat_le least byte && nat_le byte most) ≡ true → byte_at least most (byte ∷ after) ≡ Ok (byte, after)
unfolding byte_at checked code_at
reads_byte least most byte after ok =
    let two = and_parts (nat_le least byte) (nat_le byte most) ok in
    rw (le-ltb byte least (leb-true least byte two.0), le-ltb most byte (leb-true byte most two.1)) refl

-- bytes so far, each within the limits if all so far are
pub record AreWithin (least most : ℕ) (is_right : Bool) (place count : ℕ) (bytes : List ℕ) : Type 0 where
  pub so_far : is_right ≡ true → with_front (take place bytes) (times (byte_at least most) (count - place) (drop place bytes)) ≡ times (byte_at least most) count bytes

pub bytes_begin : (least most count : ℕ) (bytes : List ℕ) → AreWithin least most true 0 count bytes
bytes_begin least most count bytes = let all : count - 0 ≡ count = omega arith in record { so_far = λ e. rw all (no_front (times (byte_at least most) count bytes)) }

pub one_more_byte : (least most : ℕ) (is_right : Bool) (place count : ℕ) (bytes : List ℕ) → AreWithin least most is_right place count bytes → place < count → count ≤ length bytes
    → AreWithin least most (is_right && (nat_le least (get_or bytes place 0) && nat_le (get_or bytes place 0) most)) (place + 1) count bytes
one_more_byte least most is_right place count bytes are lt long = record {
  so_far =
      λ e.
      let byte = get_or bytes place 0 in
      let read = byte_at least most in
      let two = and_parts is_right (nat_le least byte && nat_le byte most) e in
      let here : drop place bytes ≡ byte ∷ drop (place + 1) bytes = drop_more bytes place 0 (omega (arith, lt, long)) in
      let one : read (drop place bytes) ≡ Ok (byte, drop (place + 1) bytes) = ap read here ∙ reads_byte least most byte (drop (place + 1) bytes) two.1 in
      let next = goes_on read (take place bytes) count place (drop place bytes) byte (drop (place + 1) bytes) (times read count bytes) lt one (are.so_far two.0) in
      (λ j. with_front (take_more bytes place 0 (omega (arith, lt, long)) j) (times read (count - (place + 1)) (drop (place + 1) bytes))) ∙ next;
}

pub bytes_read : (least most : ℕ) (is_right : Bool) (place count : ℕ) (bytes : List ℕ) → AreWithin least most is_right place count bytes → place ≡ count → is_right ≡ true
    → times (byte_at least most) count bytes ≡ Ok (take count bytes, drop count bytes)
bytes_read least most is_right place count bytes are end e =
    is_done (byte_at least most) (take place bytes) count place (drop place bytes) (times (byte_at least most) count bytes) (omega (arith, end)) (are.so_far e)
    ∙ (λ j. Ok (take (end j) bytes, drop (end j) bytes))

-- ---- single values

pub reads_text_code : (names : List Text) (bytes after : List ℕ) (code : ℕ) → number_at w32 bytes ≡ Ok (code, after) → is_text_code names code ≡ true → text_code_at names bytes ≡ Ok (code, after)
unfolding text_code_at checked
reads_text_code names bytes after code e ok = rw (e, ok) refl

pub reads_nanos : (bytes after : List ℕ) (n : ℕ) (z : ℤ) → number_at w64 bytes ≡ Ok (n, after) → z ≡ cast_signed w64 n → nat_le (nat_abs z) most_nanos ≡ true → nanos_at bytes ≡ Ok (z, after)
unfolding nanos_at checked signed64_at
reads_nanos bytes after n z e is ok = rw (e, sym is, ok) refl

pub reads_second : (bytes after : List ℕ) (n : ℕ) → number_at w64 bytes ≡ Ok (n, after) → nat_le n last_second ≡ true → second_at bytes ≡ Ok (n, after)
unfolding second_at checked
reads_second bytes after n e ok = rw (e, ok) refl
