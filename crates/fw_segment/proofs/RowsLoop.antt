-- Reading segments one after the other, as a loop does that keeps their rows.
use Rattle.std.proofs.Common.{◌≡◌, ℕ, suc, ◌-◌, ◌+◌, ◌≤◌, ◌<◌, List, [], ◌∷◌, ◌++◌, Result, Ok, Err, refl, sym, ap, ◌∙◌, append_assoc, arith}
use Rattle.std.proofs.lemmas.List.{append-nil}
use Rattle.fw_bytes.specs.declared.fault.ReadError.{ReadError}
use Rattle.fw_bytes.specs.declared.fault.ReadError.TheVariants as errors
use Rattle.fw_bytes.specs.Reading.{◌>>=◌, Fails, seen, times}
use Rattle.fw_charge.specs.Charge.{Charge}
use Rattle.fw_posted.specs.Rows.{segment_rows}
use Rattle.fw_segment.specs.Segments.{segment_at}

-- the rows that were read before, and those that are still read
abbrev pub with_rows : List Charge → Result (List (List Charge) × List ℕ) ℕ → Result (List Charge × List ℕ) ℕ
with_rows front read = read >>= λ x. Ok (front ++ segment_rows x.0, x.1)

regroup : (front n : List Charge) (read : Result (List (List Charge) × List ℕ) ℕ) → with_rows front (read >>= λ x. Ok (n ∷ x.0, x.1)) ≡ with_rows (front ++ n) read
regroup front n (Ok x) = ap (λ (rows : List Charge). Ok (rows, x.1)) (sym (append_assoc front n (segment_rows x.0)))
regroup front n (Err f) = refl

pub no_rows_yet : (count : ℕ) (bytes : List ℕ) → with_rows [] (times segment_at (count - 0) bytes) ≡ seen segment_rows (times segment_at count) bytes
unfolding seen
no_rows_yet count bytes =
    let k : count - 0 ≡ count = omega arith in
    rw k refl

pub rows_go_on : (front : List Charge) (count i : ℕ) (bytes : List ℕ) (n : List Charge) (after : List ℕ) (total : Result (List Charge × List ℕ) ℕ) → i < count → segment_at bytes ≡ Ok (n, after)
    → with_rows front (times segment_at (count - i) bytes) ≡ total → with_rows (front ++ n) (times segment_at (count - (i + 1)) after) ≡ total
unfolding times
rows_go_on front count i bytes n after total lt h so_far =
    let k : count - i ≡ suc (count - (i + 1)) = omega arith in
    let one : with_rows front (times segment_at (count - i) bytes) ≡ with_rows (front ++ n) (times segment_at (count - (i + 1)) after) = rw (k, h) (regroup front n (times segment_at (count - (i + 1)) after)) in
    sym one ∙ so_far

pub rows_end : (e : ReadError) (front : List Charge) (count i : ℕ) (bytes : List ℕ) (total : Result (List Charge × List ℕ) ℕ) → i < count → Fails e (segment_at bytes)
    → with_rows front (times segment_at (count - i) bytes) ≡ total → Fails e total
unfolding times
rows_end errors.NoMemory front count i bytes total lt h so_far = tt
rows_end (errors.Corrupt f) front count i bytes total lt h so_far =
    let k : count - i ≡ suc (count - (i + 1)) = omega arith in
    let one : with_rows front (times segment_at (count - i) bytes) ≡ Err f = rw (k, h) refl in
    sym so_far ∙ one

pub rows_are_done : (front : List Charge) (count i : ℕ) (bytes : List ℕ) (total : Result (List Charge × List ℕ) ℕ) → count ≤ i → with_rows front (times segment_at (count - i) bytes) ≡ total → total ≡ Ok (front, bytes)
unfolding times
rows_are_done front count i bytes total le so_far =
    let k : count - i ≡ 0 = omega arith in
    let one : with_rows front (times segment_at (count - i) bytes) ≡ Ok (front, bytes) = rw k (ap (λ (rows : List Charge). Ok (rows, bytes)) (append-nil front)) in
    sym so_far ∙ one
