-- Where a frame stands first in a list of bytes, and where none does.
use Rattle.std.proofs.Common.{◌≡◌, ℕ, ◌+◌, ◌≤◌, ◌<◌, List, [], ◌∷◌, ◌++◌, length, get_or, take, drop, refl, sym, ◌∙◌, ap, arith, append_assoc, length-append, length-take, take-append-drop}
use Rattle.std.proofs.lemmas.List.{take_at, drop_at, drop_more, drop-drop}
use Rattle.std.specs.Int.{to_le_bytes}
use Rattle.std.specs.Int.Width.{w32}
use Rattle.fw_journal.specs.Frames.{sized, open_frame, IsBroken}
use Rattle.fw_journal.proofs.Spelling.{length-sized, HasNoFrame}

pub short_no_frame : (bytes : List ℕ) → length bytes < 5 → HasNoFrame bytes
short_no_frame bytes short payload rest fit is =
    omega (arith, ap (λ (l : List ℕ). length l) is, length-append (open_frame payload) rest, length-sized payload, fit.0)

-- the four bytes behind the gate spell no length that a payload can have here
pub unfit_no_frame : (bytes : List ℕ)
    → ((n : ℕ) → 1 ≤ n → n ≤ 8388608 → n ≤ length (drop 5 bytes) → take 4 (drop 1 bytes) ≡ to_le_bytes w32 n → ⊥)
    → HasNoFrame bytes
unfolding sized
unfit_no_frame bytes unfit payload rest fit is =
    let n = length payload in
    let size : List ℕ = to_le_bytes w32 n in
    let behind : drop 1 bytes ≡ size ++ (payload ++ rest) = ap (λ (l : List ℕ). drop 1 l) is ∙ append_assoc size payload rest in
    let after : drop 5 bytes ≡ payload ++ rest = sym (drop-drop 4 1 bytes) ∙ ap (λ (l : List ℕ). drop 4 l) behind ∙ drop_at size (payload ++ rest) 4 refl in
    unfit n fit.0 fit.1
    (omega (arith, ap (λ (l : List ℕ). length l) after, length-append payload rest))
    (ap (λ (l : List ℕ). take 4 l) behind ∙ take_at size (payload ++ rest) 4 refl)

-- behind an open gate the four bytes spell a length, and there are as many bytes behind these
pub frame_found : (bytes : List ℕ) (n : ℕ) → 5 ≤ length bytes → get_or bytes 0 0 ≡ 1 → take 4 (drop 1 bytes) ≡ to_le_bytes w32 n
    → n ≤ length (drop 5 bytes) → bytes ≡ open_frame (take n (drop 5 bytes)) ++ drop n (drop 5 bytes)
unfolding sized
frame_found bytes n long gate size within =
    let payload = take n (drop 5 bytes) in
    let rest = drop n (drop 5 bytes) in
    let len : length payload ≡ n = omega (arith, length-take n (drop 5 bytes)) in
    let sized_is : to_le_bytes w32 (length payload) ≡ take 4 (drop 1 bytes) = ap (λ (k : ℕ). to_le_bytes w32 k) len ∙ sym size in
    let behind : drop 1 bytes ≡ take 4 (drop 1 bytes) ++ drop 5 bytes =
    sym (take-append-drop 4 (drop 1 bytes)) ∙ ap (λ (l : List ℕ). take 4 (drop 1 bytes) ++ l) (drop-drop 4 1 bytes) in
    let first : bytes ≡ 1 ∷ drop 1 bytes = drop_more bytes 0 0 (omega (arith, long)) ∙ ap (λ (b : ℕ). b ∷ drop 1 bytes) gate in
    first
    ∙ ap (λ (l : List ℕ). 1 ∷ l) (behind
    ∙ ap (λ (l : List ℕ). l ++ drop 5 bytes) (sym sized_is)
    ∙ ap (λ (l : List ℕ). to_le_bytes w32 (length payload) ++ l) (sym (take-append-drop n (drop 5 bytes)))
    ∙ sym (append_assoc (to_le_bytes w32 (length payload)) payload rest))

-- the four bytes behind the gate, one by one
pub four : (bytes : List ℕ) → 5 ≤ length bytes
    → take 4 (drop 1 bytes) ≡ get_or (take 5 bytes) 1 0 ∷ get_or (take 5 bytes) 2 0 ∷ get_or (take 5 bytes) 3 0 ∷ get_or (take 5 bytes) 4 0 ∷ []
four [] long = absurd (omega arith)
four (a ∷ []) long = absurd (omega arith)
four (a ∷ b ∷ []) long = absurd (omega arith)
four (a ∷ b ∷ c ∷ []) long = absurd (omega arith)
four (a ∷ b ∷ c ∷ d ∷ []) long = absurd (omega arith)
four (a ∷ b ∷ c ∷ d ∷ e ∷ rest) long = refl

-- the first byte, where it was read with others into the front of a list
pub gate_read : (bytes into more : List ℕ) → 1 ≤ length into → into ≡ take (length into) bytes → get_or bytes 0 0 ≡ get_or (into ++ more) 0 0
gate_read bytes [] more some is = absurd (omega arith)
gate_read [] (x ∷ into) more some is = absurd (cc)
gate_read (b ∷ bytes) (x ∷ into) more some is =
    let same : b ≡ x = cc in
    same

five : (into more : List ℕ) → 5 ≤ length into
    → get_or into 1 0 ∷ get_or into 2 0 ∷ get_or into 3 0 ∷ get_or into 4 0 ∷ [] ≡ get_or (into ++ more) 1 0 ∷ get_or (into ++ more) 2 0 ∷ get_or (into ++ more) 3 0 ∷ get_or (into ++ more) 4 0 ∷ []
five [] more long = absurd (omega arith)
five (a ∷ []) more long = absurd (omega arith)
five (a ∷ b ∷ []) more long = absurd (omega arith)
five (a ∷ b ∷ c ∷ []) more long = absurd (omega arith)
five (a ∷ b ∷ c ∷ d ∷ []) more long = absurd (omega arith)
five (a ∷ b ∷ c ∷ d ∷ e ∷ rest) more long = refl

-- the four bytes behind it
pub size_read : (bytes into more : List ℕ) → length into ≡ 5 → into ≡ take (length into) bytes
    → take 4 (drop 1 bytes) ≡ get_or (into ++ more) 1 0 ∷ get_or (into ++ more) 2 0 ∷ get_or (into ++ more) 3 0 ∷ get_or (into ++ more) 4 0 ∷ []
size_read bytes into more long is =
    let same : into ≡ take 5 bytes = is ∙ ap (λ (k : ℕ). take k bytes) long in
    four bytes (omega (arith, ap (λ (l : List ℕ). length l) same, length-take 5 bytes))
    ∙ ap (λ (l : List ℕ). get_or l 1 0 ∷ get_or l 2 0 ∷ get_or l 3 0 ∷ get_or l 4 0 ∷ []) (sym same)
    ∙ five into more (omega (arith, long))

open_gate : (bytes : List ℕ) → get_or bytes 0 0 ≡ 1 → (gate : ℕ) (rest : List ℕ) → bytes ≡ gate ∷ rest → gate ≡ 1
open_gate bytes is_open gate rest is = sym (ap (λ (l : List ℕ). get_or l 0 0) is) ∙ is_open

pub broken_short : (bytes : List ℕ) → get_or bytes 0 0 ≡ 1 → length bytes < 5 → IsBroken bytes
broken_short bytes is_open short = record { no_closed_gate = open_gate bytes is_open; no_frame = short_no_frame bytes short }

pub broken_unfit : (bytes : List ℕ) → get_or bytes 0 0 ≡ 1
    → ((n : ℕ) → 1 ≤ n → n ≤ 8388608 → n ≤ length (drop 5 bytes) → take 4 (drop 1 bytes) ≡ to_le_bytes w32 n → ⊥) → IsBroken bytes
broken_unfit bytes is_open unfit = record { no_closed_gate = open_gate bytes is_open; no_frame = unfit_no_frame bytes unfit }

-- the payload behind the gate and its length
pub payload_read : (file seen payload rest into : List ℕ) (gate : ℕ) → seen ≡ file → drop gate file ≡ open_frame payload ++ rest
    → length into ≡ length payload → into ≡ take (length into) (drop (gate + 5) seen) → into ≡ payload
unfolding sized
payload_read file seen payload rest into gate same frame long is =
    let size : List ℕ = to_le_bytes w32 (length payload) in
    let behind : drop (gate + 5) file ≡ payload ++ rest =
    sym (drop-drop 5 gate file)
    ∙ ap (λ (l : List ℕ). drop 5 l) frame
    ∙ ap (λ (l : List ℕ). drop 4 l) (append_assoc size payload rest)
    ∙ drop_at size (payload ++ rest) 4 refl in
    is
    ∙ ap (λ (k : ℕ). take k (drop (gate + 5) seen)) long
    ∙ ap (λ (l : List ℕ). take (length payload) (drop (gate + 5) l)) same
    ∙ ap (λ (l : List ℕ). take (length payload) l) behind
    ∙ take_at payload rest (length payload) refl

-- bytes that take the place of all of a list
pub written_back : (into items : List ℕ) (n : ℕ) → length into ≡ n → take n (into ++ drop (length into) items) ≡ into
written_back into items n long = take_at into (drop (length into) items) n long
