-- What is digested tells the currency and each entry.
use Rattle.std.proofs.Common.{◌≡◌, ◌≢◌, ◌⊎◌, ◌∙◌, ◌+◌, ◌<◌, ◌++◌, ℕ, zero, suc, Bool, true, false, List, [], ◌∷◌, All, Ok, Result, inl, inr, length, refl, sym, ap, arith, append-nil, append_assoc, length-append}
use Rattle.std.specs.List.{flat_map}
use Rattle.std.specs.Int.{w32, w64, to_le_bytes}
use Rattle.std.specs.Str.{bytes_eq}
use Rattle.sha2.specs.Sha256.{sha256}
use Rattle.std.proofs.lemmas.List.Elements.{All-head, All-tail}
use Rattle.std.proofs.lemmas.Slice.Eq.{bytes_eq-Decides}
use Rattle.fw_entry.specs.Entry.{EntryValue}
use Rattle.fw_entry.specs.Spelling.{IsEntry, command, entry}
use Rattle.fw_entry_bytes.specs.Reading.{entry_at}
use Rattle.fw_entry_bytes.specs.declared.form.Form.TheVariants as form
use Rattle.fw_snapshot.specs.History.{History}
use Rattle.fw_digest.specs.Digests.{IsCollision, IsWarehouse, digest_of, message}

-- the bytes of one more entry go behind those of the others
pub spelled_more : (es : List EntryValue) (e : EntryValue) → flat_map entry (es ++ e ∷ []) ≡ flat_map entry es ++ entry e
spelled_more [] e = append-nil (entry e)
spelled_more (x ∷ es) e = ap (λ (bytes : List ℕ). entry x ++ bytes) (spelled_more es e) ∙ sym (append_assoc (entry x) (flat_map entry es) (entry e))

-- ---- entries are told apart

entry_some : (e : EntryValue) → 0 < length (entry e)
unfolding entry
entry_some e =
    let rest = to_le_bytes w64 e.seq ++ command e.command in
    let front = to_le_bytes w32 (length e.origin) ++ e.origin in
    let all : length (entry e) ≡ length front + length rest = length-append front rest in
    let some : length front ≡ 4 + length e.origin =
    length-append (to_le_bytes w32 (length e.origin)) e.origin in
    omega (arith, all, some)

none_left : (e : EntryValue) (rest : List ℕ) → [] ≡ entry e ++ rest → ⊥
none_left e rest same =
    let all = length-append (entry e) rest in
    let none : 0 ≡ length (entry e ++ rest) = ap length same in
    let some = entry_some e in
    omega arith

-- what reads the bytes of an entry as that entry, whatever follows them
abbrev pub Reads : Type 0
Reads = (rest : List ℕ) (e : EntryValue) → IsEntry e → entry_at form.Two (entry e ++ rest) ≡ Ok (e, rest)

read_once : (r : Result (EntryValue × List ℕ) ℕ) (x y : EntryValue × List ℕ) → r ≡ Ok x → r ≡ Ok y → x ≡ y
read_once r x y first second = cc

first_one : Reads → (e f : EntryValue) (rest more : List ℕ) → IsEntry e → IsEntry f → entry e ++ rest ≡ entry f ++ more → (e ≡ f) × (rest ≡ more)
first_one reads e f rest more one other same =
    let both = read_once (entry_at form.Two (entry e ++ rest)) (e, rest) (f, more) (reads rest e one) (ap (λ (bytes : List ℕ). entry_at form.Two bytes) same ∙ reads more f other) in
    (ap (λ (x : EntryValue × List ℕ). x.0) both, ap (λ (x : EntryValue × List ℕ). x.1) both)

entries_one : Reads → (es fs : List EntryValue) → All IsEntry es → All IsEntry fs → flat_map entry es ≡ flat_map entry fs → es ≡ fs
entries_one reads [] [] es_keep fs_keep same = refl
entries_one reads [] (f ∷ fs) es_keep fs_keep same = absurd (none_left f (flat_map entry fs) same)
entries_one reads (e ∷ es) [] es_keep fs_keep same = absurd (none_left e (flat_map entry es) (sym same))
entries_one reads (e ∷ es) (f ∷ fs) es_keep fs_keep same =
    let first = first_one reads e f (flat_map entry es) (flat_map entry fs) (All-head IsEntry e es es_keep) (All-head IsEntry f fs fs_keep) same in
    let rest = entries_one reads es fs (All-tail IsEntry e es es_keep) (All-tail IsEntry f fs fs_keep) first.1 in
    ap (λ (x : EntryValue). x ∷ es) first.0 ∙ ap (λ (l : List EntryValue). f ∷ l) rest

-- ---- warehouses are told apart

-- lists that are as long and begin two equal lists are one, and so are what follows them
parts_one : (a b rest more : List ℕ) → length a ≡ length b → a ++ rest ≡ b ++ more → (a ≡ b) × (rest ≡ more)
parts_one [] [] rest more long same = (refl, same)
parts_one [] (y ∷ b) rest more long same = absurd (cc)
parts_one (x ∷ a) [] rest more long same = absurd (cc)
parts_one (x ∷ a) (y ∷ b) rest more long same =
    let shorter : length a ≡ length b = omega (arith, long) in
    let tails : a ++ rest ≡ b ++ more = cc in
    let heads : x ≡ y = cc in
    let both = parts_one a b rest more shorter tails in
    (ap (λ (n : ℕ). n ∷ a) heads ∙ ap (λ (l : List ℕ). y ∷ l) both.0, both.1)

pub message_one : Reads → (a b : History) → IsWarehouse a → IsWarehouse b → message a ≡ message b → a ≡ b
unfolding message
message_one reads a b one other same =
    let parts = parts_one a.currency b.currency (flat_map entry a.entries) (flat_map entry b.entries) (one.letters ∙ sym other.letters) same in
    let entries = entries_one reads a.entries b.entries one.each other.each parts.1 in
    ap (λ (c : List ℕ). record { currency = c; entries = a.entries }) parts.0 ∙ ap (λ (es : List EntryValue). record { currency = b.currency; entries = es }) entries

-- ---- what digests show

pub digest_same : (a b : History) → a ≡ b → digest_of a ≡ digest_of b
digest_same a b same = ap digest_of same

pub digest_other : (a b : History) → digest_of a ≢ digest_of b → a ≢ b
digest_other a b differ same = differ (digest_same a b same)

falsely : (b : Bool) → b ≡ false → b ≡ true → ⊥
falsely b is_not is = cc

-- lists are one, or they aren't
one_or_not : (m n : List ℕ) (is : Bool) → bytes_eq m n ≡ is → (m ≡ n) ⊎ (m ≢ n)
one_or_not m n true e = inl ((bytes_eq-Decides m n).0 e)
one_or_not m n false e = inr (λ same. falsely (bytes_eq m n) e ((bytes_eq-Decides m n).1 same))

shown : (A : Type 0) (m n : List ℕ) → (m ≡ n → A) → sha256 m ≡ sha256 n → (m ≡ n) ⊎ (m ≢ n) → A ⊎ IsCollision m n
shown A m n one same (inl is) = inl (one is)
shown A m n one same (inr differ) = inr (record { differ = differ; same = same })

pub digest_equal : Reads → (a b : History) → IsWarehouse a → IsWarehouse b → digest_of a ≡ digest_of b → (a ≡ b) ⊎ IsCollision (message a) (message b)
unfolding digest_of
digest_equal reads a b one other same =
    shown (a ≡ b) (message a) (message b) (message_one reads a b one other) same
    (one_or_not (message a) (message b) (bytes_eq (message a) (message b)) refl)
