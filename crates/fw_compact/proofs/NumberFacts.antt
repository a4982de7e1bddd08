-- The numbers of a compacted list.
use Rattle.std.proofs.Common.{◌≡◌, ◌+◌, ℕ, zero, suc, List, [], ◌∷◌, Bool, true, false, Some, cond, if◌then◌else◌, filter, length, map, slice_get, take, refl, ap, subst, arith}
use Rattle.std.specs.Str.{bytes_eq}
use Rattle.fw_entry.specs.Entry.{EntryValue}
use Rattle.fw_snapshot.specs.History.{entries_from}
use Rattle.fw_compact.specs.Compacted.{kept, with_number, one_more_of, numbered, compacted}

-- ---- but for its number, each is the same entry

same_but_numbers : (count : List ℕ → ℕ) (es : List EntryValue) → map (with_number 0) (numbered count es) ≡ map (with_number 0) es
unfolding numbered
same_but_numbers count [] = refl
same_but_numbers count (e ∷ es) = ap (λ rest. with_number 0 e ∷ rest) (same_but_numbers (one_more_of e.origin count) es)

pub same_entries : (es : List EntryValue) → map (with_number 0) (compacted es) ≡ map (with_number 0) (kept es)
unfolding compacted
same_entries es = same_but_numbers (λ origin. 0) (kept es)

-- ---- each number is the next of its origin

none_from : (origin : List ℕ) → entries_from origin [] ≡ 0
unfolding entries_from
none_from origin = refl

one_longer : (of_it : Bool) (e : EntryValue) (es : List EntryValue) → length (cond of_it (e ∷ es) es) ≡ (if of_it then 1 else 0) + length es
one_longer true e es = omega arith
one_longer false e es = omega arith

first_from : (origin : List ℕ) (e : EntryValue) (es : List EntryValue) → entries_from origin (e ∷ es) ≡ (if bytes_eq origin e.origin then 1 else 0) + entries_from origin es
unfolding entries_from
first_from origin e es = one_longer (bytes_eq origin e.origin) e (filter (λ x. bytes_eq origin x.origin) es)

abbrev IsNumber : (List ℕ → ℕ) → List EntryValue → EntryValue → Type 0
IsNumber count before e = e.seq ≡ count e.origin + entries_from e.origin before + 1

numbers_from : (count : List ℕ → ℕ) (es : List EntryValue) (place : ℕ) (e : EntryValue) → slice_get (numbered count es) place ≡ Some e → IsNumber count (take place (numbered count es)) e
unfolding numbered
numbers_from count [] place e at = absurd (cc)
numbers_from count (x ∷ es) zero e at =
    let same : with_number (count x.origin + 1) x ≡ e = cc in
    let none = none_from x.origin in
    let first : IsNumber count [] (with_number (count x.origin + 1) x) = omega arith in
    subst (IsNumber count []) same first
numbers_from count (x ∷ es) (suc place) e at =
    let rest = numbers_from (one_more_of x.origin count) es place e at in
    let one = first_from e.origin (with_number (count x.origin + 1) x) (take place (numbered (one_more_of x.origin count) es)) in
    omega arith

pub numbers_in_turn : (es : List EntryValue) (place : ℕ) (e : EntryValue) → slice_get (compacted es) place ≡ Some e → e.seq ≡ entries_from e.origin (take place (compacted es)) + 1
unfolding compacted
numbers_in_turn es place e at = let number = numbers_from (λ origin. 0) (kept es) place e at in omega arith
