-- Entries that are taken from the front, each under its new number.
use Rattle.std.proofs.Common.{◌≡◌, ◌+◌, ◌∙◌, ℕ, List, [], ◌∷◌, true, if◌then◌else◌, refl, sym, ap}
use Rattle.std.specs.Str.{bytes_eq}
use Rattle.std.proofs.lemmas.Slice.Eq.{bytes_eq-Decides}
use Rattle.fw_entry.specs.Entry.{EntryValue}
use Rattle.fw_persistent.specs.Counts.{Counts, count_of}
use Rattle.fw_compact.specs.Compacted.{with_number, one_more_of, numbered}
use Rattle.fw_compact.proofs.ListFacts.{numbered_alike}

pub none_numbered : (count : List ℕ → ℕ) (list : List EntryValue) → list ≡ [] → numbered count list ≡ []
unfolding numbered
none_numbered count list none = ap (numbered count) none

counted_number : (before after : Counts) (origin : List ℕ) (n : ℕ) → ((other : List ℕ) → count_of other after ≡ count_of other before + (if bytes_eq other origin then 1 else 0))
    → n ≡ count_of origin after → n ≡ count_of origin before + 1
counted_number before after origin n more is =
    let itself : bytes_eq origin origin ≡ true = (bytes_eq-Decides origin origin).1 refl in
    is ∙ more origin ∙ ap (λ b. count_of origin before + (if b then 1 else 0)) itself

-- the first entry is taken, and counted
pub first_numbered : (before after : Counts) (list rest : List EntryValue) (e : EntryValue) (n : ℕ) → list ≡ e ∷ rest
    → ((other : List ℕ) → count_of other after ≡ count_of other before + (if bytes_eq other e.origin then 1 else 0)) → n ≡ count_of e.origin after
    → numbered (λ origin. count_of origin before) list ≡ with_number n e ∷ numbered (λ origin. count_of origin after) rest
unfolding numbered
first_numbered before after list rest e n is more number =
    ap (numbered (λ origin. count_of origin before)) is
    ∙ ap (λ k. with_number k e ∷ numbered (one_more_of e.origin (λ origin. count_of origin before)) rest) (sym (counted_number before after e.origin n more number))
    ∙ ap (λ others. with_number n e ∷ others)
    (sym (numbered_alike (λ origin. count_of origin after) (one_more_of e.origin (λ origin. count_of origin before)) more rest))
