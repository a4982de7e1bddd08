-- Lists whose first element passes a test or fails it, and entries that are numbered.
use Rattle.std.proofs.Common.{◌≡◌, ◌+◌, ◌∙◌, ℕ, List, [], ◌∷◌, Bool, true, false, cond, if◌then◌else◌, filter, refl, ap}
use Rattle.std.specs.Str.{bytes_eq}
use Rattle.fw_entry.specs.Entry.{EntryValue}
use Rattle.fw_compact.specs.Compacted.{with_number, one_more_of, numbered}

pub passes : {A : Type 0} (p : A → Bool) (x : A) (xs : List A) → p x ≡ true → filter p (x ∷ xs) ≡ x ∷ filter p xs
passes p x xs h = ap (λ b. cond b (x ∷ filter p xs) (filter p xs)) h

pub fails : {A : Type 0} (p : A → Bool) (x : A) (xs : List A) → p x ≡ false → filter p (x ∷ xs) ≡ filter p xs
fails p x xs h = ap (λ b. cond b (x ∷ filter p xs) (filter p xs)) h

-- entries are numbered alike where as many come before them
pub numbered_alike : (f g : List ℕ → ℕ) → ((origin : List ℕ) → f origin ≡ g origin) → (es : List EntryValue) → numbered f es ≡ numbered g es
unfolding numbered
numbered_alike f g same [] = refl
numbered_alike f g same (e ∷ es) =
    ap (λ n. with_number (n + 1) e ∷ numbered (one_more_of e.origin f) es) (same e.origin)
    ∙ ap (λ rest. with_number (g e.origin + 1) e ∷ rest)
    (numbered_alike (one_more_of e.origin f) (one_more_of e.origin g) (λ origin. ap (λ n. n + (if bytes_eq origin e.origin then 1 else 0)) (same origin)) es)
