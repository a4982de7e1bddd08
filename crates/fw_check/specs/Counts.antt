-- How often keys come.
use Rattle.std.specs.Prelude.{ℕ, ◌+◌, ◌-◌, ◌^◌, min, Bool, List, [], ◌∷◌, map, if◌then◌else◌, String, string_bytes}
use Rattle.std.specs.Str.{bytes_eq}
use Rattle.std.specs.declared.alloc.Global.{Global}

-- a count as it is kept: past the greatest number of 64 bits it stays there
abbrev pub kept : ℕ → ℕ
kept n = min n (2 ^ 64 - 1)

-- The counts after a key has come n times more. A key that came before keeps its place, and a new key goes last.
abbrev pub counted : {K : Type 0} → (K → K → Bool) → K → ℕ → List (K × ℕ) → List (K × ℕ)
counted same key n [] = (key, kept n) ∷ []
counted same key n (count ∷ counts) = if same key count.0 then (count.0, kept (count.1 + n)) ∷ counts else count ∷ counted same key n counts

-- the counts after each of these texts has come once more, in turn
abbrev pub counted_all : List (List ℕ) → List (List ℕ × ℕ) → List (List ℕ × ℕ)
counted_all [] counts = counts
counted_all (text ∷ texts) counts = counted_all texts (counted bytes_eq text 1 counts)

-- counts of texts, each text as its bytes
abbrev pub text_counts : List (String Global × ℕ) → List (List ℕ × ℕ)
text_counts counts = map (λ c. (string_bytes c.0, c.1)) counts
