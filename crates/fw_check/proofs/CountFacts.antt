-- Counts in a map, and counts in a list.
use Rattle.std.proofs.Common.{◌≡◌, ℕ, suc, ◌+◌, ◌∙◌, sym, ap, subst, refl, arith, Bool, true, false, cond, not, List, [], ◌∷◌, Some, map, unwrap_or, zero-add}
use Rattle.std.specs.List.{position_or_len}
use Rattle.std.specs.Map.{keys_of, lookup}
use Rattle.indexmap.specs.IndexMap.{insert_entry, set_value_at}
use Rattle.fw_check.specs.Counts.{kept, counted}

-- A key is looked up among the entries of a map and set to n more: so it is counted n times more, whatever stands for the keys.
module _ {K T : Type 0} (view : K → T) (same : T → T → Bool) (key : K) (n : ℕ) where
  abbrev pub shown : List (K × ℕ) → List (T × ℕ)
  shown es = map (λ e. (view e.0, e.1)) es

  abbrev pub next_count : List (K × ℕ) → ℕ
  next_count es = kept (unwrap_or (lookup (λ q. same (view key) (view q)) es) 0 + n)

  abbrev pub IsCounted : List (K × ℕ) → Type 0
  IsCounted es = shown (insert_entry (λ a b. same (view a) (view b)) es key (next_count es)) ≡ counted same (view key) n (shown es)

  pub counted_in : (es : List (K × ℕ)) → IsCounted es
  counted_in [] = ap (λ m. (view key, kept m) ∷ []) (zero-add n)
  counted_in (e ∷ es) = by (same (view key) (view e.0)) refl (counted_in es)
    where
      by : (b : Bool) → same (view key) (view e.0) ≡ b → IsCounted es → IsCounted (e ∷ es)
      by true h rest = rw h refl
      by false h rest = rw h (ap (λ l. (view e.0, e.1) ∷ l) rest)

-- The count of a key that is there is set to n more where it stands: so the key is counted n times more.
module _ {K T : Type 0} (view : K → T) (same : T → T → Bool) (t : T) (n : ℕ) where
  abbrev pub is_key : K → Bool
  is_key q = same t (view q)

  abbrev pub IsCountedAt : List (K × ℕ) → ℕ → ℕ → Type 0
  IsCountedAt es i v =
      map (λ e. (view e.0, e.1)) (set_value_at es i (kept (v + n)))
      ≡ counted same t n (map (λ e. (view e.0, e.1)) es)

  pub counted_at : (es : List (K × ℕ)) (i v : ℕ) → position_or_len is_key (keys_of es) ≡ i
      → lookup is_key es ≡ Some v → IsCountedAt es i v
  counted_at [] i v place found = absurd (cc)
  counted_at (e ∷ es) i v place found =
      by (same t (view e.0)) refl (counted_at es (position_or_len is_key (keys_of es)) v refl)
    where
      later : ℕ
      later = position_or_len is_key (keys_of es)

      by : (b : Bool) → same t (view e.0) ≡ b → (lookup is_key es ≡ Some v → IsCountedAt es later v)
          → IsCountedAt (e ∷ es) i v
      by true h rest =
          let first : 0 ≡ i = sym (ap (λ b. cond (not b) (1 + later) 0) h) ∙ place in
          let is : Some e.1 ≡ Some v =
          sym (ap (λ b. cond b (Some e.1) (lookup is_key es)) h) ∙ found in
          let value : v ≡ e.1 = cc in
          subst (λ m. IsCountedAt (e ∷ es) m v) first
          (rw h (ap (λ w. (view e.0, kept (w + n)) ∷ map (λ e. (view e.0, e.1)) es) value))
      by false h rest =
          let next : 1 + later ≡ i = sym (ap (λ b. cond (not b) (1 + later) 0) h) ∙ place in
          let behind : suc later ≡ i = omega (arith, next) in
          let is : lookup is_key es ≡ Some v =
          sym (ap (λ b. cond b (Some e.1) (lookup is_key es)) h) ∙ found in
          subst (λ m. IsCountedAt (e ∷ es) m v) behind
          (rw h (ap (λ l. (view e.0, e.1) ∷ l) (rest is)))
