-- Bytes that are read as a whole are one spelling, and each spelling is read so.
use Rattle.std.proofs.Common.{◌≡◌, ℕ, Bool, true, false, cond, eqb, List, [], ◌++◌, length, Result, Ok, Err, refl, sym, ap, subst, ◌∙◌}
use Rattle.std.proofs.lemmas.Bool.{eqb-true}
use Rattle.std.proofs.lemmas.List.{append-nil, nil_from_length}
use Rattle.fw_bytes.proofs.Laws.{IsBytes, IsFormat, bind_ok}
use Rattle.fw_entry_bytes.specs.Whole.{whole}

-- a test that was passed
passes : {A : Type 0} (b : Bool) (d : ℕ) (x y : A) → cond b (Ok x) (Err d) ≡ Ok y → (b ≡ true) × (x ≡ y)
passes true d x y e = (refl, cc)
passes false d x y e = absurd cc

-- what is read of all the bytes is spelled so, and has a spelling
pub whole_takes : {A : Type 0} {read : List ℕ → Result (A × List ℕ) ℕ} {spell : A → List ℕ} {Fits : A → Type 0} → IsFormat read spell Fits → (bytes : List ℕ) (x : A) → IsBytes bytes → whole read bytes ≡ Ok x → Fits x × (bytes ≡ spell x)
unfolding whole
whole_takes {A = A} {read = read} {spell = spell} {Fits = Fits} f bytes x is e =
    let b = bind_ok (read bytes) (λ y. cond (eqb (length y.1) 0) (Ok y.0) (Err (length y.1))) x e in
    let p = passes (eqb (length b.0.1) 0) (length b.0.1) b.0.0 x b.2 in
    let t = f.takes bytes b.0 is b.1 in
    let nothing : b.0.1 ≡ [] = nil_from_length b.0.1 (eqb-true _ _ p.0) in
    let all : bytes ≡ spell b.0.0 = t.0.parts ∙ ap (λ (r : List ℕ). spell b.0.0 ++ r) nothing ∙ append-nil (spell b.0.0) in
    subst (λ (v : A). Fits v × (bytes ≡ spell v)) p.1 (t.1, all)

-- what has a spelling is read of it
pub whole_again : {A : Type 0} {read : List ℕ → Result (A × List ℕ) ℕ} {spell : A → List ℕ} {Fits : A → Type 0} → IsFormat read spell Fits → (x : A) → Fits x → whole read (spell x) ≡ Ok x
unfolding whole
whole_again {read = read} {spell = spell} f x h =
    let e : read (spell x) ≡ Ok (x, []) = ap read (sym (append-nil (spell x))) ∙ f.again x [] h in
    rw e refl
