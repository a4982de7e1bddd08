-- More formats that are put together from formats: a field whose format the value before it decides.
use Rattle.std.proofs.Common.{◌≡◌, ℕ, List, [], ◌∷◌, ◌++◌, Result, Ok, refl, sym, ap, ◌∙◌, subst, append_assoc}
use Rattle.fw_bytes.specs.Reading.{◌>>=◌, seen}
use Rattle.fw_bytes.proofs.Laws.{IsFormat, Takes, Takes-then, bind_ok, ok_is}
use Rattle.fw_terms_bytes.specs.Reading.{then_by, of_kind}

pub then_by_format : {A B : Type 0} {read : List ℕ → Result (A × List ℕ) ℕ} {spell : A → List ℕ} {Fits : A → Type 0} {next : A → List ℕ → Result (B × List ℕ) ℕ} {spells : A → B → List ℕ} {Fit : A → B → Type 0}
    → IsFormat read spell Fits → ((a : A) → IsFormat (next a) (spells a) (Fit a)) → IsFormat (then_by read next) (λ x. spell x.0 ++ spells x.0 x.1) (λ x. Fits x.0 × Fit x.0 x.1)
unfolding then_by
then_by_format {A = A} {B = B} {read = read} {spell = spell} {Fits = Fits} {next = next} {spells = spells} {Fit = Fit} f g = record {
  takes = λ bytes x is e.
      let a = bind_ok (read bytes) (λ x. next x.0 x.1 >>= λ y. Ok ((x.0, y.0), y.1)) x e in
      let b = bind_ok (next a.0.0 a.0.1) (λ y. Ok ((a.0.0, y.0), y.1)) x a.2 in
      let t = f.takes bytes a.0 is a.1 in
      let u = (g a.0.0).takes a.0.1 b.0 t.0.rest_fits b.1 in
      let made : (A × B) × List ℕ = ((a.0.0, b.0.0), b.0.1) in
      subst (λ (z : (A × B) × List ℕ). Takes bytes (spell z.0.0 ++ spells z.0.0 z.0.1) z.1 × (Fits z.0.0 × Fit z.0.0 z.0.1)) (ok_is made x b.2)
      (Takes-then bytes (spell a.0.0) a.0.1 (spells a.0.0 b.0.0) b.0.1 t.0 u.0, (t.1, u.1));
  again = λ x rest e.
      rw (append_assoc (spell x.0) (spells x.0 x.1) rest, f.again x.0 (spells x.0 x.1 ++ rest) e.0, (g x.0).again x.1 rest e.1) refl;
}

-- what stands behind the byte of its kind, where the byte has a format and what follows has one for each kind
pub kind_format : {K A : Type 0} {read : List ℕ → Result (K × List ℕ) ℕ} {Has : K → Type 0} {next : K → List ℕ → Result (A × List ℕ) ℕ} {spell : A → List ℕ} {Fits : A → Type 0} (code : K → ℕ) (kind_of : A → K)
    → IsFormat read (λ k. code k ∷ []) Has → ((k : K) → IsFormat (next k) spell (λ x. (kind_of x ≡ k) × Fits x))
    → IsFormat (of_kind read next) (λ x. code (kind_of x) ∷ spell x) (λ x. Has (kind_of x) × Fits x)
unfolding of_kind
kind_format {K = K} {A = A} {read = read} {Has = Has} {next = next} {spell = spell} {Fits = Fits} code kind_of g f = record {
  takes = λ bytes x is e.
      let k = bind_ok (read bytes) (λ y. next y.0 y.1) x e in
      let t = g.takes bytes k.0 is k.1 in
      let u = (f k.0.0).takes k.0.1 x t.0.rest_fits k.2 in
      let whole : Takes bytes (code k.0.0 ∷ spell x.0) x.1 = Takes-then bytes (code k.0.0 ∷ []) k.0.1 (spell x.0) x.1 t.0 u.0 in
      (subst (λ (y : K). Takes bytes (code y ∷ spell x.0) x.1) (sym u.1.0) whole, (subst Has (sym u.1.0) t.1, u.1.1));
  again = λ x rest h.
      rw (g.again (kind_of x) (spell x ++ rest) h.0) ((f (kind_of x)).again x rest (refl, h.1));
}

-- the same format, of values that are described in other words
pub told_format : {A : Type 0} {read : List ℕ → Result (A × List ℕ) ℕ} {spell : A → List ℕ} {Fits Fit : A → Type 0} → ((x : A) → Fits x → Fit x) → ((x : A) → Fit x → Fits x) → IsFormat read spell Fits → IsFormat read spell Fit
told_format to back f = record {
  takes = λ bytes x is e. let t = f.takes bytes x is e in (t.0, to x.0 t.1);
  again = λ x rest h. f.again x rest (back x h);
}

-- the format of one kind of values, where what is read is seen as a value of that kind
pub case_format : {A B : Type 0} {read : List ℕ → Result (A × List ℕ) ℕ} {spell : A → List ℕ} {Fits : A → Type 0} (view : A → B) (spells : B → List ℕ) (Fit : B → Type 0)
    → ((x : A) → spells (view x) ≡ spell x) → ((x : A) → Fits x → Fit (view x)) → ((y : B) → Fit y → (x : A) × (view x ≡ y) × Fits x) → IsFormat read spell Fits → IsFormat (seen view read) spells Fit
unfolding seen
case_format {A = A} {B = B} {read = read} {spell = spell} {Fits = Fits} view spells Fit same to back f = record {
  takes = λ bytes y is e.
      let b = bind_ok (read bytes) (λ x. Ok (view x.0, x.1)) y e in
      let t = f.takes bytes b.0 is b.1 in
      let made : B × List ℕ = (view b.0.0, b.0.1) in
      subst (λ (z : B × List ℕ). Takes bytes (spells z.0) z.1 × Fit z.0) (ok_is made y b.2) (subst (λ (s : List ℕ). Takes bytes s b.0.1) (sym (same b.0.0)) t.0, to b.0.0 t.1);
  again = λ y rest h.
      let x = back y h in
      let spelled : spells y ≡ spell x.0 = ap spells (sym x.1) ∙ same x.0 in
      rw (spelled, f.again x.0 rest x.2, x.1) refl;
}
