-- At most one list of shares: two that differ would each have a raised place that the other passed over.
use Rattle.std.proofs.Common.{◌≡◌, ℕ, zero, suc, ◌+◌, ◌<◌, ◌≤◌, ◌⊎◌, inl, inr, ⊎_elim, List, [], ◌∷◌, length, get_or, arith, refl, sym, ◌∙◌, ap, map, sum, ℤ, unsigned_abs}
use Rattle.std.proofs.lemmas.Bool.{cases_lt}
use Rattle.std.proofs.lemmas.List.Sums.{sum_by-cons}
use Rattle.fw_shares.specs.Shares.{IsShares, IsSharesOf, IsPlain, IsRaised, signed_as, magnitudes}

Below : List ℕ → List ℕ → Type 0
Below s t = (i : ℕ) × (i < length s) × (get_or s i 0 < get_or t i 0)

NoneBelow : List ℕ → List ℕ → Type 0
NoneBelow s t = (i : ℕ) → i < length s → get_or t i 0 ≤ get_or s i 0

below_or_none : (s t : List ℕ) → Below s t ⊎ NoneBelow s t
unfolding Below NoneBelow
below_or_none [] t = inr (λ i h. absurd (omega arith))
below_or_none (x ∷ s) [] = inr (λ i h. omega arith)
below_or_none (x ∷ s) (y ∷ t) = ⊎_elim
    (λ lt. inl (0, omega arith, lt))
    (λ ge. ⊎_elim
    (λ b. inl (suc b.0, omega (arith, b.1), b.2))
    (λ none. inr (no_head x y s t ge none))
    (below_or_none s t))
    (cases_lt x y)
  where
    no_head : (x y : ℕ) (s t : List ℕ) → y ≤ x → ((i : ℕ) → i < length s → get_or t i 0 ≤ get_or s i 0) → (i : ℕ) → i < suc (length s) → get_or (y ∷ t) i 0 ≤ get_or (x ∷ s) i 0
    no_head x y s t h none zero l = h
    no_head x y s t h none (suc i) l = none i (omega arith)

none_le : (s t : List ℕ) → length s ≡ length t → NoneBelow s t → sum t ≤ sum s
unfolding NoneBelow
none_le [] [] e none = omega arith
none_le [] (y ∷ t) e none = absurd (omega arith)
none_le (x ∷ s) [] e none = absurd (omega arith)
none_le (x ∷ s) (y ∷ t) e none =
    rw (sum_by-cons (λ z. z) x s, sum_by-cons (λ z. z) y t) (omega (arith, none 0 (omega arith), none_le s t (omega arith) (λ i l. none (suc i) (omega arith))))

same_where_none : (s t : List ℕ) → length s ≡ length t → sum s ≡ sum t → NoneBelow s t → s ≡ t
unfolding NoneBelow
same_where_none [] [] e f none = refl
same_where_none [] (y ∷ t) e f none = absurd (omega arith)
same_where_none (x ∷ s) [] e f none = absurd (omega arith)
same_where_none (x ∷ s) (y ∷ t) e f none =
    let rest : (i : ℕ) → i < length s → get_or t i 0 ≤ get_or s i 0 = λ i l. none (suc i) (omega arith) in
    let whole : x + sum s ≡ y + sum t = sym (sum_by-cons (λ z. z) x s) ∙ (f ∙ sum_by-cons (λ z. z) y t) in
    let below : sum t ≤ sum s = none_le s t (omega arith) rest in
    let head : y ≤ x = none 0 (omega arith) in
    let here : x ≡ y = omega arith in
    rw (here, same_where_none s t (omega arith) (omega arith) rest) refl

-- where s lies below t it is plain, and t is raised
plain_below : (n : ℕ) (ws s t : List ℕ) → IsShares n ws s → IsShares n ws t → (i : ℕ) → i < length ws → get_or s i 0 < get_or t i 0 → IsPlain n ws s i × IsRaised n ws t i
plain_below n ws s t a b i l h = ⊎_elim
    (λ p. ⊎_elim (λ q. absurd (omega (arith, p, q))) (λ q. (p, q)) (b.near i l))
    (λ r. ⊎_elim (λ q. absurd (omega (arith, r, q))) (λ q. absurd (omega (arith, r, q))) (b.near i l))
    (a.near i l)

pub shares_same : (n : ℕ) (ws s t : List ℕ) → IsShares n ws s → IsShares n ws t → s ≡ t
unfolding Below
shares_same n ws s t a b =
    let long : length s ≡ length t = omega (arith, a.one_each, b.one_each) in
    let sums : sum s ≡ sum t = omega (arith, a.whole, b.whole) in
    ⊎_elim
    (λ x. ⊎_elim
    (λ y.
    let xs = plain_below n ws s t a b x.0 (omega (arith, x.1, a.one_each)) x.2 in
    let ys = plain_below n ws t s b a y.0 (omega (arith, y.1, b.one_each)) y.2 in
    let lx : x.0 < length ws = omega (arith, x.1, a.one_each) in
    let ly : y.0 < length ws = omega (arith, y.1, b.one_each) in
    let one = a.largest y.0 x.0 ly lx ys.1 xs.0 in
    let two = b.largest x.0 y.0 lx ly xs.1 ys.0 in
    let three = a.ties y.0 x.0 ly lx ys.1 xs.0 (omega (arith, one, two)) in
    let four = b.ties x.0 y.0 lx ly xs.1 ys.0 (omega (arith, one, two)) in
    let same : x.0 ≡ y.0 = omega (arith, three, four) in
    absurd (omega (arith, x.2, rw (← same) at y.2)))
    (λ none. sym (same_where_none t s (sym long) (sym sums) none))
    (below_or_none t s))
    (λ none. same_where_none s t long sums none)
    (below_or_none s t)

pub signed_shares_same : (total : ℤ) (ws s t : List ℤ) → IsSharesOf total ws s → IsSharesOf total ws t → s ≡ t
signed_shares_same total ws s t a b =
    a.signed ∙ (ap (map (signed_as total)) (shares_same (unsigned_abs total) (magnitudes ws) a.counts b.counts a.shares b.shares) ∙ sym b.signed)
