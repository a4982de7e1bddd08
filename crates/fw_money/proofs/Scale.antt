-- A fraction scaled up or down has the same nearest whole number.
use Rattle.std.proofs.Common.{◌≡◌, ℕ, suc, ◌+◌, ◌-◌, ◌*◌, ◌^◌, ◌<◌, ◌≤◌, refl, sym, ap, ◌∙◌, arith, inl, inr}
use Rattle.std.proofs.Math.Nat.{pow-suc, mul-le-mul_right, mul-sub, le_of_mul-le-mul_right, one-le-pow, pow-le-pow_right}
use Rattle.std.proofs.lemmas.Nat.{pow-add}
use Rattle.std.proofs.lemmas.Bool.{cases_lt}
use Rattle.fw_money.specs.Nearest.{IsNearest, distance}

-- a distance scaled by s
distance-scale : (a b s : ℕ) → distance (a * s) (b * s) ≡ distance a b * s
distance-scale a b s = omega (arith, mul-sub s a b, mul-sub s b a)

-- a fraction whose two sides are scaled has the same nearest number
pub IsNearest-scale : (m v u s : ℕ) → 0 < s → IsNearest m v u → IsNearest m (v * s) (u * s)
IsNearest-scale m v u s some h =
    let turned : m * (u * s) ≡ m * u * s = omega arith in
    let apart : distance (m * (u * s)) (v * s) ≡ distance (m * u) v * s = rw turned (distance-scale (m * u) v s) in
    let near : 2 * distance (m * u) v * s ≤ u * s = mul-le-mul_right s h.near in
    record {
      near = rw apart (omega (arith, near));
      even = λ e.
          (let same : 2 * (distance (m * u) v * s) ≡ u * s = rw apart at e in
          h.even (omega (arith, le_of_mul-le-mul_right {m = u} {n = 2 * distance (m * u) v} {k = s} (omega (arith, same)) some, h.near)));
    }

-- a power of ten is above 0
pow_some : (k : ℕ) → 0 < 10 ^ k
pow_some k = omega (arith, one-le-pow k 10 (omega arith))

-- the same, at equal sides
pub IsNearest-to : (m v v' u u' : ℕ) → v ≡ v' → u ≡ u' → IsNearest m v u → IsNearest m v' u'
IsNearest-to m v v' u u' ev eu h = rw (← ev, ← eu) h

-- the places that both sides have go out
pub IsNearest-shift : (m d up down : ℕ) → IsNearest m (d * 10 ^ (up - down)) (10 ^ (down - up)) → IsNearest m (d * 10 ^ up) (10 ^ down)
IsNearest-shift m d up down h = elim (cases_lt up down) [
  | inl lt ↦ (let z : up - down ≡ 0 = omega arith in
      let p : down - up + up ≡ down = omega arith in
      let low : 10 ^ (down - up) * 10 ^ up ≡ 10 ^ down = sym (pow-add 10 (down - up) up) ∙ ap (λ k. 10 ^ k) p in
      let top : d * 10 ^ (up - down) * 10 ^ up ≡ d * 10 ^ up = rw z (omega arith) in
      IsNearest-to m _ _ _ _ top low (IsNearest-scale m _ _ (10 ^ up) (pow_some up) h))
  | inr le ↦ (let z : down - up ≡ 0 = omega arith in
      let p : up - down + down ≡ up = omega arith in
      let low : 10 ^ (down - up) * 10 ^ down ≡ 10 ^ down = rw z (omega arith) in
      let pow : 10 ^ (up - down) * 10 ^ down ≡ 10 ^ up = sym (pow-add 10 (up - down) down) ∙ ap (λ k. 10 ^ k) p in
      let inner : d * (10 ^ (up - down) * 10 ^ down) ≡ d * 10 ^ up = ap (λ x. d * x) pow in
      let top : d * 10 ^ (up - down) * 10 ^ down ≡ d * 10 ^ up = omega (arith, inner) in
      IsNearest-to m _ _ _ _ top low (IsNearest-scale m _ _ (10 ^ down) (pow_some down) h))
]

-- a number far below one half has zero nearest
pub IsNearest-zero : (d k up down : ℕ) → d < 10 ^ k → k < down - up → IsNearest 0 (d * 10 ^ up) (10 ^ down)
IsNearest-zero d k up down small far =
    let some : d * 10 ^ up ≤ 10 ^ k * 10 ^ up = mul-le-mul_right (10 ^ up) (omega arith) in
    let joined : 10 ^ k * 10 ^ up ≡ 10 ^ (k + up) = sym (pow-add 10 k up) in
    let more : 10 ^ suc (k + up) ≤ 10 ^ down = pow-le-pow_right (omega arith) (omega arith) in
    record { near = omega (arith, pow-suc 10 (k + up)); even = λ _. refl }

-- the digits of both parts, with zeros after them, that `dropped` places went from
pub IsNearest-digits : (m d more dropped up down v t : ℕ) → more ≡ up - down → dropped ≡ down - up → v ≡ d * 10 ^ more → t ≡ dropped
    → IsNearest m v (10 ^ t) → IsNearest m (d * 10 ^ up) (10 ^ down)
IsNearest-digits m d more dropped up down v t em ed ev et h =
    IsNearest-shift m d up down (IsNearest-to m _ _ _ _ (ev ∙ ap (λ k. d * 10 ^ k) em) (ap (λ k. 10 ^ k) (et ∙ ed)) h)
