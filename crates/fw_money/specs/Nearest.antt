-- Rounding to the nearest whole number, a tie going to the even one.
use Rattle.std.specs.Prelude.{◌≡◌, ℕ, ◌+◌, ◌-◌, ◌*◌, ◌%◌, ◌≤◌}

-- how far two numbers are apart; `-` stops at 0
abbrev pub distance : ℕ → ℕ → ℕ
distance a b = (a - b) + (b - a)

-- n is the whole number nearest to `p/q`, where q is above 0: it is at most one half away, and where it is one half away, it is even
pub record IsNearest (n p q : ℕ) : Type 0 where
  pub near : 2 * distance (n * q) p ≤ q
  pub even : 2 * distance (n * q) p ≡ q → n % 2 ≡ 0
