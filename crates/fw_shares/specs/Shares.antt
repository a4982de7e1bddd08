-- Shares of a total by largest remainder: a relation between the total, the weights and the shares.
use Rattle.std.specs.Prelude.{◌≡◌, ℕ, ◌+◌, ◌*◌, ◌/◌, ◌%◌, ◌<◌, ◌≤◌, ◌⊎◌, List, length, sum, map, slice_index, ℤ, pos, negsuc, neg_ℤ, unsigned_abs}

-- the whole units that the weight at i has earned of n, and what it has earned beyond them
abbrev pub floor_at : ℕ → List ℕ → ℕ → ℕ
floor_at n ws i = n * slice_index ws i / sum ws

abbrev pub remainder_at : ℕ → List ℕ → ℕ → ℕ
remainder_at n ws i = n * slice_index ws i % sum ws

-- the share at i is the floor, or one more
abbrev pub IsPlain : ℕ → List ℕ → List ℕ → ℕ → Type 0
IsPlain n ws s i = slice_index s i ≡ floor_at n ws i

abbrev pub IsRaised : ℕ → List ℕ → List ℕ → ℕ → Type 0
IsRaised n ws s i = slice_index s i ≡ floor_at n ws i + 1

-- the shares of n over the weights ws, whose sum is above 0: one share for each weight, each plain or raised, which add up to n; no plain
-- share has a greater remainder than a raised one, and of two with equal remainders the raised one stands first
pub record IsShares (n : ℕ) (ws s : List ℕ) : Type 0 where
  pub one_each : length s ≡ length ws
  pub near : (i : ℕ) → i < length ws → IsPlain n ws s i ⊎ IsRaised n ws s i
  pub whole : sum s ≡ n
  pub largest : (i j : ℕ) → i < length ws → j < length ws → IsRaised n ws s i → IsPlain n ws s j → remainder_at n ws j ≤ remainder_at n ws i
  pub ties : (i j : ℕ) → i < length ws → j < length ws → IsRaised n ws s i → IsPlain n ws s j → remainder_at n ws j ≡ remainder_at n ws i → i ≤ j

-- a count with the sign of z
abbrev pub signed_as : ℤ → ℕ → ℤ
signed_as (pos _) n = pos n
signed_as (negsuc _) n = neg_ℤ (pos n)

-- weights of at least 0, as natural numbers
abbrev pub magnitudes : List ℤ → List ℕ
magnitudes zs = map unsigned_abs zs

-- the shares of a total of either sign: those of its absolute value, each with the sign of the total
pub record IsSharesOf (total : ℤ) (ws s : List ℤ) : Type 0 where
  pub counts : List ℕ
  pub signed : s ≡ map (signed_as total) counts
  pub shares : IsShares (unsigned_abs total) (magnitudes ws) counts
