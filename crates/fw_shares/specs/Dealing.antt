-- How a cut among the remainders deals out the units that the floors leave. The private functions of `share` cite it; what shares are is
-- said without it.
use Rattle.std.specs.Prelude.{◌≡◌, nat_lt, ◌==◌, count_by, Bool, take, sum_by, ℕ, ◌+◌, ◌*◌, ◌/◌, ◌%◌, ◌<◌, List, length, sum, slice_index, if◌then◌else◌}
use Rattle.fw_shares.specs.declared.hamilton.Cut.{Cut}

-- one unit more goes to a remainder above the cut, and to the first ties at it
abbrev pub is_above : ℕ → ℕ → Cut → ℕ → Bool
is_above n whole cut w = nat_lt cut.at (n * w % whole)

abbrev pub is_tie : ℕ → ℕ → Cut → ℕ → Bool
is_tie n whole cut w = n * w % whole == cut.at

abbrev pub is_early : ℕ → ℕ → List ℕ → Cut → ℕ → Bool
is_early n whole ws cut i = nat_lt (count_by (is_tie n whole cut) (take i ws)) cut.ties

-- one unit above the cut, and one at it while it is early
abbrev pub cut_unit : Bool → Bool → Bool → ℕ
cut_unit above tie early = if above then 1 else (if tie then (if early then 1 else 0) else 0)

abbrev pub extra_at : ℕ → ℕ → List ℕ → Cut → ℕ → ℕ
extra_at n whole ws cut i =
    let w = slice_index ws i in cut_unit (is_above n whole cut w) (is_tie n whole cut w) (is_early n whole ws cut i)

-- the shares that a cut deals out
pub record IsDealt (n whole : ℕ) (ws : List ℕ) (cut : Cut) (s : List ℕ) : Type 0 where
  pub one_each : length s ≡ length ws
  pub each : (i : ℕ) → i < length ws → slice_index s i ≡ n * slice_index ws i / whole + extra_at n whole ws cut i
  pub total : sum s ≡ sum_by (λ w. n * w / whole) ws + count_by (is_above n whole cut) ws + cut.ties
