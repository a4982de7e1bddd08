-- How a masked sum is computed: 2^63 is added to each value, and halves of 32 bits are added up. The private functions of `masked_sum` cite it.
use Rattle.std.specs.Prelude.{◌≡◌, ℕ, ◌+◌, ◌*◌, ◌^◌, ◌≤◌, ℤ, pos, ◌+ℤ◌, Bool, List}
use Rattle.fw_lanes.specs.Masked.{kept_of, masked_sum_of}

-- the value, or 0, raised so that it has no sign
abbrev pub lane_of : ℤ → Bool → ℤ
lane_of value is_set = kept_of value is_set +ℤ pos (2 ^ 63)

-- the sum of so many lanes, as the sums of their lower and their upper halves
pub record AreHalvesOf (values : List ℤ) (mask : List Bool) (count low high : ℕ) : Type 0 where
  pub sum : pos (2 ^ 32 * high + low) ≡ masked_sum_of values mask +ℤ pos (count * 2 ^ 63)
  pub low_small : low ≤ count * 2 ^ 32
  pub high_small : high ≤ count * 2 ^ 32
