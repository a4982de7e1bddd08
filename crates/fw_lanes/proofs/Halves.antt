-- Masked sums of parts of lists, and sums of halves of lanes.
use Rattle.std.proofs.Common.{◌≡◌, ℕ, zero, suc, ◌+◌, ◌*◌, ◌/◌, ◌%◌, ◌^◌, ◌<◌, ◌≤◌, ℤ, pos, ◌+ℤ◌, Bool, false, List, [], ◌∷◌, length, take, get_or, map, arith, refl, bit_and, lit<}
use Rattle.std.specs.Simd.Lanes.{sum_l, Each1}
use Rattle.std.proofs.Math.Nat.{div-add-mod}
use Rattle.std.proofs.lemmas.Nat.{and_mask, div_below}
use Rattle.std.specs.Int.{w64}
use Rattle.std.proofs.lemmas.Int.{ints, to_z-of_z}
use mir.Val.{SFits, to_z, of_z}
use Rattle.fw_lanes.specs.Halves.{lane_of, AreHalvesOf}
use Rattle.fw_lanes.specs.Masked.{kept_of, masked_sum_of}

-- one place more
masked_more : (values : List ℤ) (mask : List Bool) (i : ℕ) → i < length values → i < length mask → masked_sum_of (take (suc i) values) (take (suc i) mask) ≡ masked_sum_of (take i values) (take i mask) +ℤ kept_of (get_or values i (pos 0)) (get_or mask i false)
masked_more [] mask i h k = absurd (omega arith)
masked_more (v ∷ values) [] i h k = absurd (omega arith)
masked_more (v ∷ values) (b ∷ mask) zero h k = omega (arith, ints)
masked_more (v ∷ values) (b ∷ mask) (suc i) h k = omega (arith, ints, masked_more values mask i (omega arith) (omega arith))

pub masked_next : (values : List ℤ) (mask : List Bool) (i j : ℕ) → j ≡ i + 1 → i < length values → i < length mask → masked_sum_of (take j values) (take j mask) ≡ masked_sum_of (take i values) (take i mask) +ℤ kept_of (get_or values i (pos 0)) (get_or mask i false)
masked_next values mask i j e h k = rw (let e' : j ≡ suc i = omega arith in e') (masked_more values mask i h k)

add_kept : (before after kept : ℤ) (r : ℕ) → after ≡ before +ℤ kept → pos r ≡ kept +ℤ pos (2 ^ 63) → before +ℤ pos r ≡ after +ℤ pos (2 ^ 63)
add_kept before after kept r e f = omega (arith, ints, e, f)

-- a lane takes the sum one place further
pub lane_next : (values : List ℤ) (mask : List Bool) (i j r : ℕ) → j ≡ i + 1 → i < length values → i < length mask → SFits w64 (get_or values i (pos 0)) → pos r ≡ lane_of (to_z w64 (of_z w64 (get_or values i (pos 0)))) (get_or mask i false) → masked_sum_of (take i values) (take i mask) +ℤ pos r ≡ masked_sum_of (take j values) (take j mask) +ℤ pos (2 ^ 63)
lane_next values mask i j r e h k fits is =
    add_kept _ _ (kept_of (get_or values i (pos 0)) (get_or mask i false)) r (masked_next values mask i j e h k) (simp to_z-of_z at is)

-- eight lanes take it eight places further
pub eight_lanes : (m0 m1 m2 m3 m4 m5 m6 m7 m8 : ℤ) (r0 r1 r2 r3 r4 r5 r6 r7 : ℕ) → m0 +ℤ pos r0 ≡ m1 +ℤ pos (2 ^ 63) → m1 +ℤ pos r1 ≡ m2 +ℤ pos (2 ^ 63) → m2 +ℤ pos r2 ≡ m3 +ℤ pos (2 ^ 63) → m3 +ℤ pos r3 ≡ m4 +ℤ pos (2 ^ 63) → m4 +ℤ pos r4 ≡ m5 +ℤ pos (2 ^ 63) → m5 +ℤ pos r5 ≡ m6 +ℤ pos (2 ^ 63) → m6 +ℤ pos r6 ≡ m7 +ℤ pos (2 ^ 63) → m7 +ℤ pos r7 ≡ m8 +ℤ pos (2 ^ 63) → m0 +ℤ pos (r0 + (r1 + (r2 + (r3 + (r4 + (r5 + (r6 + (r7 + 0)))))))) ≡ m8 +ℤ pos (8 * 2 ^ 63)
eight_lanes m0 m1 m2 m3 m4 m5 m6 m7 m8 r0 r1 r2 r3 r4 r5 r6 r7 s0 s1 s2 s3 s4 s5 s6 s7 = omega (arith, ints)

-- a number adds its halves, where it adds itself
pub halves_more : (values values' : List ℤ) (mask mask' : List Bool) (i n low high lows highs whole : ℕ) → AreHalvesOf values mask i low high → 2 ^ 32 * highs + lows ≡ whole → lows ≤ n * 2 ^ 32 → highs ≤ n * 2 ^ 32 → masked_sum_of values mask +ℤ pos whole ≡ masked_sum_of values' mask' +ℤ pos (n * 2 ^ 63) → AreHalvesOf values' mask' (i + n) (low + lows) (high + highs)
halves_more values values' mask mask' i n low high lows highs whole h e lows_le highs_le more = record {
  sum = omega (arith, ints, h.sum, more, e);
  low_small = omega (arith, h.low_small, lows_le);
  high_small = omega (arith, h.high_small, highs_le);
}

pub lower_map : (ns : List ℕ) → map (λ n. bit_and n 4294967295) ns ≡ map (λ n. n % 2 ^ 32) ns
lower_map [] = refl
lower_map (n ∷ ns) = rw (and_mask n 32, lower_map ns) refl

pub halves_sum : (ns : List ℕ) → 2 ^ 32 * sum_l (map (λ n. n / 2 ^ 32) ns) + sum_l (map (λ n. n % 2 ^ 32) ns) ≡ sum_l ns
halves_sum [] = omega arith
halves_sum (n ∷ ns) = omega (arith, halves_sum ns, div-add-mod n (2 ^ 32))

pub lower_le : (ns : List ℕ) → sum_l (map (λ n. n % 2 ^ 32) ns) ≤ length ns * 2 ^ 32
lower_le [] = omega arith
lower_le (n ∷ ns) = omega (arith, lower_le ns)

pub upper_le : (ns : List ℕ) → Each1 (λ n. n < 2 ^ 64) ns → sum_l (map (λ n. n / 2 ^ 32) ns) ≤ length ns * 2 ^ 32
upper_le [] e = omega arith
upper_le (n ∷ ns) e = omega (arith, upper_le ns e.1, div_below n (2 ^ 32) (2 ^ 32) (lit< tt) e.0)

pub halves_of_one : (n : ℕ) → 2 ^ 32 * (n / 4294967296) + bit_and n 4294967295 ≡ n
halves_of_one n = rw (and_mask n 32) (div-add-mod n (2 ^ 32))

pub lower_one : (n : ℕ) → bit_and n 4294967295 ≤ 1 * 2 ^ 32
lower_one n = rw (and_mask n 32) (omega arith)

pub upper_one : (n : ℕ) → n < 2 ^ 64 → n / 4294967296 ≤ 1 * 2 ^ 32
upper_one n h = omega (arith, div_below n (2 ^ 32) (2 ^ 32) (lit< tt) h)

pub same_sum : (r m : ℤ) (at count n : ℕ) → at ≡ count → r +ℤ pos (count * 2 ^ 63) ≡ pos n → pos n ≡ m +ℤ pos (at * 2 ^ 63) → r ≡ m
same_sum r m at count n e f g = omega (arith, ints, f, g, e)
