-- The text of an amount, as it is put together.
use Rattle.std.proofs.Common.{◌≡◌, ℕ, ◌-◌, ◌^◌, false, List, [], ◌++◌, length, replicate, refl, arith, append-nil}
use Rattle.std.specs.Fmt.{padded_integral, format_spec, char_count}

sub_none : (n : ℕ) → n - 0 ≡ n
sub_none n = omega arith

-- a format of nine digits with zeros in front writes so many zeros and then the number
pub nine_is : (ds : List ℕ) → padded_integral (format_spec 32 0 4 9 (2 ^ 64 - 1)) false [] ds ≡ replicate (9 - length ds) 48 ++ ds
unfolding padded_integral char_count
nine_is ds = simp (append-nil, sub_none) refl
