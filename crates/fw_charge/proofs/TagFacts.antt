-- What lists of tags keep.
use Rattle.std.proofs.Common.{[], arith}
use Rattle.std.specs.List.Sorted.{IsStrictlySortedBy}
use Rattle.fw_charge.specs.Tags.{IsTags}

-- no tags keep the rules of tags
pub no-tags : IsTags []
unfolding IsStrictlySortedBy
no-tags = record { rising = tt; few = omega arith; sized = λ k d lt. absurd (omega arith) }
