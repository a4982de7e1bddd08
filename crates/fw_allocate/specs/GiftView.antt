-- The plain value of what a rule moves.
use Rattle.std.specs.Prelude.{◌≤◌, ◌^◌, List, ℕ, All, map, unsigned_abs}
use Rattle.std.specs.Borrow.{Bor}
use Rattle.fw_terms.specs.Texts.{IsRising}
use Rattle.fw_allocate.specs.Charges.{GiftValue}

-- the texts that were lent
abbrev pub texts : List (Bor (List ℕ)) → List (List ℕ)
texts lent = map (λ t. t.now) lent

-- no amount is past 10^19 nanos, and the receivers are in order
pub record IsGiftSized (gift : GiftValue) : Type 0 where
  pub given : unsigned_abs gift.given ≤ 10 ^ 19
  pub shares : All (λ s. unsigned_abs s ≤ 10 ^ 19) gift.shares
  pub rising : IsRising gift.groups
