-- Places that numbers tell apart.
use Rattle.std.specs.Prelude.{◌≡◌, ◌<◌, ℕ, List, length, slice_index_or}

-- of each two places with one new number, the old numbers are one, and so are the codes
pub record TellApart (old codes new : List ℕ) : Type 0 where
  pub long : length new ≡ length old
  pub apart : (p q : ℕ) → p < length old → q < length old → slice_index_or new p 0 ≡ slice_index_or new q 0
      → (slice_index_or old p 0 ≡ slice_index_or old q 0) × (slice_index_or codes p 0 ≡ slice_index_or codes q 0)
