use Rattle.std.proofs.Common.{◌≡◌, [], ℕ, get_or, length, map}
use Rattle.fw_row_table.specs.Texts.{names_of}
use Rattle.fw_sums.specs.Hours.{lent}
use Rattle.fw_sums.specs.Listed.{AreOffersByCode}
use Rattle.fw_sums.proofs.listed.Listed.of_segments.Given as goal

-- the segments so far are looked up
abbrev pub invariant-loop-segment : goal.invariant-loop-segment
invariant-loop-segment l = record {
  each : (k : ℕ) → AreOffersByCode l.roster (names_of (get_or (lent l.segments) k [])) (get_or (map (λ found. found.items) l.by_code.items) k []);
  many : length l.by_code.items ≡ l.segment-index;
}
