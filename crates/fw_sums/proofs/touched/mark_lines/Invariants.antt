use Rattle.std.proofs.Common.{◌==◌, take}
use Rattle.std.specs.Prelude.{◌||◌}
use Rattle.std.specs.List.{list_any}
use Rattle.fw_charge.specs.Charge.{hour_of}
use Rattle.fw_cover.specs.Applies.{is_in_term}
use Rattle.fw_sums.specs.Hours.{AddsMarks}
use Rattle.fw_sums.proofs.touched.mark_lines.Given as goal

-- the hours of the term, and of the purchases so far
abbrev pub invariant-loop-purchase : goal.invariant-loop-purchase
invariant-loop-purchase l = AddsMarks (λ h. is_in_term l.commitment h || list_any (λ p. hour_of p.at == h) (take l.purchase-index l.purchase-items)) l.from l.fn.marks l.marks
