use Rattle.std.proofs.Common.{◌≡◌, Bool, false, take}
use Rattle.std.specs.List.{list_any}
use Rattle.fw_sums.proofs.marks.has_mark.Given as goal

-- none of the marks so far is true
abbrev pub invariant-loop-mark : goal.invariant-loop-mark
invariant-loop-mark l = list_any (λ (mark : Bool). mark) (take l.mark-index l.mask) ≡ false
