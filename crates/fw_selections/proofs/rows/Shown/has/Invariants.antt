use Rattle.std.proofs.Common.{◌≡◌, false, take}
use Rattle.std.specs.List.{list_any}
use Rattle.fw_select.specs.Groups.{is_same}
use Rattle.fw_selections.proofs.rows.Shown.has.Given as goal

-- the groups so far are others
abbrev pub invariant-loop-other : goal.invariant-loop-other
invariant-loop-other l = list_any (λ other. is_same other.now.group l.fn.group.group) (take l.other-index l.other-items) ≡ false
