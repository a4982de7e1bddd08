use Rattle.std.proofs.Common.{◌≡◌, None, take}
use Rattle.std.specs.List.{find}
use Rattle.fw_owner.specs.Owned.{is_of}
use Rattle.fw_owner.proofs.owned.costs_among.Given as goal

abbrev pub invariant-loop-entry : goal.invariant-loop-entry
invariant-loop-entry l = find (is_of l.group) (take l.entry-index l.entries) ≡ None
