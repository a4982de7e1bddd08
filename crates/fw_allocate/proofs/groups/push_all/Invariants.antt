use Rattle.std.proofs.Common.{◌≡◌, ◌++◌, take, map}
use Rattle.fw_allocate.specs.GiftView.{texts}
use Rattle.fw_allocate.proofs.groups.push_all.Given as goal

abbrev pub invariant-loop-target : goal.invariant-loop-target
invariant-loop-target l = texts l.groups.items ≡ texts l.fn.groups.items ++ map (λ t. t.group) (take l.target-index l.targets)
