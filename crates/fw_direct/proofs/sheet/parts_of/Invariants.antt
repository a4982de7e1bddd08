use Rattle.std.proofs.Common.{◌≡◌, take}
use Rattle.std.specs.List.{AllZip}
use Rattle.std.specs.Option.{option_copied}
use Rattle.fw_direct.specs.Sheets.{IsChargedPart}
use Rattle.fw_direct.proofs.sheet.parts_of.Given as goal

-- the reports of the periods so far
abbrev pub invariant-loop-slot : goal.invariant-loop-slot
invariant-loop-slot l = AllZip (IsChargedPart (option_copied l.policy) l.key) (take l.slot-index l.slots) l.parts.items
