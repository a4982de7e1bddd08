use Rattle.std.proofs.Common.{◌≡◌, map, take}
use Rattle.fw_columns.specs.Grouping.{found_code}
use Rattle.fw_columns.proofs.grouping.list_codes.Given as goal

abbrev pub invariant-loop-code : goal.invariant-loop-code
invariant-loop-code l = l.codes.items ≡ map (found_code l.key l.empty) (take l.code l.lists)
