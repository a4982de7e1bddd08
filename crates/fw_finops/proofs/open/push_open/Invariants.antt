use Rattle.std.proofs.Common.{◌≡◌, ◌++◌, map, take}
use Rattle.std.specs.List.{flat_map}
use Rattle.fw_finops.specs.Lines.{open_lines_of}
use Rattle.fw_finops.proofs.open.push_open.Given as goal

abbrev pub invariant-loop-row : goal.invariant-loop-row
invariant-loop-row l =
    l.lines.items ≡ l.initial.lines.items ++ flat_map (open_lines_of l.commitments l.hour) (map (λ r. r.now) (take l.row-index l.rows))
