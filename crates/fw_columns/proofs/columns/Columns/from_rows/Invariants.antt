use Rattle.std.proofs.Common.{◌≡◌, take}
use Rattle.fw_columns.proofs.columns.Columns.from_rows.Given as goal

-- the rows so far
abbrev pub invariant-loop-row : goal.invariant-loop-row
invariant-loop-row l = l.builder ≡ take l.row-index l.rows
