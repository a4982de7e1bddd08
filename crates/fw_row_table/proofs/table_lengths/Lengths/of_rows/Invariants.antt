use Rattle.std.proofs.Common.{◌≡◌, ◌≤◌, ◌+◌, ◌*◌, ◌^◌, ℕ, length, take}
use Rattle.std.specs.List.{flat_map}
use Rattle.fw_charge.specs.Spelling.{row}
use Rattle.fw_row_table.specs.Table.{rows_of}
use Rattle.fw_row_table.specs.declared.table.Table.{Table}
use Rattle.fw_row_table.proofs.table_lengths.Lengths.of_rows.Given as goal

-- the bytes of the rows from the first one on and before the n-th
pub record IsLen (len : ℕ) (t : Table) (first n : ℕ) : Type 0 where
  pub value : length (flat_map row (take first (rows_of t))) + len ≡ length (flat_map row (take n (rows_of t)))
  pub few : len ≤ 2 ^ 35 * n

abbrev pub invariant-loop-place : goal.invariant-loop-place
invariant-loop-place l = IsLen l.len l.table l.first l.place
