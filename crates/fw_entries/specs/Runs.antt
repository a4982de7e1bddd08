-- The rows of an entry, where they stand in segments.
use Rattle.std.specs.Prelude.{List, slice_range, take}
use Rattle.fw_charge.specs.Charge.{Charge}
use Rattle.fw_entries.specs.RowsLeft.{rows_left}
use Rattle.fw_entries.specs.declared.runs.Run.{Run}
use Rattle.fw_entries.specs.declared.runs.Runs.TheInside.{Inside}

-- the rows of a run
abbrev pub run_rows : Run → List Charge
run_rows run = slice_range run.columns.now run.first run.end

-- the rows that are left of an entry
abbrev pub rows_in : Inside → List Charge
rows_in r = take r.left (rows_left r.rows)
