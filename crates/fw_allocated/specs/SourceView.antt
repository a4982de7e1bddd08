-- The rows of lines that are lent.
use Rattle.std.specs.Prelude.{map}
use Rattle.fw_allocated.specs.LineRows.{LineRows}
use Rattle.fw_allocated.specs.declared.sources.LentLineRows.{LentLineRows}

abbrev pub line_rows_of : LentLineRows → LineRows
line_rows_of rows = record {
  given = map (λ r. r.now) rows.given.now;
  used = map (λ r. r.now) rows.used.now;
  rest = map (λ r. r.now) rows.rest.now;
}
