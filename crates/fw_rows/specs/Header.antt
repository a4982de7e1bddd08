-- Where the columns stand in a header. The private functions of the reader cite it.
use Rattle.std.specs.Prelude.{◌≡◌, ℕ, length, Option, None, slice_index_or}
use Rattle.fw_rows.specs.Columns.{Record, place_in, index_of}
use Rattle.fw_rows.specs.declared.column.Column.{Column}
use Rattle.fw_rows.specs.declared.header.Places.{Places}

-- where a column stands
abbrev pub place_of : Places → Column → Option ℕ
place_of places c = slice_index_or places.places (index_of c) None

-- the columns stand at these places of a header with so many fields
pub record ArePlaces (header : Record) (p : Places) : Type 0 where
  pub fields : p.fields ≡ length header
  pub places : (c : Column) → place_of p c ≡ place_in header c
