-- The records of a text that is rewritten.
use Rattle.std.specs.Prelude.{◌≡◌, ℕ, suc, List, [], ◌∷◌, ◌++◌, map, get_or, unwrap_or}
use Rattle.csv.specs.Reading.{default_config, records, strip_bom}
use Rattle.fw_scan.specs.Places.{Record}
use Rattle.fw_dialect.specs.Fields.{meaning, names_in, role_of}
use Rattle.fw_dialect.specs.declared.dialect.Dialect.{Dialect}
use Rattle.fw_dialect.specs.declared.role.Role.{Role}
use Rattle.fw_dialect.specs.declared.role.Role.TheVariants as role

-- the text of a field of a column, rewritten: what it stands for, or the text itself where it stands for nothing else
abbrev pub field_rewritten : List Role → ℕ → List ℕ → List ℕ
field_rewritten roles column text = unwrap_or (meaning (get_or roles column role.Other) text) text

-- the fields from a column on, each rewritten
abbrev pub fields_rewritten : List Role → ℕ → Record → Record
fields_rewritten roles column [] = []
fields_rewritten roles column (text ∷ rest) = field_rewritten roles column text ∷ fields_rewritten roles (suc column) rest

-- a record under a header with these columns, with each field rewritten: as many fields, in the same order
abbrev pub record_rewritten : List Role → Record → Record
record_rewritten roles fields = fields_rewritten roles 0 fields

-- the records of a text that begins with no header
abbrev pub records_of : List ℕ → List Record
records_of text = records default_config text

-- the records of a text that begins with its header, with a byte order mark before it or without
abbrev pub records_with_header : List ℕ → List Record
records_with_header text = records_of (strip_bom text)

-- what the columns of a header have, in order
abbrev pub roles_of : Dialect → List ℕ → List Role
roles_of dialect header = map (role_of dialect) (names_in header)

-- records under a header, each rewritten, in order
abbrev pub records_rewritten : Dialect → List ℕ → List Record → List Record
records_rewritten dialect header rows = map (record_rewritten (roles_of dialect header)) rows

-- whatever stands behind the header begins a record
abbrev pub IsEndedHeader : List ℕ → Type 0
IsEndedHeader header = (more : List ℕ) → records_with_header (header ++ more) ≡ records_with_header header ++ records_of more
