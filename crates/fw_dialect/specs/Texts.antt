-- The text in which each field of a CSV text is what it stands for.
use Rattle.std.specs.Prelude.{ℕ, suc, List, [], ◌∷◌, ◌++◌, Bool, true, false, ◌==◌, if◌then◌else◌, map, get_or, not, Option, Some, None}
use Rattle.csv.specs.Machine.{step, is_end, ends_at_end, field_after}
use Rattle.csv.specs.Reading.{default_config}
use Rattle.csv.specs.declared.parser.Action.{Action}
use Rattle.csv.specs.declared.parser.Action.TheVariants as act
use Rattle.csv.specs.declared.parser.State.{State}
use Rattle.csv.specs.declared.parser.State.TheVariants as st
use Rattle.fw_dialect.specs.Fields.{meaning, names_in, role_of}
use Rattle.fw_dialect.specs.declared.dialect.Dialect.{Dialect}
use Rattle.fw_dialect.specs.declared.role.Role.{Role}
use Rattle.fw_dialect.specs.declared.role.Role.TheVariants as role

-- a text with each quote doubled
abbrev pub doubled : List ℕ → List ℕ
doubled [] = []
doubled (b ∷ rest) = if b == 34 then 34 ∷ 34 ∷ doubled rest else b ∷ doubled rest

-- a text as a field within quotes
abbrev pub in_quotes : List ℕ → List ℕ
in_quotes text = 34 ∷ (doubled text ++ 34 ∷ [])

-- the bytes of a field: those that it has, unless it stands for something else
abbrev pub bytes_for : List ℕ → Option (List ℕ) → List ℕ
bytes_for bytes None = bytes
bytes_for bytes (Some text) = in_quotes text

-- a field of a column, which has these bytes and this text
abbrev pub field_for : List Role → ℕ → List ℕ → List ℕ → List ℕ
field_for roles column bytes text = bytes_for bytes (meaning (get_or roles column role.Other) text)

-- whether an action ends a field
abbrev pub ends_field : Action → Bool
ends_field act.Skip = false
ends_field act.Copy = false
ends_field act.EndField = true
ends_field act.EndRecord = true

-- the column of the field behind one that ended so
abbrev pub column_after : Action → ℕ → ℕ
column_after a column = if is_end a then 0 else suc column

-- whether a byte that did this is in no field, where the reader stands so behind it: the end of an empty line
abbrev pub is_outside : Action → State → Bool
is_outside act.Skip s = not (ends_at_end s)
is_outside act.Copy s = false
is_outside act.EndField s = false
is_outside act.EndRecord s = false

-- A text with each field rewritten, read from the state s on. `bytes` and `text` are the field so far, in a column. Between fields each byte stays:
-- commas, line ends and empty lines.
unfoldable pub rewritten_from : List Role → State → ℕ → List ℕ → List ℕ → List ℕ → List ℕ
rewritten_from roles s column bytes text [] = field_for roles column bytes text
rewritten_from roles s column bytes text (b ∷ rest) =
    if ends_field (step default_config s b).1 then field_for roles column bytes text ++ b ∷ rewritten_from roles (step default_config s b).0 (column_after (step default_config s b).1 column) [] [] rest
    else if is_outside (step default_config s b).1 (step default_config s b).0 then b ∷ rewritten_from roles (step default_config s b).0 column [] [] rest
    else rewritten_from roles (step default_config s b).0 column (bytes ++ b ∷ []) (field_after (step default_config s b).1 b text) rest

-- the records of a text, under a header with these columns, with each field rewritten
abbrev pub rewritten_under : List Role → List ℕ → List ℕ
rewritten_under roles text = rewritten_from roles st.StartRecord 0 [] [] text

-- a header and the records behind it, with each field of these rewritten
abbrev pub rewritten : Dialect → List ℕ → List ℕ → List ℕ
rewritten dialect header body = header ++ rewritten_under (map (role_of dialect) (names_in header)) body
