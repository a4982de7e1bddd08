-- How rows are spelled by column.
use Rattle.std.specs.Prelude.{ℕ, ◌+◌, Bool, true, false, List, ◌∷◌, ◌++◌, length, map, is_some}
use Rattle.std.specs.List.{flat_map}
use Rattle.fw_bytes.specs.Spelling.{number32, number64, text, listed}
use Rattle.fw_charge.specs.Charge.{Charge}
use Rattle.fw_charge.specs.Codes.{category_code, class_code}
use Rattle.fw_charge.specs.Spelling.{nanos}
use Rattle.fw_charge.specs.Tags.{TagText}
use Rattle.fw_row_table.specs.Codes.{text_code}
use Rattle.fw_row_table.specs.Names.{Text, place_of}
use Rattle.fw_row_table.specs.Table.{id_kept, kind_kept, status_kept, quantity_kept}
use Rattle.fw_row_table.specs.Texts.{names_of}

-- ---- columns, each with a value for each row. A text that may be null is the code 0 where it is null, else 1 more than its place in the names

-- costs, categories and classes
unfoldable pub amounts : List Charge → List ℕ
amounts rows =
    flat_map (λ c. nanos c.billed) rows
    ++ (flat_map (λ c. nanos c.effective) rows
    ++ (map (λ c. category_code c.category) rows
    ++ map (λ c. class_code c.is_correction) rows))

-- the first seconds, and the seconds after the periods
unfoldable pub periods : List Charge → List ℕ
periods rows = flat_map (λ c. number64 c.start) rows ++ flat_map (λ c. number64 c.end) rows

-- the ids of discounts, the codes of their kinds and those of their statuses; without a discount all three are 0
unfoldable pub discounts : List Text → List Charge → List ℕ
discounts names rows =
    flat_map (λ c. number32 (id_kept names c.discount)) rows
    ++ (map (λ c. kind_kept c.discount) rows
    ++ map (λ c. status_kept c.discount) rows)

unfoldable pub flag : Bool → ℕ
flag false = 0
flag true = 1

-- whether each row has a quantity, and the quantities, 0 where it is null
unfoldable pub quantities : List Charge → List ℕ
quantities rows = map (λ c. flag (is_some c.quantity)) rows ++ flat_map (λ c. nanos (quantity_kept c.quantity)) rows

-- units, SKUs and sub-accounts
unfoldable pub texts : List Text → List Charge → List ℕ
texts names rows =
    flat_map (λ c. number32 (text_code names c.unit)) rows
    ++ (flat_map (λ c. number32 (text_code names c.sku)) rows
    ++ flat_map (λ c. number32 (text_code names c.sub_account)) rows)

-- the code of a text among names
abbrev pub code : List Text → Text → List ℕ
code names one = number32 (1 + place_of names one)

-- a tag: the codes of its key and of its text
abbrev pub tag : List Text → TagText → List ℕ
tag names t = code names t.key ++ code names t.value

-- the tags of each row: their number, and each in turn
unfoldable pub tags : List Text → List Charge → List ℕ
tags names rows = flat_map (λ c. listed (tag names) c.tags) rows

-- ---- rows

-- the layout of rows that are kept by column
abbrev pub layout : ℕ
layout = 2

-- rows by column: the layout, the number of rows, the names, and the columns one after another
unfoldable pub columns : List Charge → List ℕ
columns rows =
    let names = names_of rows in
    layout
    ∷ (number32 (length rows)
    ++ (listed text names
    ++ (amounts rows
    ++ (periods rows
    ++ (discounts names rows
    ++ (quantities rows
    ++ (texts names rows
    ++ tags names rows)))))))
