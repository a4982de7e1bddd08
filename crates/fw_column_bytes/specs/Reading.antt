-- How rows by column read: first each field, in its range, and then what the fields are together.
use Rattle.std.specs.Prelude.{◌-◌, ◌*◌, ◌==◌, ◌&&◌, ℕ, zero, suc, ℤ, pos, Bool, true, false, List, [], length, map, take, slice_index_or, Some, Ok, Err, nat_lt, nat_le, if◌then◌else◌}
use Rattle.std.specs.List.{list_all, range_with_len}
use Rattle.std.specs.Int.{w32}
use Rattle.std.specs.Str.{bytes_eq}
use Rattle.fw_bytes.specs.Reading.{Reading, ◌>>=◌, number_at, code_at, checked, both, seen, times, list_at}
use Rattle.fw_bytes.specs.Spelling.{within}
use Rattle.fw_charge.specs.Charge.{Charge}
use Rattle.fw_charge.specs.Codes.{kind_of, status_of, category_count}
use Rattle.fw_charge.specs.Spelling.{is_short}
use Rattle.fw_charge.specs.Tags.{most_tags}
use Rattle.fw_row_table.specs.Names.{Text}
use Rattle.fw_row_table.specs.Table.{category_at, class_at, text_at, text_of, quantity_of, tags_of, most_column_rows}
use Rattle.fw_fields.specs.Reading.{nanos_at, second_at, tag_text_at}
use Rattle.fw_fields.specs.Row.{Fields, fields_agree, row_from}
use Rattle.fw_column_bytes.specs.Spelling.{columns, layout}

-- ---- single fields

-- a byte from least to most
unfoldable pub byte_at : ℕ → ℕ → Reading ℕ
byte_at least most = checked (within least most) (code_at (λ b. Some b))

-- the code of a short text among the names, or 0
abbrev pub is_text_code : List Text → ℕ → Bool
is_text_code names zero = true
is_text_code names (suc place) = nat_lt place (length names) && is_short (text_at names place)

unfoldable pub text_code_at : List Text → Reading ℕ
text_code_at names = checked (is_text_code names) (number_at w32)

-- the code of one of the names, as its place
abbrev pub is_place_code : List Text → ℕ → Bool
is_place_code names zero = false
is_place_code names (suc place) = nat_lt place (length names)

unfoldable pub place_at : List Text → Reading ℕ
place_at names = seen (λ code. code - 1) (checked (is_place_code names) (number_at w32))

-- the tags of a row: their number, and for each the places of its key and of its text
unfoldable pub tag_count_at : Reading ℕ
tag_count_at = checked (λ n. nat_le n most_tags) (number_at w32)

unfoldable pub tag_places_at : List Text → Reading (List ℕ)
tag_places_at names bytes = do
  count ← tag_count_at bytes
  times (place_at names) (2 * count.0) count.1

-- ---- what stands in front of the columns: the layout, the number of rows, and the names

unfoldable pub row_count_at : Reading ℕ
row_count_at = checked (within 1 most_column_rows) (number_at w32)

-- of names there are as many as a number of four bytes can count
abbrev pub most_names : ℕ
most_names = 4294967295

unfoldable pub names_at : Reading (List Text)
names_at = list_at 0 most_names tag_text_at

abbrev pub Front : Type 0
Front = ℕ × (ℕ × List Text)

unfoldable pub front_at : Reading Front
front_at = both (byte_at layout layout) (both row_count_at names_at)

-- ---- the columns, in groups, each with a value for each of so many rows

-- costs, and the codes of categories and classes
abbrev pub Amounts : Type 0
Amounts = List ℤ × (List ℤ × (List ℕ × List ℕ))

unfoldable pub amounts_at : ℕ → Reading Amounts
amounts_at n = both (times nanos_at n) (both (times nanos_at n) (both (times (byte_at 1 category_count) n) (times (byte_at 0 1) n)))

abbrev pub Periods : Type 0
Periods = List ℕ × List ℕ

unfoldable pub periods_at : ℕ → Reading Periods
periods_at n = both (times second_at n) (times second_at n)

-- the codes of ids, kinds and statuses
abbrev pub Discounts : Type 0
Discounts = List ℕ × (List ℕ × List ℕ)

unfoldable pub discounts_at : List Text → ℕ → Reading Discounts
discounts_at names n = both (times (text_code_at names) n) (both (times (byte_at 0 2) n) (times (byte_at 0 2) n))

-- 1 where there is a quantity, and the quantities
abbrev pub Quantities : Type 0
Quantities = List ℕ × List ℤ

unfoldable pub quantities_at : ℕ → Reading Quantities
quantities_at n = both (times (byte_at 0 1) n) (times nanos_at n)

-- the codes of units, SKUs and sub-accounts
abbrev pub Texts : Type 0
Texts = List ℕ × (List ℕ × List ℕ)

unfoldable pub texts_at : List Text → ℕ → Reading Texts
texts_at names n = both (times (text_code_at names) n) (both (times (text_code_at names) n) (times (text_code_at names) n))

-- and the places of the texts of the tags of each row
abbrev pub Body : Type 0
Body = Amounts × (Periods × (Discounts × (Quantities × (Texts × List (List ℕ)))))

unfoldable pub body_at : List Text → ℕ → Reading Body
body_at names n =
    both (amounts_at n) (both (periods_at n) (both (discounts_at names n) (both (quantities_at n) (both (texts_at names n) (times (tag_places_at names) n)))))

abbrev pub Parts : Type 0
Parts = Front × Body

unfoldable pub parts_at : Reading Parts
parts_at bytes = do
  front ← front_at bytes
  body ← body_at front.0.1.1 front.0.1.0 front.1
  Ok ((front.0, body.0), body.1)

-- ---- rows

-- the fields of the row at a place
unfoldable pub fields_at_place : Parts → ℕ → Fields
fields_at_place p i =
    let names = p.0.1.1 in
    let amounts = p.1.0 in
    let periods = p.1.1.0 in
    let discounts = p.1.1.1.0 in
    let quantities = p.1.1.1.1.0 in
    let texts = p.1.1.1.1.1.0 in
    let tags = p.1.1.1.1.1.1 in (
      (slice_index_or amounts.0 i (pos 0), (slice_index_or amounts.1.0 i (pos 0), (category_at (slice_index_or amounts.1.1.0 i 0), class_at (slice_index_or amounts.1.1.1 i 0)))),
      (
        (slice_index_or periods.0 i 0, slice_index_or periods.1 i 0),
        (
          (text_of names (slice_index_or discounts.0 i 0), (kind_of (slice_index_or discounts.1.0 i 0), status_of (slice_index_or discounts.1.1 i 0))),
          (
            (
              quantity_of (slice_index_or quantities.0 i 0 == 1) (slice_index_or quantities.1 i (pos 0)),
              (text_of names (slice_index_or texts.0 i 0), (text_of names (slice_index_or texts.1.0 i 0), text_of names (slice_index_or texts.1.1 i 0))),
            ),
            tags_of names (slice_index_or tags i []),
          ),
        ),
      ),
    )

-- the fields of each row
unfoldable pub rows_fields : Parts → List Fields
rows_fields p = map (fields_at_place p) (range_with_len 0 p.0.1.0)

unfoldable pub rows_from : Parts → List Charge
rows_from p = map row_from (rows_fields p)

-- rows by column: the fields of each row agree, and these rows are spelled as it stands here, so that each of their texts is among the names once, in
-- the order in which it first occurs. Else all of it is a fault, at the layout
unfoldable pub columns_at : Reading (List Charge)
columns_at bytes = do
  p ← parts_at bytes
  if list_all fields_agree (rows_fields p.0) && bytes_eq (columns (rows_from p.0)) (take (length bytes - length p.1) bytes) then Ok (rows_from p.0, p.1) else Err (length bytes)
