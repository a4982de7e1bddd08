-- The rows that have the columns which were read. The private functions of the crate cite it.
use Rattle.std.specs.Prelude.{◌≡◌, ◌≤◌, ◌==◌, List, All, length, map, pos, is_some, string_bytes}
use Rattle.fw_charge.specs.Charge.{Charge, IsCharge}
use Rattle.fw_charge.specs.Codes.{category_code, class_code}
use Rattle.fw_columns.specs.Parts.{AreNumbered, lists_there}
use Rattle.fw_row_table.specs.Codes.{text_code}
use Rattle.fw_row_table.specs.Lists.{lists_of}
use Rattle.fw_row_table.specs.Names.{Text}
use Rattle.fw_row_table.specs.Table.{id_kept, kind_kept, status_kept, quantity_kept}
use Rattle.fw_row_table.specs.declared.table.Table.{Table}
use Rattle.fw_row_table.specs.Texts.{names_of}
use Rattle.fw_column_bytes.specs.Kept.{AreRows}
use Rattle.fw_column_bytes.specs.Reading.{Parts}
use Rattle.fw_column_bytes.specs.Spelling.{flag, layout}
use Rattle.fw_column_bytes.specs.declared.reading.PartsRead.{PartsRead}
use Rattle.fw_column_bytes.specs.declared.rows.Rewritten.{Rewritten}

-- the fields of rows
abbrev pub fields_of_rows : List Text → List Charge → Parts
fields_of_rows names rows = (
  (layout, (length rows, names)),
  (
    (map (λ c. c.billed) rows, (map (λ c. c.effective) rows, (map (λ c. category_code c.category) rows, map (λ c. class_code c.is_correction) rows))),
    (
      (map (λ c. c.start) rows, map (λ c. c.end) rows),
      (
        (map (λ c. id_kept names c.discount) rows, (map (λ c. kind_kept c.discount) rows, map (λ c. status_kept c.discount) rows)),
        (
          (map (λ c. flag (is_some c.quantity)) rows, map (λ c. quantity_kept c.quantity) rows),
          ((map (λ c. text_code names c.unit) rows, (map (λ c. text_code names c.sku) rows, map (λ c. text_code names c.sub_account) rows)), lists_of names rows),
        ),
      ),
    ),
  ),
)

-- rows, each of which keeps its rules, have these columns
pub record AreColumnsOf (p : Parts) (rows : List Charge) : Type 0 where
  pub charges : All IsCharge rows
  pub fields : p ≡ fields_of_rows (names_of rows) rows

-- no rows, 1 to 65,536 of them that each have a spelling, have these columns
abbrev pub HaveNoRows : Parts → Type 0
HaveNoRows p = (rows : List Charge) → AreRows rows → ¬ AreColumnsOf p rows

-- names, first seconds and flags as rows keep them, of what was read
pub record IsRewritten (w : PartsRead) (k : Rewritten) : Type 0 where
  pub names : k.names ≡ map string_bytes w.front.names.items
  pub starts : k.starts.items ≡ map pos w.body.periods.starts.items
  pub has_quantity : k.has_quantity.items ≡ map (λ byte. byte == 1) w.body.quantities.are_there.items

-- a table whose columns are those that were read, but for how names, first seconds, flags and lists of tags are kept
pub record AreReadIn (t : Table) (w : PartsRead) : Type 0 where
  pub names : t.names ≡ map string_bytes w.front.names.items
  pub few : length t.lists ≤ length t.tags.items
  pub numbered : AreNumbered t.lists t.tags.items (lists_there t.lists t.tags.items)
  pub tags : lists_there t.lists t.tags.items ≡ w.body.tags
  pub billed : t.billed.items ≡ w.body.amounts.billed.items
  pub effective : t.effective.items ≡ w.body.amounts.effective.items
  pub categories : t.categories.items ≡ w.body.amounts.categories.items
  pub classes : t.classes.items ≡ w.body.amounts.classes.items
  pub starts : t.starts.items ≡ map pos w.body.periods.starts.items
  pub ends : t.ends.items ≡ w.body.periods.ends.items
  pub discounts : t.discounts.items ≡ w.body.discounts.ids.items
  pub kinds : t.kinds.items ≡ w.body.discounts.kinds.items
  pub statuses : t.statuses.items ≡ w.body.discounts.statuses.items
  pub has_quantity : t.has_quantity.items ≡ map (λ byte. byte == 1) w.body.quantities.are_there.items
  pub quantities : t.quantities.items ≡ w.body.quantities.counts.items
  pub units : t.units.items ≡ w.body.texts.units.items
  pub skus : t.skus.items ≡ w.body.texts.skus.items
  pub sub_accounts : t.sub_accounts.items ≡ w.body.texts.sub_accounts.items
