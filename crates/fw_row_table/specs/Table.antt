-- The columns of rows, and the rows of columns.
use Rattle.std.specs.Prelude.{◌≡◌, ◌≤◌, ◌*◌, ℕ, zero, suc, ℤ, pos, nat_abs, Bool, true, false, List, [], ◌∷◌, length, map, slice_index_or, Option, Some, None, option_map, is_some, unwrap_or, All}
use Rattle.std.specs.List.{range_with_len}
use Rattle.fw_money.specs.Amount.{most_nanos}
use Rattle.fw_charge.specs.Tags.{TagText}
use Rattle.fw_charge.specs.Charge.{Charge, DiscountText, IsCharge}
use Rattle.fw_charge.specs.declared.category.Category.{Category}
use Rattle.fw_charge.specs.declared.category.Category.TheVariants as category
use Rattle.fw_charge.specs.declared.discount.DiscountKind.{DiscountKind}
use Rattle.fw_charge.specs.declared.discount.DiscountKind.TheVariants as kind
use Rattle.fw_row_table.specs.Names.{Text, place_of}
use Rattle.fw_row_table.specs.Texts.{names_of, with_texts, most_texts}
use Rattle.fw_row_table.specs.Lists.{lists_of}
use Rattle.fw_charge.specs.Codes.{category_code, category_of, class_code, class_of, kind_code, kind_of, status_code, status_of}
use Rattle.fw_row_table.specs.Codes.{text_code}
use Rattle.fw_row_table.specs.declared.table.Table.{Table}

-- what a discount that may be null is kept as: the code of its id, and those of its kind and of its status
abbrev pub id_kept : List Text → Option DiscountText → ℕ
id_kept names discount = text_code names (option_map (λ d. d.id) discount)

unfoldable pub kind_kept : Option DiscountText → ℕ
kind_kept None = 0
kind_kept (Some d) = kind_code (Some d.kind)

unfoldable pub status_kept : Option DiscountText → ℕ
status_kept None = 0
status_kept (Some d) = status_code d.status

-- a quantity that may be null, as a number beside whether it is there
unfoldable pub quantity_kept : Option ℤ → ℤ
quantity_kept None = pos 0
quantity_kept (Some quantity) = quantity

-- the most rows of columns
abbrev pub most_column_rows : ℕ
most_column_rows = 65536

-- the columns of rows
pub record AreColumns (t : Table) (rows : List Charge) : Type 0 where
  pub few : length rows ≤ most_column_rows
  pub charges : All IsCharge rows
  pub names : t.names ≡ names_of rows
  pub names_few : length t.names ≤ most_texts * length rows
  pub lists : t.lists ≡ with_texts [] (lists_of t.names rows)
  pub lists_few : length t.lists ≤ length rows
  pub billed : t.billed.items ≡ map (λ c. c.billed) rows
  pub effective : t.effective.items ≡ map (λ c. c.effective) rows
  pub billed_range : All (λ n. nat_abs n ≤ most_nanos) t.billed.items
  pub effective_range : All (λ n. nat_abs n ≤ most_nanos) t.effective.items
  pub categories : t.categories.items ≡ map (λ c. category_code c.category) rows
  pub classes : t.classes.items ≡ map (λ c. class_code c.is_correction) rows
  pub starts : t.starts.items ≡ map (λ c. pos c.start) rows
  pub ends : t.ends.items ≡ map (λ c. c.end) rows
  pub discounts : t.discounts.items ≡ map (λ c. id_kept t.names c.discount) rows
  pub kinds : t.kinds.items ≡ map (λ c. kind_kept c.discount) rows
  pub statuses : t.statuses.items ≡ map (λ c. status_kept c.discount) rows
  pub quantities : t.quantities.items ≡ map (λ c. quantity_kept c.quantity) rows
  pub quantities_range : All (λ n. nat_abs n ≤ most_nanos) t.quantities.items
  pub has_quantity : t.has_quantity.items ≡ map (λ c. is_some c.quantity) rows
  pub units : t.units.items ≡ map (λ c. text_code t.names c.unit) rows
  pub skus : t.skus.items ≡ map (λ c. text_code t.names c.sku) rows
  pub sub_accounts : t.sub_accounts.items ≡ map (λ c. text_code t.names c.sub_account) rows
  pub tags : t.tags.items ≡ map (place_of t.lists) (lists_of t.names rows)

-- what codes stand for. The columns of rows have the codes of categories, of classes and of kinds alone; any other counts as an adjustment,
-- as no correction, and as a kind of use
abbrev pub category_at : ℕ → Category
category_at code = unwrap_or (category_of code) category.Adjustment

abbrev pub class_at : ℕ → Bool
class_at code = unwrap_or (class_of code) false

abbrev pub kind_at : ℕ → DiscountKind
kind_at code = unwrap_or (kind_of code) kind.Usage

unfoldable pub text_at : List Text → ℕ → Text
text_at names place = slice_index_or names place []

unfoldable pub text_of : List Text → ℕ → Option Text
text_of names zero = None
text_of names (suc place) = Some (text_at names place)

-- the discount with an id that may be null, and with the codes of its kind and of its status
unfoldable pub discount_of : Option Text → ℕ → ℕ → Option DiscountText
discount_of None k s = None
discount_of (Some id) k s = Some (record { id = id; kind = kind_at k; status = status_of s })

unfoldable pub quantity_of : Bool → ℤ → Option ℤ
quantity_of false quantity = None
quantity_of true quantity = Some quantity

unfoldable pub tag_of : List Text → ℕ → ℕ → TagText
tag_of names key value = record { key = text_at names key; value = text_at names value }

-- the tags that are kept as a list of places
unfoldable pub tags_of : List Text → List ℕ → List TagText
tags_of names [] = []
tags_of names (key ∷ []) = []
tags_of names (key ∷ value ∷ places) = tag_of names key value ∷ tags_of names places

-- what the tags of the row at a place are kept as
unfoldable pub list_at : Table → ℕ → List ℕ
list_at t place = slice_index_or t.lists (slice_index_or t.tags.items place 0) []

-- the row at a place of the columns
unfoldable pub charge_at : Table → ℕ → Charge
charge_at t place = record {
  billed = slice_index_or t.billed.items place (pos 0);
  effective = slice_index_or t.effective.items place (pos 0);
  category = category_at (slice_index_or t.categories.items place 0);
  is_correction = class_at (slice_index_or t.classes.items place 0);
  start = nat_abs (slice_index_or t.starts.items place (pos 0));
  end = slice_index_or t.ends.items place 0;
  discount = discount_of (text_of t.names (slice_index_or t.discounts.items place 0)) (slice_index_or t.kinds.items place 0) (slice_index_or t.statuses.items place 0);
  quantity = quantity_of (slice_index_or t.has_quantity.items place false) (slice_index_or t.quantities.items place (pos 0));
  unit = text_of t.names (slice_index_or t.units.items place 0);
  sku = text_of t.names (slice_index_or t.skus.items place 0);
  sub_account = text_of t.names (slice_index_or t.sub_accounts.items place 0);
  tags = tags_of t.names (list_at t place);
}

-- the rows of columns
unfoldable pub rows_of : Table → List Charge
rows_of t = map (charge_at t) (range_with_len 0 (length t.billed.items))
