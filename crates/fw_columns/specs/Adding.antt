-- What one more row adds to columns. The private functions of the crate cite it.
use Rattle.std.specs.Prelude.{◌≡◌, ◌≤◌, ℕ, pos, nat_abs, List, [], ◌∷◌, ◌++◌, option_copied, option_to_list, is_some}
use Rattle.fw_money.specs.Amount.{most_nanos}
use Rattle.fw_charge.specs.Codes.{category_code, class_code}
use Rattle.fw_row_table.specs.Names.{Text}
use Rattle.fw_row_table.specs.Codes.{text_code}
use Rattle.fw_row_table.specs.Lending.{discount_with}
use Rattle.fw_row_table.specs.Table.{kind_kept, status_kept, quantity_kept}
use Rattle.fw_columns.specs.declared.adding.TextCodes.{TextCodes}
use Rattle.fw_row_table.specs.declared.lending.RowView.{RowView}
use Rattle.fw_row_table.specs.declared.table.Table.{Table}

-- the texts of a row but those of its tags
unfoldable pub texts_of_view : RowView → List Text
texts_of_view row = option_to_list (option_copied row.discount) ++ (option_to_list (option_copied row.unit) ++ (option_to_list (option_copied row.sku) ++ option_to_list (option_copied row.sub_account)))

-- codes are those of the texts of a row
pub record AreCodesOf (names : List Text) (row : RowView) (codes : TextCodes) : Type 0 where
  pub discount : codes.discount ≡ text_code names (option_copied row.discount)
  pub unit : codes.unit ≡ text_code names (option_copied row.unit)
  pub sku : codes.sku ≡ text_code names (option_copied row.sku)
  pub sub_account : codes.sub_account ≡ text_code names (option_copied row.sub_account)

-- each column has one value more: those of a row, these codes of its texts, and this place of its list of tags
pub record HasMore (old new : Table) (row : RowView) (codes : TextCodes) (list : ℕ) : Type 0 where
  pub names : new.names ≡ old.names
  pub lists : new.lists ≡ old.lists
  pub billed : new.billed.items ≡ old.billed.items ++ row.billed ∷ []
  pub effective : new.effective.items ≡ old.effective.items ++ row.effective ∷ []
  pub billed_range : nat_abs row.billed ≤ most_nanos
  pub effective_range : nat_abs row.effective ≤ most_nanos
  pub categories : new.categories.items ≡ old.categories.items ++ category_code row.category ∷ []
  pub classes : new.classes.items ≡ old.classes.items ++ class_code row.is_correction ∷ []
  pub starts : new.starts.items ≡ old.starts.items ++ pos row.start ∷ []
  pub ends : new.ends.items ≡ old.ends.items ++ row.end ∷ []
  pub discounts : new.discounts.items ≡ old.discounts.items ++ codes.discount ∷ []
  pub kinds : new.kinds.items ≡ old.kinds.items ++ kind_kept (discount_with row.discount row.kind row.status) ∷ []
  pub statuses : new.statuses.items ≡ old.statuses.items ++ status_kept (discount_with row.discount row.kind row.status) ∷ []
  pub quantities : new.quantities.items ≡ old.quantities.items ++ quantity_kept row.quantity ∷ []
  pub quantity_range : nat_abs (quantity_kept row.quantity) ≤ most_nanos
  pub has_quantity : new.has_quantity.items ≡ old.has_quantity.items ++ is_some row.quantity ∷ []
  pub units : new.units.items ≡ old.units.items ++ codes.unit ∷ []
  pub skus : new.skus.items ≡ old.skus.items ++ codes.sku ∷ []
  pub sub_accounts : new.sub_accounts.items ≡ old.sub_accounts.items ++ codes.sub_account ∷ []
  pub tags : new.tags.items ≡ old.tags.items ++ list ∷ []
