-- What the reading of a row relies on. The private functions of the crate cite it.
use Rattle.std.specs.Prelude.{◌<◌, ◌≤◌, ℕ, pos, nat_abs, length, slice_index_or, All}
use Rattle.fw_money.specs.Amount.{most_nanos}
use Rattle.fw_charge.specs.Tags.{IsTags}
use Rattle.fw_row_table.specs.Table.{tags_of, list_at}
use Rattle.fw_row_table.specs.declared.table.Table.{Table}

-- the columns have a row at a place
pub record HasRow (t : Table) (place : ℕ) : Type 0 where
  pub billed : place < length t.billed.items
  pub effective : place < length t.effective.items
  pub categories : place < length t.categories.items
  pub classes : place < length t.classes.items
  pub starts : place < length t.starts.items
  pub ends : place < length t.ends.items
  pub discounts : place < length t.discounts.items
  pub kinds : place < length t.kinds.items
  pub statuses : place < length t.statuses.items
  pub quantities : place < length t.quantities.items
  pub has_quantity : place < length t.has_quantity.items
  pub units : place < length t.units.items
  pub skus : place < length t.skus.items
  pub sub_accounts : place < length t.sub_accounts.items
  pub tags : place < length t.tags.items
  pub billed_range : nat_abs (slice_index_or t.billed.items place (pos 0)) ≤ most_nanos
  pub effective_range : nat_abs (slice_index_or t.effective.items place (pos 0)) ≤ most_nanos
  pub quantity_range : nat_abs (slice_index_or t.quantities.items place (pos 0)) ≤ most_nanos
  pub discount : slice_index_or t.discounts.items place 0 ≤ length t.names
  pub unit : slice_index_or t.units.items place 0 ≤ length t.names
  pub sku : slice_index_or t.skus.items place 0 ≤ length t.names
  pub sub_account : slice_index_or t.sub_accounts.items place 0 ≤ length t.names
  pub list : slice_index_or t.tags.items place 0 < length t.lists
  pub list_within : All (λ place. place < length t.names) (list_at t place)
  pub list_tags : IsTags (tags_of t.names (list_at t place))
