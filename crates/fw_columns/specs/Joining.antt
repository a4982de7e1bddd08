-- What becomes of columns where further rows come behind. The private functions of the crate cite it.
use Rattle.std.specs.Prelude.{◌≡◌, ◌≤◌, ◌+◌, ℕ, zero, suc, List, ◌++◌, map, slice_index, All}
use Rattle.fw_row_table.specs.declared.table.Table.{Table}

-- places in one list, as places in another: for each place in the one there is that in the other
abbrev pub replaced : List ℕ → List ℕ → List ℕ
replaced places list = map (slice_index places) list

-- the same of the code of a text that may be null
unfoldable pub replaced_code : List ℕ → ℕ → ℕ
replaced_code places zero = 0
replaced_code places (suc place) = 1 + slice_index places place

-- each code is that of one of so many names
pub record AreCodesBelow (t : Table) (n : ℕ) : Type 0 where
  pub discounts : All (λ code. code ≤ n) t.discounts.items
  pub units : All (λ code. code ≤ n) t.units.items
  pub skus : All (λ code. code ≤ n) t.skus.items
  pub sub_accounts : All (λ code. code ≤ n) t.sub_accounts.items

-- the columns of a table with the values of another behind them: the codes of texts and the places of lists as they are now
pub record HasAll (old new other : Table) (of_texts of_lists : List ℕ) : Type 0 where
  pub names : new.names ≡ old.names
  pub lists : new.lists ≡ old.lists
  pub billed : new.billed.items ≡ old.billed.items ++ other.billed.items
  pub effective : new.effective.items ≡ old.effective.items ++ other.effective.items
  pub categories : new.categories.items ≡ old.categories.items ++ other.categories.items
  pub classes : new.classes.items ≡ old.classes.items ++ other.classes.items
  pub starts : new.starts.items ≡ old.starts.items ++ other.starts.items
  pub ends : new.ends.items ≡ old.ends.items ++ other.ends.items
  pub discounts : new.discounts.items ≡ old.discounts.items ++ map (replaced_code of_texts) other.discounts.items
  pub kinds : new.kinds.items ≡ old.kinds.items ++ other.kinds.items
  pub statuses : new.statuses.items ≡ old.statuses.items ++ other.statuses.items
  pub quantities : new.quantities.items ≡ old.quantities.items ++ other.quantities.items
  pub has_quantity : new.has_quantity.items ≡ old.has_quantity.items ++ other.has_quantity.items
  pub units : new.units.items ≡ old.units.items ++ map (replaced_code of_texts) other.units.items
  pub skus : new.skus.items ≡ old.skus.items ++ map (replaced_code of_texts) other.skus.items
  pub sub_accounts : new.sub_accounts.items ≡ old.sub_accounts.items ++ map (replaced_code of_texts) other.sub_accounts.items
  pub tags : new.tags.items ≡ old.tags.items ++ replaced of_lists other.tags.items
