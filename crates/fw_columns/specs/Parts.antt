-- When columns that were put together elsewhere are those of rows.
use Rattle.std.specs.Prelude.{◌≡◌, ◌≢◌, ◌<◌, ◌≤◌, ◌*◌, ◌/◌, ◌++◌, ℕ, ℤ, pos, nat_abs, Bool, false, List, [], length, map, take, slice_index_or, option_to_list, IfSome, All}
use Rattle.std.specs.List.{flat_map, range_with_len}
use Rattle.fw_money.specs.Amount.{most_nanos}
use Rattle.fw_charge.specs.Charge.{Charge, IsShortText, last_second}
use Rattle.fw_charge.specs.Codes.{category_code, class_code, kind_code, kind_of, status_code, status_of}
use Rattle.fw_charge.specs.declared.category.Category.{Category}
use Rattle.fw_charge.specs.declared.category.Category.TheVariants as category
use Rattle.fw_charge.specs.Tags.{IsTags, longest_tag_text, most_tags}
use Rattle.fw_row_table.specs.Names.{Text, place_of}
use Rattle.fw_row_table.specs.Texts.{with_texts}
use Rattle.fw_row_table.specs.Table.{AreColumns, most_column_rows, category_at, class_at, quantity_kept, text_at, text_of, quantity_of, tags_of, list_at}
use Rattle.fw_row_table.specs.declared.table.Table.{Table}

-- lists, each once and in the order in which it is first seen, and for each row the place of its list
pub record AreNumbered (lists : List (List ℕ)) (codes : List ℕ) (of_rows : List (List ℕ)) : Type 0 where
  pub seen : lists ≡ with_texts [] of_rows
  pub places : codes ≡ map (place_of lists) of_rows

-- the list of each row
abbrev pub lists_there : List (List ℕ) → List ℕ → List (List ℕ)
lists_there lists places = map (λ place. slice_index_or lists place []) places

-- each column has so many values
pub record HaveLength (t : Table) (n : ℕ) : Type 0 where
  pub billed : length t.billed.items ≡ n
  pub effective : length t.effective.items ≡ n
  pub categories : length t.categories.items ≡ n
  pub classes : length t.classes.items ≡ n
  pub starts : length t.starts.items ≡ n
  pub ends : length t.ends.items ≡ n
  pub discounts : length t.discounts.items ≡ n
  pub kinds : length t.kinds.items ≡ n
  pub statuses : length t.statuses.items ≡ n
  pub quantities : length t.quantities.items ≡ n
  pub has_quantity : length t.has_quantity.items ≡ n
  pub units : length t.units.items ≡ n
  pub skus : length t.skus.items ≡ n
  pub sub_accounts : length t.sub_accounts.items ≡ n
  pub tags : length t.tags.items ≡ n

-- the code of a short text, or of null
pub record IsShortCode (names : List Text) (code : ℕ) : Type 0 where
  pub within : code ≤ length names
  pub short : IfSome (text_of names code) IsShortText

-- a list of the places of texts, two for each of at most 256 tags
pub record ArePlacesOfTags (names : List Text) (list : List ℕ) : Type 0 where
  pub even : 2 * (length list / 2) ≡ length list
  pub few : length list / 2 ≤ most_tags
  pub within : All (λ place. place < length names) list

-- a table of 1 to 65,536 rows with each single field in its range: amounts, seconds, the codes of what there is, and texts that aren't too long
pub record HasFieldsInRange (t : Table) : Type 0 where
  pub some : 0 < length t.billed.items
  pub few : length t.billed.items ≤ most_column_rows
  pub sizes : HaveLength t (length t.billed.items)
  pub names : All (λ text. length text ≤ longest_tag_text) t.names
  pub lists : All (ArePlacesOfTags t.names) t.lists
  pub billed : All (λ amount. nat_abs amount ≤ most_nanos) t.billed.items
  pub effective : All (λ amount. nat_abs amount ≤ most_nanos) t.effective.items
  pub categories : All (λ code. category_code (category_at code) ≡ code) t.categories.items
  pub classes : All (λ code. class_code (class_at code) ≡ code) t.classes.items
  pub starts : All (λ second. pos (nat_abs second) ≡ second) t.starts.items
  pub ends : All (λ second. second ≤ last_second) t.ends.items
  pub discounts : All (IsShortCode t.names) t.discounts.items
  pub kinds : All (λ code. kind_code (kind_of code) ≡ code) t.kinds.items
  pub statuses : All (λ code. status_code (status_of code) ≡ code) t.statuses.items
  pub quantities : All (λ amount. nat_abs amount ≤ most_nanos) t.quantities.items
  pub units : All (IsShortCode t.names) t.units.items
  pub skus : All (IsShortCode t.names) t.skus.items
  pub sub_accounts : All (IsShortCode t.names) t.sub_accounts.items

-- a list of places stands for tags that keep their rules
abbrev pub IsTagList : List Text → List ℕ → Type 0
IsTagList names list = IsTags (tags_of names list)

-- the codes of a discount agree in a row of a category: without an id all are 0; with one there is a kind, and in a usage row a status
pub record AreDiscountCodes (c : Category) (id k s : ℕ) : Type 0 where
  pub null : id ≡ 0 → (k ≡ 0) × (s ≡ 0)
  pub kind : id ≢ 0 → k ≢ 0
  pub status : id ≢ 0 → c ≡ category.Usage → s ≢ 0

-- what a quantity is kept as
abbrev pub IsQuantityKept : Bool → ℤ → Type 0
IsQuantityKept is_there quantity = quantity_kept (quantity_of is_there quantity) ≡ quantity

-- the fields at a place agree with each other, as those of a row do
pub record AgreeAt (t : Table) (i : ℕ) : Type 0 where
  pub period : nat_abs (slice_index_or t.starts.items i (pos 0)) ≤ slice_index_or t.ends.items i 0
  pub discount : AreDiscountCodes (category_at (slice_index_or t.categories.items i 0)) (slice_index_or t.discounts.items i 0) (slice_index_or t.kinds.items i 0) (slice_index_or t.statuses.items i 0)
  pub quantity : IsQuantityKept (slice_index_or t.has_quantity.items i false) (slice_index_or t.quantities.items i (pos 0))

-- the names so far, once texts were seen in turn: the first of all names
pub record HaveSeen (names : List Text) (before now : ℕ) (texts : List Text) : Type 0 where
  pub seen : take now names ≡ with_texts (take before names) texts
  pub few : now ≤ length names

-- the texts of the first lists of places are among the first names
pub record AreListsSeen (lists : List (List ℕ)) (count seen : ℕ) : Type 0 where
  pub few : count ≤ length lists
  pub each : (k : ℕ) → k < count → All (λ place. place < seen) (slice_index_or lists k [])

-- texts that can't be seen next: the names aren't those so far and then those of these texts, whatever texts follow
pub record AreOutOfTurn (names : List Text) (before : ℕ) (texts : List Text) : Type 0 where
  pub others : (more : List Text) → ¬ (names ≡ with_texts (take before names) (texts ++ more))

-- the texts of the row at a place in turn
unfoldable pub texts_there : Table → ℕ → List Text
texts_there t i =
    option_to_list (text_of t.names (slice_index_or t.discounts.items i 0))
    ++ (option_to_list (text_of t.names (slice_index_or t.units.items i 0))
    ++ (option_to_list (text_of t.names (slice_index_or t.skus.items i 0))
    ++ (option_to_list (text_of t.names (slice_index_or t.sub_accounts.items i 0)) ++ map (text_at t.names) (list_at t i))))

-- columns with the fields of rows, whose names are numbered as their texts are first seen
pub record HaveRows (t : Table) (n : ℕ) : Type 0 where
  pub agree : (i : ℕ) → i < n → AgreeAt t i
  pub names : t.names ≡ with_texts [] (flat_map (texts_there t) (range_with_len 0 n))

-- no rows have this table
abbrev pub HasNoRows : Table → Type 0
HasNoRows t = (rows : List Charge) → 0 < length rows → ¬ AreColumns t rows
