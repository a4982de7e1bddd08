-- What a selector sees of rows of which commitments took nothing, and codes that tell such rows apart.
use Rattle.std.specs.Prelude.{◌≡◌, ◌<◌, ◌++◌, [], ⊤, true, false, ℕ, List, length, map, Option, Some, None, slice_get, slice_index_or}
use Rattle.std.specs.List.{AllByRecursion}
use Rattle.fw_charge.specs.Charge.{Charge, hour_of}
use Rattle.fw_amortise.specs.LineValue.{LineValue}
use Rattle.fw_amortise.specs.declared.line.LineKind.TheVariants as kind
use Rattle.fw_select.specs.Keys.{source_text}
use Rattle.fw_select.specs.Selectors.{group_on, is_taken}
use Rattle.fw_select.specs.Table.{group_at}
use Rattle.fw_select.specs.declared.count.Count.{Count}
use Rattle.fw_select.specs.declared.key.Source.{Source}
use Rattle.fw_select.specs.declared.known.Found.{Found}
use Rattle.fw_select.specs.declared.known.Found.TheVariants as found
use Rattle.fw_select.specs.declared.known.Known.{Known}
use Rattle.fw_select.specs.declared.selector.Selector.{Selector}
use Rattle.fw_select.specs.declared.table.Table.{Table}

-- a row of which commitments took nothing, as a line
abbrev pub plain_line : Charge → LineValue
plain_line row = record {
  hour = hour_of row.start;
  kind = kind.Given;
  category = row.category;
  commitment = row.discount;
  billed = row.billed;
  effective = row.effective;
  quantity = row.quantity;
  sku = row.sku;
  sub_account = row.sub_account;
  tags = row.tags;
}

-- the text of a source on a row
abbrev pub row_text : Source → Charge → List ℕ
row_text source row = source_text source (plain_line row)

-- ---- codes

-- two rows with one code have one text under a source
pub record AgreeOn (source : Source) (rows : List Charge) (codes : List ℕ) : Type 0 where
  pub long : length codes ≡ length rows
  pub same : (p q : ℕ) (a b : Charge) → slice_get rows p ≡ Some a → slice_get rows q ≡ Some b
      → slice_index_or codes p 0 ≡ slice_index_or codes q 0 → row_text source a ≡ row_text source b

-- two rows with one number have one text under each of some sources
pub record AgreeOnAll (sources : List Source) (rows : List Charge) (numbers : List ℕ) : Type 0 where
  pub long : length numbers ≡ length rows
  pub same : (p q : ℕ) (a b : Charge) → slice_get rows p ≡ Some a → slice_get rows q ≡ Some b
      → slice_index_or numbers p 0 ≡ slice_index_or numbers q 0 → AllByRecursion (λ source. row_text source a ≡ row_text source b) sources

-- the sources that a selector looks at
abbrev pub sources_of : Selector → List Source
sources_of s = map (λ k. k.source) s.keys.now ++ map (λ f. f.key.source) s.filters.now

-- ---- what was found of rows

-- two rows are taken or not, and are in one group
pub record AreAlike (s : Selector) (a b : Charge) : Type 0 where
  pub taken : is_taken s (plain_line a) ≡ is_taken s (plain_line b)
  pub group : group_on s (plain_line a) ≡ group_on s (plain_line b)

-- what was found of a line is so: that it isn't taken, or the place of its group
abbrev pub IsFound : Selector → Table → LineValue → Found → Type 0
IsFound s table line found.Unknown = ⊤
IsFound s table line found.Left = is_taken s line ≡ false
IsFound s table line (found.At place) = (is_taken s line ≡ true) × (group_at table place ≡ Some (group_on s line))

-- what was found of the row at a place
abbrev pub found_at : Known → ℕ → Found
found_at known place = slice_index_or known.found.items (slice_index_or known.numbers.items place 0) found.Unknown

-- what was found of rows is so, and rows with one number are alike
pub record IsKnown (s : Selector) (table : Table) (rows : List Charge) (known : Known) : Type 0 where
  pub long : length known.numbers.items ≡ length rows
  pub alike : (p q : ℕ) (a b : Charge) → slice_get rows p ≡ Some a → slice_get rows q ≡ Some b
      → slice_index_or known.numbers.items p 0 ≡ slice_index_or known.numbers.items q 0 → AreAlike s a b
  pub found : (p : ℕ) (a : Charge) → slice_get rows p ≡ Some a → IsFound s table (plain_line a) (found_at known p)

-- what is known of the rows of each segment is so, where something is, and there is room for the texts of a line
pub record IsCount (s : Selector) (segments : List (List Charge)) (count : Count) : Type 0 where
  pub room : length count.room.group.items ≡ length s.keys.now
  pub long : length count.known.items ≡ length segments
  pub each : (k : ℕ) (known : Known) → slice_get count.known.items k ≡ Some (Some known)
      → IsKnown s count.table (slice_index_or segments k []) known
