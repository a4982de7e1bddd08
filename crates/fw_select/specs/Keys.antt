-- The value of a key on a line.
use Rattle.std.specs.Prelude.{◌==◌, ℕ, Bool, List, codes, length, map, Option, Some, None, String, string_bytes, if◌then◌else◌}
use Rattle.std.specs.Borrow.{Bor}
use Rattle.std.specs.BTreeMap.{BTreeMap, get_by_text}
use Rattle.std.specs.Char.{to_ascii_lowercase}
use Rattle.std.specs.Option.{option_map_or}
use Rattle.std.specs.declared.alloc.Global.{Global}
use Rattle.fw_charge.specs.Codes.{category_word}
use Rattle.fw_charge.specs.Tags.{group_of}
use Rattle.fw_amortise.specs.LineValue.{LineValue}
use Rattle.fw_query.specs.Texts.{id_text, or_empty, status_text}
use Rattle.fw_select.specs.declared.key.Column.{Column}
use Rattle.fw_select.specs.declared.key.Column.TheVariants as column
use Rattle.fw_select.specs.declared.key.Key.{Key}
use Rattle.fw_select.specs.declared.key.Source.{Source}
use Rattle.fw_select.specs.declared.key.Source.TheVariants as source
use Rattle.fw_select.specs.declared.key.ValueMap.{ValueMap}

-- the name of a column
abbrev pub column_name : Column → List ℕ
column_name column.SkuId = codes "SkuId"
column_name column.SubAccountId = codes "SubAccountId"
column_name column.ChargeCategory = codes "ChargeCategory"
column_name column.CommitmentDiscountId = codes "CommitmentDiscountId"
column_name column.CommitmentDiscountStatus = codes "CommitmentDiscountStatus"

-- the text of a column on a line: empty where it is null
abbrev pub column_text : Column → LineValue → List ℕ
column_text column.SkuId line = or_empty (λ s. s) line.sku
column_text column.SubAccountId line = or_empty (λ s. s) line.sub_account
column_text column.ChargeCategory line = category_word line.category
column_text column.CommitmentDiscountId line = id_text line.commitment
column_text column.CommitmentDiscountStatus line = status_text line.commitment

-- the text of a source on a line: empty where the line has no such tag
abbrev pub source_text : Source → LineValue → List ℕ
source_text (source.Tag name) line = group_of name.now line.tags
source_text (source.Column c) line = column_text c line

-- a text, with its letters of ASCII made small where they are to be
abbrev pub folded : Bool → List ℕ → List ℕ
folded fold text = if fold then map to_ascii_lowercase text else text

-- what stands for a text: itself where nothing else does
abbrev pub renamed : BTreeMap (String Global) (String Global) → List ℕ → List ℕ
renamed values text = option_map_or string_bytes (get_by_text values text) text

-- what a map makes of a text: the empty one has its own, another is folded and then looked up
abbrev pub mapped_text : ValueMap → List ℕ → List ℕ
mapped_text m text = if length text == 0 then string_bytes m.empty else renamed m.values (folded m.fold text)

abbrev pub mapped : Option (Bor ValueMap) → List ℕ → List ℕ
mapped None text = text
mapped (Some m) text = mapped_text m.now text

-- the value of a key on a line
unfoldable pub value : Key → LineValue → List ℕ
value key line = mapped key.map (source_text key.source line)
