-- The texts of a report and of lines.
use Rattle.std.specs.Prelude.{ℕ, List, [], ◌∷◌, map, codes, Option}
use Rattle.std.specs.Option.{option_map_or}
use Rattle.std.specs.Fmt.{decimal}
use Rattle.std.specs.List.{concat}
use Rattle.csv.specs.Writing.{default_writer, row_text}
use Rattle.fw_money.specs.Writing.{text_of}
use Rattle.fw_charge.specs.Charge.{DiscountText}
use Rattle.fw_charge.specs.Codes.{category_word, kind_word, status_word}
use Rattle.fw_amortise.specs.LineValue.{LineValue}
use Rattle.fw_query.specs.Reports.{EntryValue}

-- the line of a record, as the default CSV writer writes it
unfoldable pub record_line : List (List ℕ) → List ℕ
record_line fields = row_text default_writer fields

-- the names of a report's columns
unfoldable pub header : List (List ℕ)
header = codes "Group" ∷ (codes "BilledCost" ∷ (codes "EffectiveCost" ∷ (codes "ChargedCost" ∷ [])))

-- the fields of an entry, in the order of the columns
unfoldable pub fields_of : EntryValue → List (List ℕ)
fields_of entry = entry.group ∷ (text_of entry.billed ∷ (text_of entry.direct ∷ (text_of entry.charged ∷ [])))

-- the text of a report: a line of names, and a line for each entry
unfoldable pub report_text : List EntryValue → List ℕ
report_text entries = concat (map record_line (header ∷ map fields_of entries))

-- the names of a line's columns
unfoldable pub line_header : List (List ℕ)
line_header =
    codes "Hour" ∷ (codes "ChargeCategory" ∷ (codes "CommitmentDiscountId" ∷ (codes "CommitmentDiscountCategory" ∷ (codes "CommitmentDiscountStatus"
    ∷ (codes "BilledCost" ∷ (codes "EffectiveCost" ∷ (codes "ConsumedQuantity" ∷ (codes "SkuId" ∷ (codes "SubAccountId" ∷ [])))))))))

-- what may be null is empty where it is
abbrev pub or_empty : {X : Type 0} → (X → List ℕ) → Option X → List ℕ
or_empty text value = option_map_or text value []

-- the three fields of a discount
abbrev pub id_text : Option DiscountText → List ℕ
id_text discount = or_empty (λ d. d.id) discount

abbrev pub kind_text : Option DiscountText → List ℕ
kind_text discount = or_empty (λ d. kind_word d.kind) discount

abbrev pub status_text : Option DiscountText → List ℕ
status_text discount = or_empty (λ d. or_empty status_word d.status) discount

-- the fields of a line, in the order of the columns
unfoldable pub line_fields : LineValue → List (List ℕ)
line_fields line =
    decimal line.hour ∷ (category_word line.category ∷ (id_text line.commitment ∷ (kind_text line.commitment ∷ (status_text line.commitment
    ∷ (text_of line.billed ∷ (text_of line.effective ∷ (or_empty text_of line.quantity ∷ (or_empty (λ s. s) line.sku ∷ (or_empty (λ s. s) line.sub_account ∷ [])))))))))

-- the text of lines: a line of names, and a line for each
unfoldable pub lines_text : List LineValue → List ℕ
lines_text lines = concat (map record_line (line_header ∷ map line_fields lines))
