-- The spelling of a row, and which rows have one.
use Rattle.std.specs.Prelude.{ℕ, Bool, ◌&&◌, List, [], ◌∷◌, ◌++◌, length, map, Option, Some, None, nat_lt, nat_le, nat_abs, ℤ}
use Rattle.fw_bytes.specs.Spelling.{number64, signed64, text, optional, listed, Fits64, FitsSigned64, FitsText, FitsOptional, FitsList, FitsChecked}
use Rattle.fw_bytes.specs.Order.{rise}
use Rattle.fw_money.specs.Amount.{most_nanos}
use Rattle.fw_charge.specs.Charge.{Charge, DiscountText, IsCharge, last_second, longest_short_text}
use Rattle.fw_charge.specs.Tags.{TagText, most_tags, longest_tag_text}
use Rattle.fw_charge.specs.Codes.{category_code, class_code, kind_code, status_code}

-- ---- fields

-- an amount: its count of nanos
abbrev pub nanos : ℤ → List ℕ
nanos z = signed64 z

-- a tag: its key and its text
abbrev pub tag : TagText → List ℕ
tag t = text t.key ++ text t.value

-- tags: their number, and each in turn
abbrev pub tags : List TagText → List ℕ
tags ts = listed tag ts

-- ---- a row: its fields in turn, in four groups and the tags

-- costs, category and class
unfoldable pub amounts : Charge → List ℕ
amounts c = nanos c.billed ++ (nanos c.effective ++ ((category_code c.category ∷ []) ++ (class_code c.is_correction ∷ [])))

-- the first second, and the second after the period
unfoldable pub period : Charge → List ℕ
period c = number64 c.start ++ number64 c.end

-- the discount's id, the code of its kind and that of its status; without a discount all three are null
unfoldable pub discount : Option DiscountText → List ℕ
discount None = optional text None ++ ((kind_code None ∷ []) ++ (status_code None ∷ []))
discount (Some d) = optional text (Some d.id) ++ ((kind_code (Some d.kind) ∷ []) ++ (status_code d.status ∷ []))

-- quantity, unit, SKU and sub-account
unfoldable pub consumed : Charge → List ℕ
consumed c = optional nanos c.quantity ++ (optional text c.unit ++ (optional text c.sku ++ optional text c.sub_account))

unfoldable pub row : Charge → List ℕ
row c = amounts c ++ (period c ++ (discount c.discount ++ (consumed c ++ tags c.tags)))

-- ---- which values have a spelling

-- an amount of at most 10^17 nanos either way
abbrev pub is_nanos : ℤ → Bool
is_nanos z = nat_le (nat_abs z) most_nanos

abbrev pub FitsNanos : ℤ → Type 0
FitsNanos z = FitsChecked is_nanos FitsSigned64 z

-- a second up to the last of the year 9999
abbrev pub is_second : ℕ → Bool
is_second n = nat_le n last_second

abbrev pub FitsSecond : ℕ → Type 0
FitsSecond n = FitsChecked is_second Fits64 n

-- a text of 1 to 256 bytes
abbrev pub is_short : List ℕ → Bool
is_short bytes = nat_lt 0 (length bytes) && nat_le (length bytes) longest_short_text

abbrev pub FitsShortText : List ℕ → Type 0
FitsShortText bytes = FitsChecked is_short FitsText bytes

-- a key or a text of a tag: at most 1,024 bytes
abbrev pub is_tag_text : List ℕ → Bool
is_tag_text bytes = nat_le (length bytes) longest_tag_text

abbrev pub FitsTagText : List ℕ → Type 0
FitsTagText bytes = FitsChecked is_tag_text FitsText bytes

abbrev pub FitsTag : TagText → Type 0
FitsTag t = FitsTagText t.key × FitsTagText t.value

-- at most 256 tags. Their order is a rule of what they belong to
abbrev pub FitsTags : List TagText → Type 0
FitsTags ts = FitsList 0 most_tags FitsTag ts

-- the keys of tags rise strictly in the order of their bytes
abbrev pub keys_rise : List TagText → Bool
keys_rise ts = rise (map (λ t. t.key) ts)

-- the id of a discount has a spelling
abbrev pub FitsDiscount : DiscountText → Type 0
FitsDiscount d = FitsShortText d.id

-- a row that keeps the rules of a row, with its amounts in range and its texts of UTF-8
pub record IsRow (c : Charge) : Type 0 where
  pub charge : IsCharge c
  pub billed : FitsNanos c.billed
  pub effective : FitsNanos c.effective
  pub quantity : FitsOptional FitsNanos c.quantity
  pub discount : FitsOptional FitsDiscount c.discount
  pub unit : FitsOptional FitsShortText c.unit
  pub sku : FitsOptional FitsShortText c.sku
  pub sub_account : FitsOptional FitsShortText c.sub_account
  pub tags : FitsTags c.tags
