-- What rows cost at an amount that a tag of each has: those that providers' commitments cover at a price, and all rows at an amount.
use Rattle.std.specs.Prelude.{◌≡◌, ◌++◌, ◌+ℤ◌, ℕ, ℤ, pos, Bool, true, false, List, [], filter, fold, map, Option, None, Some, Ok, Err, unwrap_or}
use Rattle.std.specs.List.{AllZip}
use Rattle.std.specs.Option.{option_map_or}
use Rattle.fw_charge.specs.Charge.{Charge}
use Rattle.fw_charge.specs.Tags.{group_of}
use Rattle.fw_charge.specs.declared.discount.DiscountStatus.{DiscountStatus}
use Rattle.fw_charge.specs.declared.discount.DiscountStatus.TheVariants as status
use Rattle.fw_money.specs.Reading.{Reads}
use Rattle.fw_money.specs.declared.nanos.MoneyFault.{MoneyFault}
use Rattle.fw_terms.specs.Commitment.{CommitmentValue}
use Rattle.fw_amortise.specs.Carrying.{cost_of_all}
use Rattle.fw_amortise.specs.LineValue.{LineValue}
use Rattle.fw_amortise.specs.Lines.{given_line}
use Rattle.fw_amortise.specs.declared.line.LineKind.TheVariants as kind
use Rattle.fw_finops.specs.Lines.{price_lines}

-- ---- the rows

-- whether a row says that a commitment covers it: the provider's, since no row names an own one
abbrev pub is_used : Option DiscountStatus → Bool
is_used None = false
is_used (Some status.Used) = true
is_used (Some status.Unused) = false

unfoldable pub is_covered : Charge → Bool
is_covered row = option_map_or (λ d. is_used d.status) row.discount false

-- ---- their prices

-- what a text reads as: this amount, or none
abbrev pub IsAmount : List ℕ → Option ℤ → Type 0
IsAmount text None = (f : MoneyFault) × Reads text (Err f)
IsAmount text (Some n) = Reads text (Ok n)

-- the price of a row by a tag: the amount that the tag's text reads as, or none where there is no such tag or its text is no amount
unfoldable pub IsPriceBy : List ℕ → Charge → Option ℤ → Type 0
IsPriceBy tag row price = IsAmount (group_of tag row.tags) price

-- a price is missing: 1, where there is none
abbrev pub missing : Option ℤ → ℤ
missing None = pos 1
missing (Some price) = pos 0

-- what is known of a price: nothing of one that is missing
abbrev pub known : Option ℤ → ℤ
known None = pos 0
known (Some price) = price

-- ---- the lines

-- a row that is covered, at its price. A line has no count, so that of a price that is missing stands as BilledCost: sums of it say how many are
unfoldable pub listed_line : ℕ → Charge → Option ℤ → LineValue
listed_line hour row price = record (given_line hour row) { kind = kind.Used; billed = missing price; effective = known price }

pub record IsListed (tag : List ℕ) (hour : ℕ) (row : Charge) (line : LineValue) : Type 0 where
  pub price : Option ℤ
  pub is_price : IsPriceBy tag row price
  pub line_is : line ≡ listed_line hour row price

-- the lines of the rows that are covered, at their prices by a tag
abbrev pub AreListed : List ℕ → ℕ → List Charge → List LineValue → Type 0
AreListed tag hour rows lines = AllZip (IsListed tag hour) (filter is_covered rows) lines

-- where no tag has prices there are none
abbrev pub AreListedBy : Option (List ℕ) → ℕ → List Charge → List LineValue → Type 0
AreListedBy None hour rows lines = lines ≡ []
AreListedBy (Some tag) hour rows lines = AreListed tag hour rows lines

-- they stand behind other lines
pub record AddsListed (tag : Option (List ℕ)) (hour : ℕ) (rows : List Charge) (before after : List LineValue) : Type 0 where
  pub listed : List LineValue
  pub are_listed : AreListedBy tag hour rows listed
  pub lines_are : after ≡ before ++ listed

-- the lines of an hour at prices: at the rows' own prices, and of the rows that providers' commitments cover at those of a tag
abbrev pub ArePricedLines : List CommitmentValue → Option (List ℕ) → List Charge → ℕ → List LineValue → Type 0
ArePricedLines cs tag rows hour lines = AddsListed tag hour rows (price_lines cs rows hour) lines

-- ---- all rows

-- a row by itself at its amount in a tag. The count of an amount that is missing stands as BilledCost here too
unfoldable pub amount_line : ℕ → Charge → Option ℤ → LineValue
amount_line hour row amount = record (given_line hour row) { billed = missing amount; effective = known amount }

pub record IsAmountLine (tag : List ℕ) (hour : ℕ) (row : Charge) (line : LineValue) : Type 0 where
  pub amount : Option ℤ
  pub is_amount : IsPriceBy tag row amount
  pub line_is : line ≡ amount_line hour row amount

-- the lines of rows at their amounts in a tag: one for each row, in their order
abbrev pub AreAmountLines : List ℕ → List Charge → ℕ → List LineValue → Type 0
AreAmountLines tag rows hour lines = AllZip (IsAmountLine tag hour) rows lines

-- ---- what they come to

-- the sum of prices, where what is missing adds nothing; and how many are missing
unfoldable pub sum_of_prices : List (Option ℤ) → ℤ
sum_of_prices prices = fold ◌+ℤ◌ (pos 0) (map (λ p. unwrap_or p (pos 0)) prices)

unfoldable pub sum_of_missing : List (Option ℤ) → ℤ
sum_of_missing prices = fold ◌+ℤ◌ (pos 0) (map missing prices)

-- the sum of the billed costs of lines
unfoldable pub billed_of_all : List LineValue → ℤ
billed_of_all lines = fold ◌+ℤ◌ (pos 0) (map (λ line. line.billed) lines)

-- the amounts of rows; their sum is what the lines cost, and as many are missing as the lines say
pub record AreAmounts (tag : List ℕ) (rows : List Charge) (lines : List LineValue) : Type 0 where
  pub amounts : List (Option ℤ)
  pub are_amounts : AllZip (IsPriceBy tag) rows amounts
  pub cost : cost_of_all lines ≡ sum_of_prices amounts
  pub count : billed_of_all lines ≡ sum_of_missing amounts

-- the prices of the rows that are covered; their sum is what the lines cost, and as many are missing as the lines say
pub record ArePrices (tag : List ℕ) (rows : List Charge) (lines : List LineValue) : Type 0 where
  pub prices : List (Option ℤ)
  pub are_prices : AllZip (IsPriceBy tag) (filter is_covered rows) prices
  pub cost : cost_of_all lines ≡ sum_of_prices prices
  pub count : billed_of_all lines ≡ sum_of_missing prices
