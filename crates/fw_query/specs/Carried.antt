-- What the lines of a range carry of a commitment, by what their text has. Its purchases are its own and those that were added to it later.
use Rattle.std.specs.Prelude.{◌-◌, ◌&&◌, ℕ, Bool, List, length, nat_lt, sum_by, ℤ, pos, ◌+ℤ◌, codes, filter, fold, map, nat_le}
use Rattle.std.specs.List.{range_with_len}
use Rattle.std.specs.Str.{bytes_eq}
use Rattle.fw_charge.specs.Charge.{hour_of}
use Rattle.fw_charge.specs.Codes.{category_word}
use Rattle.fw_terms.specs.Commitment.{CommitmentValue}
use Rattle.fw_amortise.specs.LineValue.{LineValue}
use Rattle.fw_amortise.specs.Lines.{amount_in}
use Rattle.fw_query.specs.Texts.{id_text, status_text}

-- whether the text of a line has this CommitmentDiscountId, and a CommitmentDiscountStatus
unfoldable pub shows_share_of : List ℕ → LineValue → Bool
shows_share_of id line = bytes_eq (id_text line.commitment) id && nat_lt 0 (length (status_text line.commitment))

-- what a commitment carries in the hours of a range together
unfoldable pub amount_between : CommitmentValue → ℕ → ℕ → ℕ
amount_between c from to = sum_by (amount_in c) (range_with_len from (to - from))

-- whether the text of a line has this CommitmentDiscountId, and the ChargeCategory of purchases
unfoldable pub shows_purchase_of : List ℕ → LineValue → Bool
shows_purchase_of id line = bytes_eq (id_text line.commitment) id && bytes_eq (category_word line.category) (codes "Purchase")

-- the sum of the billed costs of lines
unfoldable pub billed_by_all : List LineValue → ℤ
billed_by_all lines = fold ◌+ℤ◌ (pos 0) (map (λ line. line.billed) lines)

-- what the purchases of a commitment in the hours of a range cost together
unfoldable pub cost_between : CommitmentValue → ℕ → ℕ → ℕ
cost_between c from to = sum_by (λ p. p.billed) (filter (λ p. nat_le from (hour_of p.at) && nat_lt (hour_of p.at) to) c.purchases)
