-- Lemmas on rows that providers' commitments cover, at their prices by a tag.
use Rattle.std.proofs.Common.{◌≡◌, ◌∙◌, ℕ, ℤ, pos, ◌+ℤ◌, true, false, List, [], ◌∷◌, ◌++◌, None, Some, append-nil, append_assoc, ap, arith, filter, fold, map, refl, subst, sym}
use Rattle.std.specs.Prelude.{Option, Ok, unwrap_or}
use Rattle.std.specs.List.{AllZip}
use Rattle.std.proofs.lemmas.Int.{ints}
use Rattle.std.proofs.lemmas.List.Elements.{filter-append}
use Rattle.fw_charge.specs.Charge.{Charge}
use Rattle.fw_charge.specs.Tags.{group_of}
use Rattle.fw_money.proofs.ReadingLaws.{reads-apart, reads-one}
use Rattle.fw_amortise.specs.Carrying.{cost_of_all}
use Rattle.fw_amortise.specs.LineValue.{LineValue}
use Rattle.fw_amortise.proofs.Carrying.{fold_from}
use Rattle.fw_finops.specs.Listed.{AddsListed, AreAmountLines, AreAmounts, AreListed, ArePrices, IsAmount, IsAmountLine, IsListed, IsPriceBy, amount_line, billed_of_all, is_covered, known, listed_line, missing, sum_of_missing, sum_of_prices}

-- ---- lines that are added
zip_append : {X Y : Type 0} (R : X → Y → Type 0) (xs more : List X) (ys others : List Y) → AllZip R xs ys → AllZip R more others → AllZip R (xs ++ more) (ys ++ others)
zip_append R [] more [] others a b = b
zip_append R [] more (y ∷ ys) others a b = absurd a
zip_append R (x ∷ xs) more [] others a b = absurd a
zip_append R (x ∷ xs) more (y ∷ ys) others a b = (a.0, zip_append R xs more ys others a.1 b)

-- nothing yet
pub adds_none : (tag : List ℕ) (hour : ℕ) (lines : List LineValue) → AddsListed (Some tag) hour [] lines lines
adds_none tag hour lines = record { listed = []; are_listed = tt; lines_are = sym (append-nil lines) }

-- a row that isn't covered, and one that is
pub adds_no_line : (tag : List ℕ) (hour : ℕ) (row : Charge) (lines : List LineValue) → is_covered row ≡ false → AddsListed (Some tag) hour (row ∷ []) lines lines
adds_no_line tag hour row lines other =
    let none : filter is_covered (row ∷ []) ≡ [] = rw other refl in
    record { listed = []; are_listed = subst (λ rows. AllZip (IsListed tag hour) rows []) (sym none) tt; lines_are = sym (append-nil lines) }

pub adds_line : (tag : List ℕ) (hour : ℕ) (row : Charge) (price : Option ℤ) (line : LineValue) (lines new : List LineValue) → is_covered row ≡ true → IsPriceBy tag row price
    → line ≡ listed_line hour row price → new ≡ lines ++ line ∷ [] → AddsListed (Some tag) hour (row ∷ []) lines new
adds_line tag hour row price line lines new covered priced is added =
    let one : filter is_covered (row ∷ []) ≡ row ∷ [] = rw covered refl in
    let at_price : IsListed tag hour row line = record { price = price; is_price = priced; line_is = is } in
    record {
      listed = line ∷ [];
      are_listed = subst (λ rows. AllZip (IsListed tag hour) rows (line ∷ [])) (sym one) (at_price, tt);
      lines_are = added;
    }

-- one row more
pub adds_more : (tag : List ℕ) (hour : ℕ) (rows : List Charge) (row : Charge) (a b c : List LineValue) → AddsListed (Some tag) hour rows a b → AddsListed (Some tag) hour (row ∷ []) b c
    → AddsListed (Some tag) hour (rows ++ row ∷ []) a c
adds_more tag hour rows row a b c first more = record {
  listed = first.listed ++ more.listed;
  are_listed =
      subst (λ them. AllZip (IsListed tag hour) them (first.listed ++ more.listed)) (sym (filter-append is_covered rows (row ∷ [])))
      (zip_append (IsListed tag hour) (filter is_covered rows) (filter is_covered (row ∷ [])) first.listed more.listed first.are_listed more.are_listed);
  lines_are = more.lines_are ∙ ap (λ l. l ++ more.listed) first.lines_are ∙ append_assoc a first.listed more.listed;
}

-- ---- what they come to
int_cons : (x : ℤ) (xs : List ℤ) → fold ◌+ℤ◌ (pos 0) (x ∷ xs) ≡ x +ℤ fold ◌+ℤ◌ (pos 0) xs
int_cons x xs = let from = fold_from (pos 0 +ℤ x) xs in omega (arith, ints, from)

cost_cons : (line : LineValue) (lines : List LineValue) → cost_of_all (line ∷ lines) ≡ line.effective +ℤ cost_of_all lines
unfolding cost_of_all
cost_cons line lines = int_cons line.effective (map (λ (l : LineValue). l.effective) lines)

pub billed_cons : (line : LineValue) (lines : List LineValue) → billed_of_all (line ∷ lines) ≡ line.billed +ℤ billed_of_all lines
unfolding billed_of_all
billed_cons line lines = int_cons line.billed (map (λ (l : LineValue). l.billed) lines)

prices_cons : (price : Option ℤ) (prices : List (Option ℤ)) → sum_of_prices (price ∷ prices) ≡ unwrap_or price (pos 0) +ℤ sum_of_prices prices
unfolding sum_of_prices
prices_cons price prices = int_cons (unwrap_or price (pos 0)) (map (λ (p : Option ℤ). unwrap_or p (pos 0)) prices)

missing_cons : (price : Option ℤ) (prices : List (Option ℤ)) → sum_of_missing (price ∷ prices) ≡ missing price +ℤ sum_of_missing prices
unfolding sum_of_missing
missing_cons price prices = int_cons (missing price) (map missing prices)

known_price : (price : Option ℤ) → known price ≡ unwrap_or price (pos 0)
known_price None = refl
known_price (Some price) = refl

listed_effective : (hour : ℕ) (row : Charge) (price : Option ℤ) → (listed_line hour row price).effective ≡ unwrap_or price (pos 0)
unfolding listed_line
listed_effective hour row price = known_price price

listed_billed : (hour : ℕ) (row : Charge) (price : Option ℤ) → (listed_line hour row price).billed ≡ missing price
unfolding listed_line
listed_billed hour row price = refl

-- the prices of rows, and what lines at these prices come to
record HavePrices (tag : List ℕ) (rows : List Charge) (lines : List LineValue) : Type 0 where
  prices : List (Option ℤ)
  are_prices : AllZip (IsPriceBy tag) rows prices
  cost : cost_of_all lines ≡ sum_of_prices prices
  count : billed_of_all lines ≡ sum_of_missing prices

have_prices : (tag : List ℕ) (hour : ℕ) (rows : List Charge) (lines : List LineValue) → AllZip (IsListed tag hour) rows lines → HavePrices tag rows lines
unfolding cost_of_all billed_of_all sum_of_prices sum_of_missing
have_prices tag hour [] [] listed = record { prices = []; are_prices = tt; cost = refl; count = refl }
have_prices tag hour [] (line ∷ lines) listed = absurd listed
have_prices tag hour (row ∷ rows) [] listed = absurd listed
have_prices tag hour (row ∷ rows) (line ∷ lines) listed =
    let rest = have_prices tag hour rows lines listed.1 in
    let price = listed.0.price in
    let effective : line.effective ≡ unwrap_or price (pos 0) = ap (λ (l : LineValue). l.effective) listed.0.line_is ∙ listed_effective hour row price in
    let billed : line.billed ≡ missing price = ap (λ (l : LineValue). l.billed) listed.0.line_is ∙ listed_billed hour row price in
    record {
      prices = price ∷ rest.prices;
      are_prices = (listed.0.is_price, rest.are_prices);
      cost = cost_cons line lines ∙ ap (λ x. x +ℤ cost_of_all lines) effective ∙ ap (λ x. unwrap_or price (pos 0) +ℤ x) rest.cost ∙ sym (prices_cons price rest.prices);
      count = billed_cons line lines ∙ ap (λ x. x +ℤ billed_of_all lines) billed ∙ ap (λ x. missing price +ℤ x) rest.count ∙ sym (missing_cons price rest.prices);
    }

-- the same of the amounts of rows
amount_effective : (hour : ℕ) (row : Charge) (amount : Option ℤ) → (amount_line hour row amount).effective ≡ unwrap_or amount (pos 0)
unfolding amount_line
amount_effective hour row amount = known_price amount

amount_billed : (hour : ℕ) (row : Charge) (amount : Option ℤ) → (amount_line hour row amount).billed ≡ missing amount
unfolding amount_line
amount_billed hour row amount = refl

pub amounts_cost : (tag : List ℕ) (hour : ℕ) (rows : List Charge) (lines : List LineValue) → AreAmountLines tag rows hour lines → AreAmounts tag rows lines
unfolding cost_of_all billed_of_all sum_of_prices sum_of_missing
amounts_cost tag hour [] [] are = record { amounts = []; are_amounts = tt; cost = refl; count = refl }
amounts_cost tag hour [] (line ∷ lines) are = absurd are
amounts_cost tag hour (row ∷ rows) [] are = absurd are
amounts_cost tag hour (row ∷ rows) (line ∷ lines) are =
    let rest = amounts_cost tag hour rows lines are.1 in
    let amount = are.0.amount in
    let effective : line.effective ≡ unwrap_or amount (pos 0) = ap (λ (l : LineValue). l.effective) are.0.line_is ∙ amount_effective hour row amount in
    let billed : line.billed ≡ missing amount = ap (λ (l : LineValue). l.billed) are.0.line_is ∙ amount_billed hour row amount in
    record {
      amounts = amount ∷ rest.amounts;
      are_amounts = (are.0.is_amount, rest.are_amounts);
      cost = cost_cons line lines ∙ ap (λ x. x +ℤ cost_of_all lines) effective ∙ ap (λ x. unwrap_or amount (pos 0) +ℤ x) rest.cost ∙ sym (prices_cons amount rest.amounts);
      count = billed_cons line lines ∙ ap (λ x. x +ℤ billed_of_all lines) billed ∙ ap (λ x. missing amount +ℤ x) rest.count ∙ sym (missing_cons amount rest.amounts);
    }

pub listed_costs : (tag : List ℕ) (hour : ℕ) (rows : List Charge) (lines : List LineValue) → AreListed tag hour rows lines → ArePrices tag rows lines
listed_costs tag hour rows lines listed =
    let have = have_prices tag hour (filter is_covered rows) lines listed in
    record { prices = have.prices; are_prices = have.are_prices; cost = have.cost; count = have.count }

-- ---- they are one
amount_one : (text : List ℕ) (p q : Option ℤ) → IsAmount text p → IsAmount text q → p ≡ q
amount_one text None None a b = refl
amount_one text None (Some n) a b = absurd (reads-apart text n a.0 b a.1)
amount_one text (Some m) None a b = absurd (reads-apart text m b.0 a b.1)
amount_one text (Some m) (Some n) a b = let same = reads-one text (Ok m) (Ok n) a b in cc

price_one : (tag : List ℕ) (row : Charge) (p q : Option ℤ) → IsPriceBy tag row p → IsPriceBy tag row q → p ≡ q
unfolding IsPriceBy
price_one tag row p q a b = amount_one (group_of tag row.tags) p q a b

line_one : (tag : List ℕ) (hour : ℕ) (row : Charge) (x y : LineValue) → IsListed tag hour row x → IsListed tag hour row y → x ≡ y
line_one tag hour row x y a b = a.line_is ∙ ap (listed_line hour row) (price_one tag row a.price b.price a.is_price b.is_price) ∙ sym b.line_is

lines_one : (tag : List ℕ) (hour : ℕ) (rows : List Charge) (xs ys : List LineValue) → AllZip (IsListed tag hour) rows xs → AllZip (IsListed tag hour) rows ys → xs ≡ ys
lines_one tag hour [] [] [] a b = refl
lines_one tag hour [] [] (y ∷ ys) a b = absurd b
lines_one tag hour [] (x ∷ xs) ys a b = absurd a
lines_one tag hour (row ∷ rows) [] ys a b = absurd a
lines_one tag hour (row ∷ rows) (x ∷ xs) [] a b = absurd b
lines_one tag hour (row ∷ rows) (x ∷ xs) (y ∷ ys) a b =
    let first : x ≡ y = line_one tag hour row x y a.0 b.0 in
    ap (λ l. x ∷ l) (lines_one tag hour rows xs ys a.1 b.1) ∙ ap (λ l. l ∷ ys) first

pub listed_one : (tag : List ℕ) (hour : ℕ) (rows : List Charge) (xs ys : List LineValue) → AreListed tag hour rows xs → AreListed tag hour rows ys → xs ≡ ys
listed_one tag hour rows xs ys a b = lines_one tag hour (filter is_covered rows) xs ys a b

amount_line_one : (tag : List ℕ) (hour : ℕ) (row : Charge) (x y : LineValue) → IsAmountLine tag hour row x → IsAmountLine tag hour row y → x ≡ y
amount_line_one tag hour row x y a b = a.line_is ∙ ap (amount_line hour row) (price_one tag row a.amount b.amount a.is_amount b.is_amount) ∙ sym b.line_is

pub amounts_one : (tag : List ℕ) (hour : ℕ) (rows : List Charge) (xs ys : List LineValue) → AreAmountLines tag rows hour xs → AreAmountLines tag rows hour ys → xs ≡ ys
amounts_one tag hour [] [] [] a b = refl
amounts_one tag hour [] [] (y ∷ ys) a b = absurd b
amounts_one tag hour [] (x ∷ xs) ys a b = absurd a
amounts_one tag hour (row ∷ rows) [] ys a b = absurd a
amounts_one tag hour (row ∷ rows) (x ∷ xs) [] a b = absurd b
amounts_one tag hour (row ∷ rows) (x ∷ xs) (y ∷ ys) a b =
    let first : x ≡ y = amount_line_one tag hour row x y a.0 b.0 in
    ap (λ l. x ∷ l) (amounts_one tag hour rows xs ys a.1 b.1) ∙ ap (λ l. l ∷ ys) first

-- one row more has one line more
pub amounts_more : (tag : List ℕ) (hour : ℕ) (rows : List Charge) (row : Charge) (amount : Option ℤ) (line : LineValue) (lines new : List LineValue) → AreAmountLines tag rows hour lines → IsPriceBy tag row amount
    → line ≡ amount_line hour row amount → new ≡ lines ++ line ∷ [] → AreAmountLines tag (rows ++ row ∷ []) hour new
amounts_more tag hour rows row amount line lines new are priced is added =
    let at_amount : IsAmountLine tag hour row line = record { amount = amount; is_amount = priced; line_is = is } in
    subst (AreAmountLines tag (rows ++ row ∷ []) hour) (sym added) (zip_append (IsAmountLine tag hour) rows (row ∷ []) lines (line ∷ []) are (at_amount, tt))
