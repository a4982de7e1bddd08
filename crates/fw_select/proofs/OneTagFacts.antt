-- A selector of one tag beside a report by that tag.
use Rattle.std.proofs.Common.{◌≡◌, ◌∙◌, ℕ, pos, List, [], ◌∷◌, map, filter, cond, true, refl, ap}
use Rattle.fw_amortise.specs.LineValue.{LineValue}
use Rattle.fw_charge.specs.Tags.{group_of}
use Rattle.fw_sums.specs.Costs as sums
use Rattle.fw_select.specs.Keys.{value}
use Rattle.fw_select.specs.Laws.{IsOneTag, of_one_text}
use Rattle.fw_select.specs.Selectors.{costs_of, group_by, group_on, is_taken, line_cost, passes}
use Rattle.fw_select.specs.declared.selector.Selector.{Selector}

-- the one key's value on a line is the tag's text
text_on : (name : List ℕ) (s : Selector) (line : LineValue) (is : IsOneTag name s) → value is.key line ≡ group_of name line.tags
unfolding value
text_on name s line is = rw (is.plain, is.source, is.name_is) refl

-- so the group of a line is that text alone
group_is : (name : List ℕ) (s : Selector) (line : LineValue) → IsOneTag name s → group_on s line ≡ group_of name line.tags ∷ []
group_is name s line is = ap (λ keys. group_by keys line) is.keys ∙ ap (λ text. text ∷ []) (text_on name s line is)

-- every line is taken
taken : (name : List ℕ) (s : Selector) (line : LineValue) → IsOneTag name s → is_taken s line ≡ true
taken name s line is = ap (λ filters. passes filters line) is.filters

first_is : (s : Selector) (line : LineValue) (lines : List LineValue) → is_taken s line ≡ true → costs_of s (line ∷ lines) ≡ line_cost s line ∷ costs_of s lines
first_is s line lines e = ap (λ b. map (line_cost s) (cond b (line ∷ filter (is_taken s) lines) (filter (is_taken s) lines))) e

-- what the lines bring is the same
pub counts_the_same : (name : List ℕ) (s : Selector) (lines : List LineValue) → IsOneTag name s → costs_of s lines ≡ of_one_text (sums.costs_of name lines)
counts_the_same name s [] is = refl
counts_the_same name s (line ∷ lines) is =
    first_is s line lines (taken name s line is)
    ∙ (λ j. record { group = group_is name s line is j; billed = line.billed; effective = line.effective; amount = pos 0 } ∷ counts_the_same name s lines is j)
