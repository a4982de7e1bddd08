-- Reading commitments, purchases that are added to them, and policies.
use Rattle.std.specs.Prelude.{ℕ, zero, suc, ℤ, pos, negsuc, nat_abs, Bool, true, false, ◌&&◌, not, List, [], ◌∷◌, length, map, Option, Ok, Err, nat_lt, nat_le}
use Rattle.std.specs.Int.{w32, w64}
use Rattle.fw_money.specs.Amount.{most_nanos}
use Rattle.fw_bytes.specs.Order.{rise}
use Rattle.fw_bytes.specs.Reading.{Reading, ◌>>=◌, number_at, text_at, code_at, optional_at, checked, both, seen, list_at}
use Rattle.fw_charge.specs.Tags.{TagText}
use Rattle.fw_charge.specs.Codes.{kind_of}
use Rattle.fw_charge.specs.declared.discount.DiscountKind.{DiscountKind}
use Rattle.fw_charge.specs.declared.discount.DiscountKind.TheVariants as kind
use Rattle.fw_terms.specs.Commitment.{PurchaseValue, RateValue, TermsValue, CommitmentValue, cost_of, most_skus, most_ppm, most_purchases, most_hours}
use Rattle.fw_terms.specs.Commitment.TermsValue.{usage, spend}
use Rattle.fw_terms.specs.Added.{AddedValue}
use Rattle.fw_terms.specs.Policy.{TargetValue, GiveValue, RuleValue, PolicyValue, most_text, most_rules, most_targets, most_weight, policy_value}
use Rattle.fw_terms.specs.Policy.GiveValue.{fixed, proportional}
use Rattle.fw_charge.specs.Spelling.{keys_rise}
use Rattle.fw_fields.specs.Reading.{nanos_at, second_at, short_text_at, tag_text_at, tags_at}
use Rattle.fw_terms.specs.Groups.{has_double_from, has_target_from}
use Rattle.fw_charge.specs.Charge.{last_hour}

-- a field, and one behind it whose format its value decides
unfoldable pub then_by : {A B : Type 0} → Reading A → (A → Reading B) → Reading (A × B)
then_by first next bytes = do
  x ← first bytes
  y ← next x.0 x.1
  Ok ((x.0, y.0), y.1)

-- a kind, and what stands behind it for that kind
unfoldable pub of_kind : {K A : Type 0} → Reading K → (K → Reading A) → Reading A
of_kind read next bytes = do
  kind ← read bytes
  next kind.0 kind.1

-- ---- a commitment: single fields, each with its range

-- the first hour of a term, up to the last of the year 9999
abbrev pub is_start : ℕ → Bool
is_start n = nat_le n last_hour

-- how many hours a term has
abbrev pub is_hours : ℕ → Bool
is_hours n = nat_lt 0 n && nat_le n most_hours

-- the parts per million of a rate
abbrev pub is_ppm : ℕ → Bool
is_ppm n = nat_lt 0 n && nat_le n most_ppm

-- an amount of at least 0
abbrev pub is_cost : ℤ → Bool
is_cost (pos n) = true
is_cost (negsuc n) = false

-- an amount above 0
abbrev pub is_capacity : ℤ → Bool
is_capacity (pos n) = nat_lt 0 n
is_capacity (negsuc n) = false

unfoldable pub start_at : Reading ℕ
start_at = checked is_start (number_at w32)

unfoldable pub hours_at : Reading ℕ
hours_at = checked is_hours (number_at w32)

unfoldable pub capacity_at : Reading ℕ
capacity_at = seen nat_abs (checked is_capacity nanos_at)

unfoldable pub cost_at : Reading ℕ
cost_at = seen nat_abs (checked is_cost nanos_at)

unfoldable pub ppm_at : Reading ℕ
ppm_at = checked is_ppm (number_at w32)

-- ---- the fields of a commitment, in turn: a head with the kind, and what is read by the kind

-- id, kind, account and tags
abbrev pub Names : Type 0
Names = List ℕ × (DiscountKind × (Option (List ℕ) × List TagText))

unfoldable pub names_at : Reading Names
names_at = both short_text_at (both (code_at kind_of) (both (optional_at short_text_at) tags_at))

-- the first hour, the number of hours, and what each of them holds
abbrev pub Term : Type 0
Term = ℕ × (ℕ × ℕ)

unfoldable pub term_at : Reading Term
term_at = both start_at (both hours_at capacity_at)

-- the SKUs of a commitment to usage
unfoldable pub skus_at : Reading (List (List ℕ))
skus_at = list_at 1 most_skus short_text_at

abbrev pub rate_from : List ℕ × ℕ → RateValue
rate_from f = record { sku = f.0; ppm = f.1 }

unfoldable pub rate_at : Reading RateValue
rate_at = seen rate_from (both short_text_at ppm_at)

unfoldable pub rates_at : Reading (List RateValue)
rates_at = list_at 1 most_skus rate_at

abbrev pub usage_from : List ℕ × List (List ℕ) → TermsValue
usage_from f = usage f.0 f.1

-- what is committed to, by the kind that was read
unfoldable pub committed_at : DiscountKind → Reading TermsValue
committed_at kind.Usage = seen usage_from (both short_text_at skus_at)
committed_at kind.Spend = seen spend rates_at

abbrev pub purchase_from : ℕ × ℕ → PurchaseValue
purchase_from f = record { at = f.0; billed = f.1 }

unfoldable pub purchase_at : Reading PurchaseValue
purchase_at = seen purchase_from (both second_at cost_at)

unfoldable pub purchases_at : Reading (List PurchaseValue)
purchases_at = list_at 1 most_purchases purchase_at

abbrev pub Head : Type 0
Head = Names × Term

abbrev pub Fields : Type 0
Fields = Head × (TermsValue × List PurchaseValue)

unfoldable pub head_at : Reading Head
head_at = both names_at term_at

-- the fields, in order, each in its range
unfoldable pub fields_at : Reading Fields
fields_at = then_by head_at (λ head. both (committed_at head.0.1.0) purchases_at)

abbrev pub commitment_from : Fields → CommitmentValue
commitment_from f = record {
  id = f.0.0.0;
  terms = f.1.0;
  sub_account = f.0.0.1.1.0;
  tags = f.0.0.1.1.1;
  start = f.0.1.0;
  hours = f.0.1.1.0;
  capacity = f.0.1.1.1;
  purchases = f.1.1;
}

-- the SKUs stand in rising order
abbrev pub skus_rise : TermsValue → Bool
skus_rise (usage unit skus) = rise skus
skus_rise (spend rates) = rise (map (λ r. r.sku) rates)

-- the rules over several fields: the tags' keys and the SKUs stand in rising order, and the purchases together cost no more than is allowed
unfoldable pub commitment_rules : CommitmentValue → Bool
commitment_rules c = keys_rise c.tags && (skus_rise c.terms && nat_le (cost_of c.purchases) most_nanos)

-- a commitment; a fault of the rules over several fields is at its first byte
unfoldable pub commitment_at : Reading CommitmentValue
commitment_at = checked commitment_rules (seen commitment_from fields_at)

-- ---- a purchase that is added: the id of its commitment, and what was paid
abbrev pub added_from : List ℕ × PurchaseValue → AddedValue
added_from f = record { id = f.0; purchase = f.1 }

unfoldable pub added_at : Reading AddedValue
added_at = seen added_from (both short_text_at purchase_at)

-- ---- a policy

-- the tag key whose values are the groups: a text of 1 to 1,024 bytes
abbrev pub is_key : List ℕ → Bool
is_key bytes = nat_lt 0 (length bytes) && nat_le (length bytes) most_text

abbrev pub is_weight : ℕ → Bool
is_weight n = nat_le n most_weight

unfoldable pub key_at : Reading (List ℕ)
key_at = checked is_key text_at

unfoldable pub weight_at : Reading ℕ
weight_at = checked is_weight (number_at w64)

-- a group has at most as many bytes as a tag's text
abbrev pub target_from : List ℕ × ℕ → TargetValue
target_from f = record { group = f.0; weight = f.1 }

unfoldable pub target_at : Reading TargetValue
target_at = seen target_from (both tag_text_at weight_at)

unfoldable pub targets_at : Reading (List TargetValue)
targets_at = list_at 1 most_targets target_at

-- a kind, and for the first the targets
unfoldable pub give_at : Reading GiveValue
give_at [] = Err 0
give_at (zero ∷ rest) = Err (suc (length rest))
give_at (suc zero ∷ rest) = seen fixed targets_at rest
give_at (suc (suc zero) ∷ rest) = Ok (proportional, rest)
give_at (suc (suc (suc b)) ∷ rest) = Err (suc (length rest))

abbrev pub rule_from : List ℕ × GiveValue → RuleValue
rule_from f = record { from = f.0; give = f.1 }

unfoldable pub rule_at : Reading RuleValue
rule_at = seen rule_from (both tag_text_at give_at)

unfoldable pub rules_at : Reading (List RuleValue)
rules_at = list_at 0 most_rules rule_at

abbrev pub policy_from : List ℕ × List RuleValue → PolicyValue
policy_from f = policy_value f.0 f.1

unfoldable pub parts_at : Reading (List ℕ × List RuleValue)
parts_at = both key_at rules_at

-- the targets of a rule stand in rising order
abbrev pub targets_rise : GiveValue → Bool
targets_rise (fixed targets) = rise (map (λ t. t.group) targets)
targets_rise proportional = true

-- so do those of each rule
abbrev pub all_rise : List RuleValue → Bool
all_rise [] = true
all_rise (rule ∷ rules) = targets_rise rule.give && all_rise rules

-- the rules over several fields: targets stand in rising order, no group gives away twice, and none that gives away is given to
abbrev pub rules_agree : List RuleValue → Bool
rules_agree rules = all_rise rules && (not (has_double_from rules) && not (has_target_from rules rules))

abbrev pub policy_rules : PolicyValue → Bool
policy_rules p = rules_agree p.rules

-- a policy; a fault of the rules over several fields is at its first byte
unfoldable pub policy_at : Reading PolicyValue
policy_at = checked policy_rules (seen policy_from parts_at)
