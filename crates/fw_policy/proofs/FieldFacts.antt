-- The single fields of a policy's document.
use Rattle.std.proofs.Common.{◌≡◌, ◌<◌, ◌≤◌, ℕ, ℤ, List, [], length, Some, None, refl, sym, ◌∙◌, ap, inl, inr, codes, nat_abs, subst, arith}
use Rattle.std.specs.List.{All}
use Rattle.toml.specs.Data.{Data, Members, string}
use Rattle.fw_rules.specs.Table.{FirstBroken, NoneBroken}
use Rattle.fw_terms.specs.Policy.{most_text, most_rules, most_weight}
use Rattle.fw_toml.specs.Tree.{at, IsThere, IsText, IsArrayOf, IsTableOf, Anything, AreTables}
use Rattle.fw_toml.proofs.Readings.{text_there, of_text_there, absent, present, of_present, tables_of-there, tables_of-absent, tables_are}
use Rattle.std.specs.Int.{FitsUnsignedBits}
use Rattle.fw_policy.specs.Policy.{IsWeight, key_checks, array_checks, from_checks}
use Rattle.fw_policy.specs.Parts.{IsKey, IsFrom, AreRuleTables}
use Rattle.fw_policy.specs.declared.fault.PolicyField.TheVariants as field
use Rattle.fw_policy.specs.declared.fault.PolicyFault.TheVariants as fault

-- ---- key

pub no_key : (ms : Members) → ¬ IsThere (at ms (codes "key")) (IsText Anything) → FirstBroken (key_checks ms) (fault.Field field.Key)
unfolding key_checks FirstBroken
no_key ms none = inl (none, refl)

pub long_key : (ms : Members) (key : List ℕ) → at ms (codes "key") ≡ Some (string key) → ¬ ((0 < length key) × (length key ≤ most_text)) → FirstBroken (key_checks ms) (fault.Limit field.Key)
unfolding key_checks FirstBroken Anything
long_key ms key is long =
    inr (λ none. none (text_there Anything _ key is tt), inl (λ h. long (of_text_there (λ t. (0 < length t) × (length t ≤ most_text)) _ key is h), refl))

pub key_is : (ms : Members) (key : List ℕ) → at ms (codes "key") ≡ Some (string key) → 0 < length key → length key ≤ most_text → IsKey ms key
unfolding key_checks NoneBroken Anything
key_is ms key is some short = record {
  is = is;
  some = some;
  short = short;
  unbroken = (λ none. none (text_there Anything _ key is tt), (λ none. none (text_there (λ t. (0 < length t) × (length t ≤ most_text)) _ key is (some, short)), tt));
}

-- ---- from

pub no_from : (rule : Members) → ¬ IsThere (at rule (codes "from")) (IsText Anything) → FirstBroken (from_checks rule) (fault.Field field.From)
unfolding from_checks FirstBroken
no_from rule none = inl (none, refl)

pub long_from : (rule : Members) (from : List ℕ) → at rule (codes "from") ≡ Some (string from) → ¬ (length from ≤ most_text) → FirstBroken (from_checks rule) (fault.Limit field.From)
unfolding from_checks FirstBroken Anything
long_from rule from is long =
    inr (λ none. none (text_there Anything _ from is tt), inl (λ h. long (of_text_there (λ t. length t ≤ most_text) _ from is h), refl))

pub from_is : (rule : Members) (from : List ℕ) → at rule (codes "from") ≡ Some (string from) → length from ≤ most_text → IsFrom rule from
unfolding from_checks NoneBroken Anything
from_is rule from is short = record {
  is = is;
  short = short;
  unbroken = (λ none. none (text_there Anything _ from is tt), (λ none. none (text_there (λ t. length t ≤ most_text) _ from is short), tt));
}

-- ---- rule

pub no_rules : (ms : Members) → at ms (codes "rule") ≡ None → AreRuleTables ms []
unfolding array_checks NoneBroken
no_rules ms is =
    let none = tables_of-absent (at ms (codes "rule")) is in
    record { are = none; few = omega arith; unbroken = (λ h. h (absent _ _ is), (λ many. let few = ap (λ ts. length ts) none in absurd (omega arith), tt)) }

pub no_array : (ms : Members) (d : Data) → at ms (codes "rule") ≡ Some d → ¬ IsArrayOf (All (IsTableOf Anything)) d → FirstBroken (array_checks ms) (fault.Field field.Rule)
unfolding array_checks FirstBroken
no_array ms d is other = inl (λ h. other (of_present _ _ d is h), refl)

pub many_rules : (ms : Members) (d : Data) (tables : List Members) → at ms (codes "rule") ≡ Some d → AreTables tables d → most_rules < length tables → FirstBroken (array_checks ms) (fault.Limit field.Rule)
unfolding array_checks FirstBroken
many_rules ms d tables is are many =
    let same = tables_of-there _ d tables is are in
    inr (λ h. h (present _ _ d is (tables_are d tables are)), inl (rw same many, refl))

pub rules_are : (ms : Members) (d : Data) (tables : List Members) → at ms (codes "rule") ≡ Some d → AreTables tables d → length tables ≤ most_rules → AreRuleTables ms tables
unfolding array_checks NoneBroken
rules_are ms d tables is are few =
    let same = tables_of-there (at ms (codes "rule")) d tables is are in
    let long = ap (λ ts. length ts) same in
    record { are = same; few = few; unbroken = (λ h. h (present _ _ d is (tables_are d tables are)), (λ many. absurd (omega arith), tt)) }

-- ---- weights

pub large_number : (z : ℤ) (n : ℕ) → n ≡ nat_abs z → most_weight < n → ¬ IsWeight z
unfolding IsWeight
large_number z n is large (w, same, few) = let e = is ∙ ap nat_abs same in absurd (omega arith)

pub no_natural : (z : ℤ) → ¬ FitsUnsignedBits 64 z → ¬ IsWeight z
unfolding IsWeight
no_natural z none (w, same, few) = none (subst (FitsUnsignedBits 64) (sym same) (omega arith))
