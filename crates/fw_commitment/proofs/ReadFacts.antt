-- What a text reads as, from what is found in its table.
use Rattle.std.proofs.Common.{◌≡◌, ◌<ℤ◌, ℕ, ℤ, pos, nat_abs, List, [], ◌∷◌, Bool, true, false, Result, Ok, Err, refl, ap, ◌∙◌, arith, inl, inr}
use Rattle.std.specs.Prelude.{◌&&◌}
use Rattle.std.proofs.lemmas.Bool.{and_parts}
use Rattle.std.proofs.lemmas.Int.{ints}
use Rattle.toml.specs.Data.{Members}
use Rattle.fw_rules.specs.Table.{FirstBroken}
use Rattle.fw_terms.specs.Commitment.{CommitmentValue}
use Rattle.fw_toml.specs.Tree.{IsTable}
use Rattle.fw_commitment.specs.Finding.{Finds}
use Rattle.fw_commitment.specs.Reading.{CommitmentReads, Stands}
use Rattle.fw_commitment.specs.Rules.{Rule, rules_of, id_and_term_rules, terms_rules, billing_rules}
use Rattle.fw_commitment.specs.declared.fault.CommitmentFault.{CommitmentFault}
use Rattle.fw_commitment.specs.declared.fault.CommitmentFault.TheVariants as fault

-- ---- a rule tells of a field

abbrev pub of_field : CommitmentFault → Bool
of_field (fault.Field f) = true
of_field (fault.Limit f) = true
of_field fault.Syntax = false
of_field fault.NoMemory = false

abbrev pub are_of_fields : List Rule → Bool
are_of_fields [] = true
are_of_fields (r ∷ rules) = of_field r.0 && are_of_fields rules

pub first-of_field : (rules : List Rule) (f : CommitmentFault) → are_of_fields rules ≡ true → FirstBroken rules f → of_field f ≡ true
unfolding FirstBroken
first-of_field [] f all first = absurd first
first-of_field (r ∷ rules) f all (inl here) = let both = and_parts (of_field r.0) (are_of_fields rules) all in ap of_field here.1 ∙ both.0
first-of_field (r ∷ rules) f all (inr later) = let both = and_parts (of_field r.0) (are_of_fields rules) all in first-of_field rules f both.1 later.1

rules-of_fields : (ms : Members) → are_of_fields (rules_of ms) ≡ true
unfolding rules_of id_and_term_rules terms_rules billing_rules
rules-of_fields ms = refl

-- ---- the text

pub reads-found : (text : List ℕ) (ms : Members) (r : Result CommitmentValue CommitmentFault) → IsTable text ms → Finds (rules_of ms) (Stands ms) r → CommitmentReads text r
unfolding CommitmentReads
reads-found text ms (Ok c) is found = (ms, is, found.0, found.1)
reads-found text ms (Err (fault.Field f)) is found = (ms, is, found (λ e. absurd (cc)))
reads-found text ms (Err (fault.Limit f)) is found = (ms, is, found (λ e. absurd (cc)))
reads-found text ms (Err fault.Syntax) is found = let not = first-of_field (rules_of ms) fault.Syntax (rules-of_fields ms) (found (λ e. absurd (cc))) in absurd (cc)
reads-found text ms (Err fault.NoMemory) is found = tt

pub amount_of : (z : ℤ) → pos 0 <ℤ z → pos (nat_abs z) ≡ z
amount_of z some = omega (arith, ints)
