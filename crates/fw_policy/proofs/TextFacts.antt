-- What a text reads as.
use Rattle.std.proofs.Common.{◌≡◌, ◌≢◌, ◌⊎◌, ℕ, List, [], ◌∷◌, ◌++◌, Result, Ok, Err, refl, sym, ◌∙◌, ap, inl, inr, subst}
use Rattle.toml.specs.Data.{Members}
use Rattle.fw_rules.specs.Table.{FirstBroken, NoneBroken}
use Rattle.fw_rules.proofs.TableLaws.{first-one, first-not_none}
use Rattle.fw_terms.specs.Policy.{PolicyValue}
use Rattle.fw_toml.specs.Tree.{IsTable}
use Rattle.fw_toml.proofs.Readings.{table-one}
use Rattle.fw_policy.specs.Policy.{key_checks, array_checks, from_checks, give_checks, rule_checks, rules_checks, unknown_checks, group_checks, policy_checks, rules_in, TableReads, PolicyReads}
use Rattle.fw_policy.specs.Parts.{TableGives}
use Rattle.fw_policy.specs.declared.fault.PolicyFault.{PolicyFault}
use Rattle.fw_policy.specs.declared.fault.PolicyFault.TheVariants as fault
use Rattle.fw_policy.proofs.CheckFacts.{AllFaults, faults-both, first-tells, none-left, none-right}
use Rattle.fw_policy.proofs.OneReading.{policy-one}

-- ---- a table is no fault of the text

abbrev IsOfTable : PolicyFault → Type 0
IsOfTable f = f ≢ fault.Syntax

key_told : (ms : Members) → AllFaults IsOfTable (key_checks ms)
unfolding AllFaults key_checks
key_told ms = (λ e. cc, (λ e. cc, tt))

array_told : (ms : Members) → AllFaults IsOfTable (array_checks ms)
unfolding AllFaults array_checks
array_told ms = (λ e. cc, (λ e. cc, tt))

rule_told : (rule : Members) → AllFaults IsOfTable (rule_checks rule)
unfolding AllFaults rule_checks from_checks give_checks
rule_told rule = (λ e. cc, (λ e. cc, (λ e. cc, (λ e. cc, (λ e. cc, (λ e. cc, tt))))))

rules_told : (rules : List Members) → AllFaults IsOfTable (rules_checks rules)
unfolding AllFaults
rules_told [] = tt
rules_told (rule ∷ rules) = faults-both IsOfTable (rule_checks rule) (rules_checks rules) (rule_told rule) (rules_told rules)

unknown_told : (ms : Members) → AllFaults IsOfTable (unknown_checks ms)
unfolding AllFaults unknown_checks
unknown_told ms = (λ e. cc, tt)

group_told : (ms : Members) → AllFaults IsOfTable (group_checks ms)
unfolding AllFaults group_checks
group_told ms = (λ e. cc, (λ e. cc, tt))

no_syntax : (ms : Members) → FirstBroken (policy_checks ms) fault.Syntax → ⊥
unfolding policy_checks
no_syntax ms first =
    first-tells IsOfTable (policy_checks ms) fault.Syntax
    (faults-both IsOfTable (key_checks ms) _ (key_told ms)
    (faults-both IsOfTable (array_checks ms) _ (array_told ms)
    (faults-both IsOfTable (rules_checks (rules_in ms)) _ (rules_told (rules_in ms)) (faults-both IsOfTable (unknown_checks ms) (group_checks ms) (unknown_told ms) (group_told ms)))))
    first refl

pub table_reads : (text : List ℕ) (ms : Members) (r : Result PolicyValue PolicyFault) → IsTable text ms → TableGives ms r → PolicyReads text r
unfolding PolicyReads
table_reads text ms (Ok p) is (inl memory) = absurd (cc)
table_reads text ms (Ok p) is (inr reads) = (ms, is, reads)
table_reads text ms (Err fault.Syntax) is (inl memory) = absurd (cc)
table_reads text ms (Err fault.Syntax) is (inr first) = absurd (no_syntax ms first)
table_reads text ms (Err (fault.Field f)) is (inl memory) = absurd (cc)
table_reads text ms (Err (fault.Field f)) is (inr first) = (ms, is, first)
table_reads text ms (Err (fault.Limit f)) is (inl memory) = absurd (cc)
table_reads text ms (Err (fault.Limit f)) is (inr first) = (ms, is, first)
table_reads text ms (Err fault.DoubleFrom) is (inl memory) = absurd (cc)
table_reads text ms (Err fault.DoubleFrom) is (inr first) = (ms, is, first)
table_reads text ms (Err fault.TargetIsFrom) is (inl memory) = absurd (cc)
table_reads text ms (Err fault.TargetIsFrom) is (inr first) = (ms, is, first)
table_reads text ms (Err fault.NoMemory) is g = tt

pub syntax_reads : (text : List ℕ) → ((ms : Members) → ¬ IsTable text ms) → PolicyReads text (Err fault.Syntax)
unfolding PolicyReads
syntax_reads text none = none

pub memory_reads : (text : List ℕ) → PolicyReads text (Err fault.NoMemory)
unfolding PolicyReads
memory_reads text = tt

-- ---- a text reads as one thing

abbrev NoTable : List ℕ → Result PolicyValue PolicyFault → Type 0
NoTable text r = (r ≡ Err fault.Syntax) × ((ms : Members) → ¬ IsTable text ms)

abbrev SomeTable : List ℕ → Result PolicyValue PolicyFault → Type 0
SomeTable text r = (ms : Members) × IsTable text ms × TableReads ms r

either : (text : List ℕ) (r : Result PolicyValue PolicyFault) → r ≢ Err fault.NoMemory → PolicyReads text r → NoTable text r ⊎ SomeTable text r
unfolding PolicyReads
either text (Ok p) other reads = inr reads
either text (Err fault.Syntax) other reads = inl (refl, reads)
either text (Err (fault.Field f)) other reads = inr reads
either text (Err (fault.Limit f)) other reads = inr reads
either text (Err fault.DoubleFrom) other reads = inr reads
either text (Err fault.TargetIsFrom) other reads = inr reads
either text (Err fault.NoMemory) other reads = absurd (other refl)

unbroken : (ms : Members) → NoneBroken (policy_checks ms) → NoneBroken (rules_checks (rules_in ms))
unfolding policy_checks
unbroken ms none = none-left (rules_checks (rules_in ms)) (unknown_checks ms ++ group_checks ms) (none-right (array_checks ms) _ (none-right (key_checks ms) _ none))

table_one : (ms : Members) (r s : Result PolicyValue PolicyFault) → TableReads ms r → TableReads ms s → r ≡ s
table_one ms (Ok p) (Ok q) a b = ap (λ x. Ok x) (policy-one ms p q (unbroken ms a.0) a.1 b.1)
table_one ms (Ok p) (Err f) a b = absurd (first-not_none (policy_checks ms) f b a.0)
table_one ms (Err f) (Ok q) a b = absurd (first-not_none (policy_checks ms) f a b.0)
table_one ms (Err f) (Err g) a b = ap (λ x. Err x) (first-one (policy_checks ms) f g a b)

apart : (text : List ℕ) (r s : Result PolicyValue PolicyFault) → NoTable text r ⊎ SomeTable text r → NoTable text s ⊎ SomeTable text s → r ≡ s
apart text r s (inl a) (inl b) = a.0 ∙ sym b.0
apart text r s (inl a) (inr (ms, is, reads)) = absurd (a.1 ms is)
apart text r s (inr (ms, is, reads)) (inl b) = absurd (b.1 ms is)
apart text r s (inr (ms, is, reads)) (inr (ns, same, others)) = table_one ms r s reads (subst (λ x. TableReads x s) (table-one text ns ms same is) others)

pub text-one : (text : List ℕ) (r s : Result PolicyValue PolicyFault) → r ≢ Err fault.NoMemory → s ≢ Err fault.NoMemory → PolicyReads text r → PolicyReads text s → r ≡ s
text-one text r s p q a b = apart text r s (either text r p a) (either text s q b)
