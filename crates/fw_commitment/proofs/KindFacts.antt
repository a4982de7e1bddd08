-- The rules that belong to one kind of commitment.
use Rattle.std.proofs.Common.{◌≢◌, ◌++◌}
use Rattle.toml.specs.Data.{Members}
use Rattle.fw_charge.specs.declared.discount.DiscountKind.TheVariants as kind
use Rattle.fw_rules.specs.Table.{FirstBroken, NoneBroken}
use Rattle.fw_commitment.specs.Fields.{HasKind}
use Rattle.fw_commitment.specs.Rules.{only_where, terms_rules, unit_rules, skus_rules, rates_rules}
use Rattle.fw_commitment.specs.declared.fault.CommitmentFault.{CommitmentFault}
use Rattle.fw_commitment.specs.declared.fault.CommitmentFault.TheVariants as fault
use Rattle.fw_commitment.proofs.RuleFacts.{first-append, append-first, none-append, first-where, none-where, none-nowhere}
use Rattle.fw_commitment.proofs.ValueFacts.{kind-one}

one_kind : (ms : Members) → HasKind ms kind.Usage → HasKind ms kind.Spend → ⊥
one_kind ms a b = let same = kind-one ms kind.Usage kind.Spend a b in absurd (cc)

pub usage-fault : (ms : Members) (f : CommitmentFault) → HasKind ms kind.Usage → (f ≢ fault.NoMemory → FirstBroken (unit_rules ms ++ skus_rules ms) f) → f ≢ fault.NoMemory → FirstBroken (terms_rules ms) f
unfolding terms_rules
usage-fault ms f usage first other =
    let rules = unit_rules ms ++ skus_rules ms in
    first-append (only_where (HasKind ms kind.Usage) rules) (only_where (HasKind ms kind.Spend) (rates_rules ms)) f (first-where (HasKind ms kind.Usage) rules f usage (first other))

pub spend-fault : (ms : Members) (f : CommitmentFault) → HasKind ms kind.Spend → (f ≢ fault.NoMemory → FirstBroken (rates_rules ms) f) → f ≢ fault.NoMemory → FirstBroken (terms_rules ms) f
unfolding terms_rules
spend-fault ms f spend first other =
    let rules = unit_rules ms ++ skus_rules ms in
    append-first (only_where (HasKind ms kind.Usage) rules) (only_where (HasKind ms kind.Spend) (rates_rules ms)) f (none-nowhere (HasKind ms kind.Usage) rules (λ usage. one_kind ms usage spend))
    (first-where (HasKind ms kind.Spend) (rates_rules ms) f spend (first other))

pub usage-none : (ms : Members) → HasKind ms kind.Usage → NoneBroken (unit_rules ms ++ skus_rules ms) → NoneBroken (terms_rules ms)
unfolding terms_rules
usage-none ms usage none =
    let rules = unit_rules ms ++ skus_rules ms in
    none-append (only_where (HasKind ms kind.Usage) rules) (only_where (HasKind ms kind.Spend) (rates_rules ms)) (none-where (HasKind ms kind.Usage) rules none)
    (none-nowhere (HasKind ms kind.Spend) (rates_rules ms) (λ spend. one_kind ms usage spend))

pub spend-none : (ms : Members) → HasKind ms kind.Spend → NoneBroken (rates_rules ms) → NoneBroken (terms_rules ms)
unfolding terms_rules
spend-none ms spend none =
    let rules = unit_rules ms ++ skus_rules ms in
    none-append (only_where (HasKind ms kind.Usage) rules) (only_where (HasKind ms kind.Spend) (rates_rules ms)) (none-nowhere (HasKind ms kind.Usage) rules (λ usage. one_kind ms usage spend))
    (none-where (HasKind ms kind.Spend) (rates_rules ms) none)
