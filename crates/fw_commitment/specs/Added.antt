-- What a TOML text reads as: a purchase that is added to a commitment, or the first fault.
use Rattle.std.specs.Prelude.{◌≤ℤ◌, ℕ, ℤ, pos, List, [], ◌∷◌, ◌++◌, Result, Ok, Err, codes, ⊤}
use Rattle.toml.specs.Data.{Members}
use Rattle.fw_rules.specs.Table.{FirstBroken, NoneBroken}
use Rattle.fw_toml.specs.Tree.{IsTable, HasOnly}
use Rattle.fw_commitment.specs.FieldNames.{added_names}
use Rattle.fw_commitment.specs.Fields.{HasText, HasAmount, HasSecond}
use Rattle.fw_commitment.specs.Rules.{Rule, field_rule, field_rules, id_rules}
use Rattle.fw_terms.specs.Added.{AddedValue}
use Rattle.fw_commitment.specs.declared.fault.CommitmentField.TheVariants as field
use Rattle.fw_commitment.specs.declared.fault.CommitmentFault.{CommitmentFault}
use Rattle.fw_commitment.specs.declared.fault.CommitmentFault.TheVariants as fault

-- ---- the rules, field by field, in the order in which they are checked

-- the limit of what was paid
abbrev pub IsNotNegative : ℤ → Type 0
IsNotNegative n = pos 0 ≤ℤ n

abbrev pub at_rules : Members → List Rule
at_rules ms = field_rule field.At (HasSecond ms (codes "at"))

abbrev pub billed_rules : Members → List Rule
billed_rules ms = field_rules field.Billed (HasAmount ms (codes "billed")) IsNotNegative

-- no name stands there but those of the three fields
abbrev pub other_rules : Members → List Rule
other_rules ms = (fault.Field field.Unknown, ¬ HasOnly added_names ms) ∷ []

unfoldable pub added_rules : Members → List Rule
added_rules ms = id_rules ms ++ (at_rules ms ++ (billed_rules ms ++ other_rules ms))

-- ---- the text

-- the purchase, and the id of its commitment, are what the fields of a table say
pub record AddedStands (ms : Members) (a : AddedValue) : Type 0 where
  pub id : HasText ms (codes "id") a.id
  pub at : HasSecond ms (codes "at") a.purchase.at
  pub billed : HasAmount ms (codes "billed") (pos a.purchase.billed)

-- a failed allocation may come in place of either
unfoldable pub PurchaseReads : List ℕ → Result AddedValue CommitmentFault → Type 0
PurchaseReads text (Ok a) = (ms : Members) × IsTable text ms × NoneBroken (added_rules ms) × AddedStands ms a
PurchaseReads text (Err fault.Syntax) = (ms : Members) → ¬ IsTable text ms
PurchaseReads text (Err (fault.Field f)) = (ms : Members) × IsTable text ms × FirstBroken (added_rules ms) (fault.Field f)
PurchaseReads text (Err (fault.Limit f)) = (ms : Members) × IsTable text ms × FirstBroken (added_rules ms) (fault.Limit f)
PurchaseReads text (Err fault.NoMemory) = ⊤
