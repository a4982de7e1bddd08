-- What a TOML text reads as: its commitment, or its first fault.
use Rattle.std.specs.Prelude.{ℕ, List, pos, Result, Ok, Err, codes, ⊤}
use Rattle.toml.specs.Data.{Members}
use Rattle.fw_rules.specs.Table.{FirstBroken, NoneBroken}
use Rattle.fw_terms.specs.Commitment.{CommitmentValue, TermsValue, kind_of}
use Rattle.fw_terms.specs.Commitment.TermsValue.{usage, spend}
use Rattle.fw_toml.specs.Tree.{IsTable}
use Rattle.fw_commitment.specs.Fields.{HasText, HasInteger, HasAmount, HasKind, HasHour, HasSkus, HasRates, HasAccount, HasTags, HasPurchases}
use Rattle.fw_commitment.specs.Rules.{rules_of, rates_stated, purchases_stated}
use Rattle.fw_commitment.specs.declared.fault.CommitmentFault.{CommitmentFault}
use Rattle.fw_commitment.specs.declared.fault.CommitmentFault.TheVariants as fault

abbrev pub TermsStand : Members → TermsValue → Type 0
TermsStand ms (usage unit skus) = HasText ms (codes "unit") unit × HasSkus ms skus
TermsStand ms (spend rates) = HasRates ms (rates_stated rates)

-- the commitment has what the fields of a table say
pub record Stands (ms : Members) (c : CommitmentValue) : Type 0 where
  pub id : HasText ms (codes "id") c.id
  pub kind : HasKind ms (kind_of c.terms)
  pub start : HasHour ms c.start
  pub hours : HasInteger ms (codes "hours") (pos c.hours)
  pub capacity : HasAmount ms (codes "capacity") (pos c.capacity)
  pub terms : TermsStand ms c.terms
  pub sub_account : HasAccount ms c.sub_account
  pub tags : HasTags ms c.tags
  pub purchases : HasPurchases ms (purchases_stated c.purchases)

-- a failed allocation may come in place of either
unfoldable pub CommitmentReads : List ℕ → Result CommitmentValue CommitmentFault → Type 0
CommitmentReads text (Ok c) = (ms : Members) × IsTable text ms × NoneBroken (rules_of ms) × Stands ms c
CommitmentReads text (Err fault.Syntax) = (ms : Members) → ¬ IsTable text ms
CommitmentReads text (Err (fault.Field f)) = (ms : Members) × IsTable text ms × FirstBroken (rules_of ms) (fault.Field f)
CommitmentReads text (Err (fault.Limit f)) = (ms : Members) × IsTable text ms × FirstBroken (rules_of ms) (fault.Limit f)
CommitmentReads text (Err fault.NoMemory) = ⊤
