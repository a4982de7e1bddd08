-- What the parts of the reader hold. Its private functions cite it.
use Rattle.std.specs.Prelude.{◌<◌, ◌≤◌, ◌<ℤ◌, pos, option_map, string_bytes, codes}
use Rattle.toml.specs.Data.{Members}
use Rattle.fw_charge.specs.Charge.{IsShortText, last_hour}
use Rattle.fw_charge.specs.Tags.{IsTags}
use Rattle.fw_terms.specs.Commitment.{ArePurchases, most_hours}
use Rattle.fw_commitment.specs.Fields.{HasText, HasInteger, HasAmount, HasKind, HasHour, HasAccount, HasTags, HasPurchases}
use Rattle.fw_commitment.specs.Rules.{IsAccount, purchases_stated}
use Rattle.fw_commitment.specs.declared.id_and_term.IdAndTerm.{IdAndTerm}
use Rattle.fw_commitment.specs.declared.billing.Billing.{Billing}

-- id, kind and term, within their limits
pub record IsIdAndTerm (ms : Members) (h : IdAndTerm) : Type 0 where
  pub id : HasText ms (codes "id") (string_bytes h.id)
  pub id_short : IsShortText (string_bytes h.id)
  pub kind : HasKind ms h.kind
  pub start : HasHour ms h.start
  pub start_most : h.start ≤ last_hour
  pub hours : HasInteger ms (codes "hours") (pos h.hours)
  pub hours_some : 0 < h.hours
  pub hours_most : h.hours ≤ most_hours
  pub capacity : HasAmount ms (codes "capacity") h.capacity
  pub capacity_some : pos 0 <ℤ h.capacity

-- whom it is for, its tags, and what was paid, within their limits
pub record IsBilling (ms : Members) (b : Billing) : Type 0 where
  pub sub_account : HasAccount ms (option_map string_bytes b.sub_account)
  pub sub_account_short : IsAccount (option_map string_bytes b.sub_account)
  pub tags : HasTags ms b.tags
  pub tags_few : IsTags b.tags
  pub purchases : HasPurchases ms (purchases_stated b.purchases.items)
  pub purchases_few : ArePurchases b.purchases.items
