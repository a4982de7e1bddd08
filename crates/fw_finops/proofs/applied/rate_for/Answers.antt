use Rattle.std.proofs.Common.{◌∙◌, None, Some, ap, cond}
use Rattle.std.specs.Prelude.{find, option_map, string_bytes}
use Rattle.std.specs.List.{list_any}
use Rattle.std.specs.Str.{bytes_eq}
use Rattle.fw_finops.proofs.ListedFacts.{listed_rates, listed_skus}
use Rattle.fw_finops.proofs.applied.rate_for.Goals as goal

pub returns-in-Usage : goal.returns-in-Usage
returns-in-Usage c =
    rw c.in-Usage.is
    (c.rate_by_quantity.ensures ∙ ap (λ skus. cond (list_any (λ s. bytes_eq (string_bytes s) c.args.sku.now) skus) (Some None) None) c.deref.ensures.value ∙ listed_skus c.args.sku.now (string_bytes c.in-Usage.unit) c.in-Usage.skus.items)

pub returns-in-Spend : goal.returns-in-Spend
returns-in-Spend c =
    rw c.in-Spend.is
    (c.rate_by_cost.ensures ∙ ap (λ rates. option_map (λ r. Some r.ppm) (find (λ r. bytes_eq r.sku c.args.sku.now) rates)) c.deref-in-Spend.ensures.value ∙ listed_rates c.args.sku.now c.in-Spend.rates.items)
