use Rattle.std.proofs.Common.{rules, tests}
use Rattle.std.proofs.lemmas.Iterator.{YieldsList-from_slice}
use Rattle.std.proofs.lemmas.Iterator.Search.{find_from_yields_List}
use Rattle.std.specs.Str.{bytes_eq}
use Rattle.fw_finops.proofs.applied.rate_of.Goals as goal

pub returns : goal.returns
returns c =
    find_from_yields_List (λ r. bytes_eq r.sku c.args.sku.now) _ _ c.find.result c.find.ensures.ran (YieldsList-from_slice c.args.rates.now cc) (λ x b q k. search (rules, tests))
