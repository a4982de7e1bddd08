use Rattle.std.proofs.Common.{◌∙◌, sym}
use Rattle.fw_finops.proofs.PricedFacts.{adds_line, adds_no_line}
use Rattle.fw_finops.proofs.listed.push_row.Goals as goal

pub returns-then-not-is_covered : goal.returns-then-not-is_covered
returns-then-not-is_covered c = adds_no_line c.args.tag.now c.args.hour c.args.row.now c.args.lines.now.items (sym c.is_covered.ensures ∙ c.if-not-is_covered.true)

pub returns : goal.returns
returns c =
    adds_line c.args.tag.now c.args.hour c.args.row.now c.price_by-price.result c.listed_line.result c.args.lines.now.items _ (sym c.is_covered.ensures ∙ c.if-not-is_covered.false)
    c.price_by-price.ensures c.listed_line.ensures c.in_ok-push.ensures.items
