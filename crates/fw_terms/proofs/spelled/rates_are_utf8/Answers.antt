use Rattle.std.specs.Str.{IsUtf8}
use Rattle.fw_terms.specs.Commitment.{RateValue}
use Rattle.fw_terms.proofs.Items.{one_more, of_all}
use Rattle.fw_terms.proofs.spelled.rates_are_utf8.Goals as goal

pub loop-one-preserved : goal.loop-one-preserved
loop-one-preserved c =
    one_more (λ (r : RateValue). IsUtf8 r.sku) c.args.rates.now c.loop-one.one-index c.one-item.result c.loop-one-test.true c.one-item.is (rw c.sku-sku.ensures at c.sku-sku.utf8) c.loop-one.invariant

pub returns : goal.returns
returns c = of_all (λ (r : RateValue). IsUtf8 r.sku) c.args.rates.now c.loop-one.one-index c.loop-one-test.false c.loop-one.invariant
