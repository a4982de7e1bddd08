use Rattle.std.proofs.Common.{arith}
use Rattle.fw_terms.proofs.Items.{short_at, skus_more}
use Rattle.fw_terms.proofs.lengths.skus_len.Goals as goal

pub text_len-len-requires : goal.text_len-len-requires
text_len-len-requires c =
    let few = (short_at c.args.skus.now c.loop-sku.sku-index c.sku-item.result c.requires c.loop-sku-test.true c.sku-item.is).few in
    rw c.as_str.ensures.value (omega arith)

pub loop-sku-preserved : goal.loop-sku-preserved
loop-sku-preserved c =
    let few = (short_at c.args.skus.now c.loop-sku.sku-index c.sku-item.result c.requires c.loop-sku-test.true c.sku-item.is).few in
    let more = skus_more c.args.skus.now c.loop-sku.sku-index c.sku-item.result c.loop-sku-test.true c.sku-item.is in
    let value = rw c.as_str.ensures.value at c.text_len-len.ensures.value in
    let sum = rw c.as_str.ensures.value at c.text_len-len.ensures.sum in
    (omega arith, omega arith)
