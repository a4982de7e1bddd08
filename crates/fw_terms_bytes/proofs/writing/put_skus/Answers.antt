use Rattle.std.proofs.Common.{arith}
use Rattle.fw_terms.proofs.Items.{short_at}
use Rattle.fw_terms_bytes.proofs.writing.put_skus.Goals as goal

pub put_text-requires : goal.put_text-requires
put_text-requires c =
    let few = (short_at c.args.skus.now c.loop-sku.sku-index c.sku-item.result c.requires c.loop-sku-test.true c.sku-item.is).few in
    rw c.as_str.ensures.value (omega arith)
