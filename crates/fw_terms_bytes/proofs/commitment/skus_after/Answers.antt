use Rattle.std.proofs.Common.{[], ◌∷◌, map, string_bytes}
use Rattle.std.proofs.lemmas.List.{map-append}
use Rattle.std.proofs.lemmas.Result.{err_from_is_err_and}
use Rattle.fw_bytes.specs.Reading.{times}
use Rattle.fw_bytes.proofs.Loop.{goes_on, ends, is_done}
use Rattle.fw_fields.specs.Reading.{short_text_at}
use Rattle.fw_terms_bytes.proofs.commitment.skus_after.Goals as goal

pub returns-in_err-sku : goal.returns-in_err-sku
returns-in_err-sku c =
    let p = err_from_is_err_and c.from_residual.result c.from_residual.ensures.1 in
    rw (p.1, p.2) (ends short_text_at c.in_err-sku.field-0.0 (map string_bytes c.loop.skus.items) c.args.count c.loop.counter c.loop.rest.now (times short_text_at c.args.count c.args.bytes.now) c.loop-test.true c.in_err-sku.ensures c.loop.invariant)

pub loop-preserved : goal.loop-preserved
loop-preserved c =
    rw (c.in_ok-push.ensures.items, map-append string_bytes c.loop.skus.items (c.in_ok-sku.sku ∷ []))
    (goes_on short_text_at (map string_bytes c.loop.skus.items) c.args.count c.loop.counter c.loop.rest.now (string_bytes c.in_ok-sku.sku) c.in_ok-sku.after.now (times short_text_at c.args.count c.args.bytes.now) c.loop-test.true c.in_ok-sku.ensures c.loop.invariant)

pub returns : goal.returns
returns c = is_done short_text_at (map string_bytes c.loop.skus.items) c.args.count c.loop.counter c.loop.rest.now (times short_text_at c.args.count c.args.bytes.now) c.loop-test.false c.loop.invariant
