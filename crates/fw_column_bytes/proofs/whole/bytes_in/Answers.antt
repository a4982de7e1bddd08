use Rattle.std.proofs.Common.{◌≡◌, ◌<◌, Ok, get_or, length, drop, arith, ap, sym, ◌∙◌}
use Rattle.std.proofs.lemmas.List.{get_or-take, length-take-le}
use Rattle.fw_column_bytes.proofs.WholeFacts.{bytes_begin, bytes_read, one_more_byte}
use Rattle.fw_column_bytes.proofs.whole.bytes_in.Goals as goal

pub loop-byte-init : goal.loop-byte-init
loop-byte-init c = bytes_begin c.args.least c.args.most c.args.count c.args.bytes.now

pub loop-byte-preserved : goal.loop-byte-preserved
loop-byte-preserved c =
    let bytes = c.args.bytes.now in
    let count = c.args.count in
    let i = c.loop-byte.byte-index in
    let size : length c.split_at.result.0.now ≡ count = ap length c.split_at.ensures.front ∙ length-take-le count bytes c.requires in
    let lt : i < count = omega (arith, size, c.loop-byte-test.true) in
    let here : get_or c.split_at.result.0.now i 0 ≡ get_or bytes i 0 = ap (λ front. get_or front i 0) c.split_at.ensures.front ∙ get_or-take count bytes i 0 lt in
    rw here (one_more_byte c.args.least c.args.most c.loop-byte.is_right i count bytes c.loop-byte.invariant lt c.requires)

pub returns : goal.returns
returns c =
    let bytes = c.args.bytes.now in
    let count = c.args.count in
    let size : length c.split_at.result.0.now ≡ count = ap length c.split_at.ensures.front ∙ length-take-le count bytes c.requires in
    let end : c.loop-byte.byte-index ≡ count = omega (arith, size, c.loop-byte-test.false, c.loop-byte.auto.byte-index-end) in
    λ right. bytes_read c.args.least c.args.most _ c.loop-byte.byte-index count bytes c.loop-byte.invariant end right ∙ ap (λ items. Ok (items, drop count bytes)) (sym (c.in_ok-column.ensures.items ∙ c.split_at.ensures.front))
