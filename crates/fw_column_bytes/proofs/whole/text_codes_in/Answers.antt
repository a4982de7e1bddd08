use Rattle.std.proofs.Common.{◌≡◌, ◌+◌, ◌*◌, drop, length, ap, arith, rules}
use Rattle.std.specs.Prelude.{map, string_bytes}
use Rattle.fw_column_bytes.specs.Reading.{is_text_code, text_code_at}
use Rattle.fw_column_bytes.proofs.WholeFacts.{all_read, begins, one_more, reads_text_code}
use Rattle.fw_column_bytes.proofs.whole.text_codes_in.Goals as goal

pub loop-place-init : goal.loop-place-init
loop-place-init c =
    let long : length c.in_ok-column.column.items ≡ c.args.count = search rules in
    begins (text_code_at (map string_bytes c.args.names.now)) 4 c.in_ok-column.column.items c.args.count c.args.bytes.now long

pub loop-place-preserved : goal.loop-place-preserved
loop-place-preserved c =
    let l = c.loop-place in
    let bytes = c.args.bytes.now in
    let names = map string_bytes c.args.names.now in
    let code = c.narrow_at-code.result in
    let next : 4 * l.place + 4 ≡ 4 * (l.place + 1) = omega arith in
    rw c.is_text_code-is_right.ensures
    (one_more (text_code_at names) 4 l.column.items l.is_right (is_text_code names code) l.place c.args.count bytes code (drop (4 * l.place + 4) bytes) l.invariant c.loop-place-test.true (ap (λ n. drop n bytes) next)
    (λ ok. reads_text_code names (drop (4 * l.place) bytes) (drop (4 * l.place + 4) bytes) code c.narrow_at-code.ensures ok))

pub returns : goal.returns
returns c =
    λ right. all_read (text_code_at (map string_bytes c.args.names.now)) 4 _ _ c.loop-place.place c.args.count c.args.bytes.now c.loop-place.invariant (omega (arith, c.loop-place-test.false, c.loop-place.auto.place-end)) right
