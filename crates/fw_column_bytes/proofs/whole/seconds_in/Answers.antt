use Rattle.std.proofs.Common.{◌≡◌, ◌+◌, ◌*◌, drop, length, ap, arith, rules}
use Rattle.std.specs.Prelude.{nat_le}
use Rattle.fw_charge.specs.Charge.{last_second}
use Rattle.fw_fields.specs.Reading.{second_at}
use Rattle.fw_column_bytes.proofs.WholeFacts.{all_read, begins, one_more, reads_second}
use Rattle.fw_column_bytes.proofs.whole.seconds_in.Goals as goal

pub loop-place-init : goal.loop-place-init
loop-place-init c =
    let long : length c.in_ok-column.column.items ≡ c.args.count = search rules in
    begins second_at 8 c.in_ok-column.column.items c.args.count c.args.bytes.now long

pub loop-place-preserved : goal.loop-place-preserved
loop-place-preserved c =
    let l = c.loop-place in
    let bytes = c.args.bytes.now in
    let second = c.wide_at-value.result in
    let next : 8 * l.place + 8 ≡ 8 * (l.place + 1) = omega arith in
    one_more second_at 8 l.column.items l.is_right (nat_le second last_second) l.place c.args.count bytes second (drop (8 * l.place + 8) bytes) l.invariant c.loop-place-test.true (ap (λ n. drop n bytes) next)
    (λ ok. reads_second (drop (8 * l.place) bytes) (drop (8 * l.place + 8) bytes) second c.wide_at-value.ensures ok)

pub returns : goal.returns
returns c = λ right. all_read second_at 8 _ _ c.loop-place.place c.args.count c.args.bytes.now c.loop-place.invariant (omega (arith, c.loop-place-test.false, c.loop-place.auto.place-end)) right
