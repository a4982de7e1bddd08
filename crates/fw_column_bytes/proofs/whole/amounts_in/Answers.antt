use Rattle.std.proofs.Common.{◌≡◌, ◌+◌, ◌*◌, drop, length, ap, arith, rules}
use Rattle.std.specs.Prelude.{nat_abs, nat_le}
use Rattle.std.specs.Int.{w64}
use mir.Val.{SFits}
use Rattle.std.proofs.lemmas.Int.{to_z-of_z}
use Rattle.fw_money.specs.Amount.{most_nanos}
use Rattle.fw_fields.specs.Reading.{nanos_at}
use Rattle.fw_column_bytes.proofs.WholeFacts.{all_read, begins, one_more, reads_nanos}
use Rattle.fw_column_bytes.proofs.whole.amounts_in.Goals as goal

pub loop-place-init : goal.loop-place-init
loop-place-init c =
    let long : length c.in_ok-column.column.items ≡ c.args.count = search rules in
    begins nanos_at 8 c.in_ok-column.column.items c.args.count c.args.bytes.now long

pub loop-place-preserved : goal.loop-place-preserved
loop-place-preserved c =
    let l = c.loop-place in
    let bytes = c.args.bytes.now in
    let z = c.cast_signed-value.result in
    let fits : SFits w64 z = search rules in
    let same = to_z-of_z w64 z fits in
    let next : 8 * l.place + 8 ≡ 8 * (l.place + 1) = omega arith in
    rw (c.unsigned_abs.ensures.value, same)
    (one_more nanos_at 8 l.column.items l.is_right (nat_le (nat_abs z) most_nanos) l.place c.args.count bytes z (drop (8 * l.place + 8) bytes) l.invariant c.loop-place-test.true (ap (λ n. drop n bytes) next)
    (λ ok. reads_nanos (drop (8 * l.place) bytes) (drop (8 * l.place + 8) bytes) c.wide_at.result z c.wide_at.ensures c.cast_signed-value.ensures ok))

pub returns : goal.returns
returns c = λ right. all_read nanos_at 8 _ _ c.loop-place.place c.args.count c.args.bytes.now c.loop-place.invariant (omega (arith, c.loop-place-test.false, c.loop-place.auto.place-end)) right
