use Rattle.std.proofs.Common.{◌≡◌, ◌%◌, ap, nat_abs, ◌∙◌, ◌^◌, ◌-◌, false, []}
use Rattle.std.specs.Fmt.{decimal, padded_integral, format_spec}
use Rattle.std.specs.Int.{w128}
use Rattle.std.proofs.lemmas.Int.{to_z-of_z}
use Rattle.fw_money.proofs.WriteFacts.{nine_is}
use Rattle.fw_money.specs.Writing.{nine_digits, sign_text, text_of}
use Rattle.fw_money.proofs.write.text.Goals as goal

pub returns : goal.returns
unfolding text_of
returns c =
    let h = c.joined.ensures in
    let same = to_z-of_z w128 c.args.nanos c.ranges.nanos in
    let u = c.unsigned_abs-magnitude.result in
    let abs : u ≡ nat_abs c.args.nanos = c.unsigned_abs-magnitude.ensures.value ∙ ap nat_abs same in
    let digits : padded_integral (format_spec 32 0 4 9 (2 ^ 64 - 1)) false [] (decimal (u % 1000000000)) ≡ nine_digits (nat_abs c.args.nanos % 1000000000) = nine_is (decimal (u % 1000000000)) ∙ ap (λ x. nine_digits (x % 1000000000)) abs in
    let sign : c.sign_of.result.now ≡ sign_text c.args.nanos = c.sign_of.ensures ∙ ap sign_text same in
    rw (digits, sign, abs) at h
