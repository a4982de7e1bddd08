use Rattle.std.proofs.Common.{rules, string_bytes, ◌≡◌, ◌++◌, ◌/◌, ◌%◌, ◌<◌, ◌^◌, ap, nat_abs, ◌∙◌, sym, arith, ◌-◌, false, [], refl}
use Rattle.std.proofs.lemmas.Fmt.{IsAscii-decimal_wide}
use Rattle.std.proofs.lemmas.Int.{to_z-of_z}
use Rattle.std.proofs.lemmas.Result.{IfOk-weaker}
use Rattle.std.specs.Fmt.{decimal, padded_integral, format_spec}
use Rattle.std.specs.Int.{w128}
use Rattle.fw_money.specs.Nearest.{IsNearest}
use Rattle.fw_table.specs.Amounts.{cent, grouped, minus_text, two_digits}
use Rattle.fw_table.proofs.AmountFacts.{cents_from, two_is}
use Rattle.fw_table.proofs.amounts.cents_text.Goals as goal

pub grouped-requires : goal.grouped-requires
grouped-requires c =
    let digits : c.as_str.result.now ≡ decimal (c.nearest_cents-cents.result / 100) = search rules in
    rw digits (IsAscii-decimal_wide (c.nearest_cents-cents.result / 100) (omega arith))

pub returns : goal.returns
returns c =
    let same = to_z-of_z w128 c.args.nanos c.ranges.nanos in
    let abs : c.unsigned_abs.result ≡ nat_abs c.args.nanos = c.unsigned_abs.ensures.value ∙ ap nat_abs same in
    let digits : c.as_str.result.now ≡ decimal (c.nearest_cents-cents.result / 100) = search rules in
    let whole : c.as_str-2.result.now ≡ grouped (decimal (c.nearest_cents-cents.result / 100)) = search (rules, digits) in
    let minus : c.minus_of-minus.result.now ≡ minus_text c.args.nanos c.nearest_cents-cents.result =
    c.minus_of-minus.ensures ∙ ap (λ z. minus_text z c.nearest_cents-cents.result) same in
    let near : IsNearest c.nearest_cents-cents.result (nat_abs c.args.nanos) cent = rw abs at c.nearest_cents-cents.ensures in
    IfOk-weaker c.joined.result _ _ (λ s e. cents_from c.args.nanos c.nearest_cents-cents.result (string_bytes s) near e)
    (rw (whole, minus) at c.joined.ensures)
