use Rattle.std.proofs.Common.{◌≡◌, ap, ◌∙◌, ◌%◌, nat_abs, rules, arith}
use Rattle.std.proofs.lemmas.Result.{IfOk-weaker}
use Rattle.fw_calendar.specs.Shown.{hour_digits}
use Rattle.fw_calendar.proofs.texts.hour_text.Goals as goal

pub returns-in-Some : goal.returns-in-Some
returns-in-Some c =
    let year : c.unsigned_abs.result ≡ nat_abs c.in-Some.date.year = search rules in
    IfOk-weaker c.hour_digits.result _ _
    (λ s e. record { dated = λ _. (c.in-Some.date, c.in-Some.ensures.1, e ∙ ap (λ y. hour_digits y c.in-Some.date.month c.in-Some.date.day (c.args.hour % 24)) year); past = λ later. absurd (omega (arith, c.in-Some.ensures.0)) }) c.hour_digits.ensures
