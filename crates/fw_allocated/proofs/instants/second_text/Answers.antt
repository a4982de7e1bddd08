use Rattle.std.proofs.Common.{◌≡◌, ap, ◌∙◌, ◌%◌, nat_abs, rules, arith}
use Rattle.std.proofs.lemmas.Result.{IfOk-weaker}
use Rattle.fw_allocated.specs.Instants.{instant_digits}
use Rattle.fw_allocated.proofs.instants.second_text.Goals as goal

pub returns-in-Some : goal.returns-in-Some
returns-in-Some c =
    let year : c.unsigned_abs.result ≡ nat_abs c.in-Some.date.year = search rules in
    IfOk-weaker c.instant_digits.result _ _
    (λ s e. record { dated = λ _. (c.in-Some.date, c.in-Some.ensures.1, e ∙ ap (λ y. instant_digits y c.in-Some.date.month c.in-Some.date.day (c.args.second % 86400)) year); past = λ later. absurd (omega (arith, c.in-Some.ensures.0)) }) c.instant_digits.ensures
