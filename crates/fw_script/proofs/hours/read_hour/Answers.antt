use Rattle.std.proofs.Common.{sym, ◌∙◌, rules}
use Rattle.std.proofs.lemmas.Int.{to_z-of_z}
use Rattle.std.specs.Int.{w128}
use Rattle.fw_script.specs.Hours.{IsHourText}
use Rattle.fw_script.proofs.HoursLaws.{hour_from}
use Rattle.fw_script.proofs.hours.read_hour.Goals as goal

pub returns-in_default : goal.returns-in_default
unfolding IsHourText
returns-in_default c = λ hour h. c.in_default.ensures.cases.0 h.0

pub returns-in_default-parse : goal.returns-in_default-parse
unfolding IsHourText
returns-in_default-parse c = λ hour h.
    let value = rw c.in-Ok.ensures.cases.0 at c.in_default-parse.ensures.value in
    let both = value ∙ h.1 in
    absurd (cc)

pub returns : goal.returns
returns c =
    let bytes = c.in-Ok.ensures.cases in
    let value = rw bytes.0 at c.in-Ok-parse.ensures.value in
    let nanos = rw (to_z-of_z w128 c.as_nanosecond.result (search rules), c.as_nanosecond.ensures) at c.whole_hour.ensures in
    hour_from c.args.text.now c.in-Ok-parse.instant.nanosecond c.whole_hour.result bytes.1 (sym value) nanos
