use Rattle.std.proofs.Common.{◌∙◌, sym, rules}
use Rattle.fw_instants.specs.Instants.{IsSecond}
use Rattle.fw_instants.proofs.InstantFacts.{second_from, nanos_fit}
use Rattle.std.proofs.lemmas.Int.{to_z-of_z}
use Rattle.std.specs.Int.{w128}
use Rattle.fw_instants.proofs.text.second_of.Goals as goal

pub whole_second-requires : goal.whole_second-requires
whole_second-requires c = rw (to_z-of_z w128 c.as_nanosecond.result (search rules), c.as_nanosecond.ensures) (nanos_fit c.in-Ok.instant.nanosecond c.in-Ok.instant.in_range)

pub returns-in_default-clause-value : goal.returns-in_default-clause-value
unfolding IsSecond
returns-in_default-clause-value c = λ s h. let both = c.in_default.ensures.value ∙ h in absurd (cc)

pub returns-clause-value : goal.returns-clause-value
returns-clause-value c =
    let nanos = rw (to_z-of_z w128 c.as_nanosecond.result (search rules), c.as_nanosecond.ensures) at c.whole_second.ensures.value in
    second_from c.args.text.now c.in-Ok.instant.nanosecond c.whole_second.result (sym c.in-Ok.ensures.value) nanos
