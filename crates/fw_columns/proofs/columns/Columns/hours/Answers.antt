use Rattle.std.proofs.Common.{◌<◌, ◌∙◌, List, ℕ, length, map, sym, subst}
use Rattle.std.specs.Prelude.{◌↔◌, Contains}
use Rattle.std.specs.List.Sorted.{IsStrictlyIncreasing}
use Rattle.fw_charge.specs.Charge.{hour_of}
use Rattle.fw_columns.proofs.HourFacts.{hour_of_some_row, hours_of_rows_rise, hours_of_some}
use Rattle.fw_columns.proofs.columns.Columns.hours.Goals as goal

pub returns-clause-rising : goal.returns-clause-rising
returns-clause-rising c = subst IsStrictlyIncreasing (sym (c.hours.ensures ∙ c.by_hour.ensures.by_hour.hours)) (hours_of_rows_rise c.args.self.now)

pub returns-clause-each : goal.returns-clause-each
returns-clause-each c = λ hour.
    let IsHour : List ℕ → Type 0 = λ hours. Contains hours hour ↔ Contains (map (λ c. hour_of c.start) c.args.self.now) hour in
    subst IsHour (sym (c.hours.ensures ∙ c.by_hour.ensures.by_hour.hours)) (hour_of_some_row hour c.args.self.now)

pub returns-clause-some : goal.returns-clause-some
returns-clause-some c =
    let AreSome : List ℕ → Type 0 = λ hours. 0 < length hours in
    subst AreSome (sym (c.hours.ensures ∙ c.by_hour.ensures.by_hour.hours)) (hours_of_some c.args.self.now c.by_hour.ensures.some)
