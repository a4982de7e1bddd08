use Rattle.std.proofs.Common.{◌≡◌, ◌*◌, ◌/◌, ◌≤◌, codes, subst, arith}
use Rattle.fw_toml.specs.Tree.{stated}
use Rattle.fw_commitment.specs.Fields.{HasHour, HasSecond}
use Rattle.fw_commitment.proofs.RuleFacts.{alone-fits, alone-missing}
use Rattle.fw_commitment.proofs.ValueFacts.{second-one}
use Rattle.fw_commitment.specs.declared.fault.CommitmentField.TheVariants as field
use Rattle.fw_commitment.proofs.id_and_term.start.Goals as goal
use Rattle.fw_charge.specs.Charge.{last_hour}

pub returns-in_default : goal.returns-in_default
returns-in_default c = λ _.
    let ms = stated c.args.table.now in
    let none = rw c.name.ensures at c.in_default.ensures.value in
    alone-missing field.Start (HasHour ms) (λ hour has. none (hour * 3600) has)

pub returns-then-second-ne0 : goal.returns-then-second-ne0
returns-then-second-ne0 c = λ _.
    let ms = stated c.args.table.now in
    let s = c.in-Some.second in
    let is : HasSecond ms (codes "start") s = rw c.name.ensures at c.in-Some.ensures.value in
    alone-missing field.Start (HasHour ms) (λ hour has.
    let same = second-one ms (codes "start") s (hour * 3600) is has in c.if-second-ne0.true (omega (arith, same)))

pub returns : goal.returns
returns c =
    let ms = stated c.args.table.now in
    let s = c.in-Some.second in
    let is : HasSecond ms (codes "start") s = rw c.name.ensures at c.in-Some.ensures.value in
    let whole : s ≡ s / 3600 * 3600 = let none = c.if-second-ne0.false in omega arith in
    let most : s / 3600 ≤ last_hour = let within = c.in-Some.ensures.in_range in omega (arith, within) in
    let has : HasHour ms (s / 3600) = subst (HasSecond ms (codes "start")) whole is in
    (alone-fits field.Start (HasHour ms) (s / 3600) has, (has, most))
