use Rattle.std.proofs.Common.{codes}
use Rattle.fw_toml.specs.Tree.{stated}
use Rattle.fw_commitment.specs.Fields.{HasSecond}
use Rattle.fw_commitment.specs.declared.fault.CommitmentField.TheVariants as field
use Rattle.fw_commitment.proofs.RuleFacts.{alone-fits, alone-missing}
use Rattle.fw_commitment.proofs.added.at.Goals as goal

pub returns-in-Some : goal.returns-in-Some
returns-in-Some c =
    let ms = stated c.args.table.now in
    let s = c.in-Some.second in
    let has : HasSecond ms (codes "at") s = rw c.name.ensures at c.in-Some.ensures.value in
    (alone-fits field.At (HasSecond ms (codes "at")) s has, (has, c.in-Some.ensures.in_range))

pub returns-in-None : goal.returns-in-None
returns-in-None c = λ _. alone-missing field.At (HasSecond (stated c.args.table.now) (codes "at")) (rw c.name.ensures at c.in-None.ensures.value)
