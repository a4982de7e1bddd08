use Rattle.std.proofs.Common.{arith, ◌≡◌, true, false}
use Rattle.std.proofs.lemmas.Grind.{common_steps}
use Rattle.fw_terms.specs.Groups.{has_target_from}
use Rattle.fw_terms.proofs.GroupFacts.{target-Decides, says}
use Rattle.fw_terms.proofs.groups.has_target_from.Goals as goal

pub returns-then-gives_to_from-clause-meaning : goal.returns-then-gives_to_from-clause-meaning
returns-then-gives_to_from-clause-meaning c =
    let is : true ≡ has_target_from c.args.rules.now c.args.rules.now = grind (arith, common_steps) in
    says true (has_target_from c.args.rules.now c.args.rules.now) is (target-Decides c.args.rules.now c.args.rules.now)

pub returns-clause-meaning : goal.returns-clause-meaning
returns-clause-meaning c =
    let is : false ≡ has_target_from c.args.rules.now c.args.rules.now = grind (arith, common_steps) in
    says false (has_target_from c.args.rules.now c.args.rules.now) is (target-Decides c.args.rules.now c.args.rules.now)
