use Rattle.std.proofs.Common.{arith, ◌≡◌, true, false}
use Rattle.std.proofs.lemmas.Grind.{common_steps}
use Rattle.fw_terms.specs.Groups.{has_double_from}
use Rattle.fw_terms.proofs.GroupFacts.{twice-Decides, says}
use Rattle.fw_terms.proofs.groups.has_double_from.Goals as goal

pub returns-then-is_from-clause-meaning : goal.returns-then-is_from-clause-meaning
returns-then-is_from-clause-meaning c =
    let is : true ≡ has_double_from c.args.rules.now = grind (arith, common_steps) in
    says true (has_double_from c.args.rules.now) is (twice-Decides c.args.rules.now)

pub returns-clause-meaning : goal.returns-clause-meaning
returns-clause-meaning c =
    let is : false ≡ has_double_from c.args.rules.now = grind (arith, common_steps) in
    says false (has_double_from c.args.rules.now) is (twice-Decides c.args.rules.now)
