use Rattle.std.proofs.Common.{arith}
use Rattle.fw_policy.proofs.FieldFacts.{no_from, long_from, from_is}
use Rattle.fw_policy.proofs.rule.from_of.Goals as goal

pub returns-in_default : goal.returns-in_default
returns-in_default c = no_from _ c.in_default.ensures

pub returns-then-from-gt-LONGEST_TEXT : goal.returns-then-from-gt-LONGEST_TEXT
returns-then-from-gt-LONGEST_TEXT c = long_from _ c.in-Some.from.now c.in-Some.ensures (λ h. absurd (omega arith))

pub returns : goal.returns
returns c = from_is _ c.in-Some.from.now c.in-Some.ensures (omega arith)
