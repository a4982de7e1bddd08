use Rattle.std.proofs.Common.{◌≡◌, ◌≤◌, length, take, vec_capacity}
use Rattle.fw_group.specs.declared.answer.Answer.TheVariants.{Closed}
use Rattle.fw_group.specs.Answers.{for_each}
use Rattle.fw_group.proofs.run.close_all.Given as goal

abbrev pub invariant-loop : goal.invariant-loop
invariant-loop g l = (length l.answers.items ≡ l.counter) × (length l.hand ≤ vec_capacity l.answers) × (l.answers.items ≡ for_each Closed (take l.counter l.hand))
