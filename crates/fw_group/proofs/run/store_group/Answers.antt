use Rattle.std.proofs.Common.{rules, ◌≡◌, ap, ◌∙◌}
use Rattle.std.proofs.lemmas.Result.{IfErr-weaker}
use Rattle.fw_group.proofs.Answering.{group_outcome}
use Rattle.fw_group.proofs.run.store_group.Goals.{in-Err+in-NoHouse-1, in-Ok-2}
use Rattle.fw_group.proofs.run.store_group.Goals as goal

pub answer_all-requires-clause-outcome : goal.answer_all-requires-clause-outcome
answer_all-requires-clause-outcome g c =
    group_outcome _ c.args.store.now.history c.args.hand.now c.args.group.next c.args.group.prepared c.write-outcome.result c.requires.judged.prepared c.requires.judged.next c.write-outcome.ensures.done
    (IfErr-weaker c.write-outcome.result _ _ (λ fault fails. fails.which) c.write-outcome.ensures.fails) c.write-outcome.ensures.not_old_side c.write-outcome.ensures.not_too_large

pub returns-clause-ok : goal.returns-clause-ok
returns-clause-ok g c =
    elim c.match-outcome.branch [
      | in-Err+in-NoHouse-1 w ↦ search rules
      | in-Ok-2 w ↦ search rules
    ]
