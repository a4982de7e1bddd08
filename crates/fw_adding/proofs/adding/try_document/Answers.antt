use Rattle.std.proofs.Common.{sym, subst}
use Rattle.std.proofs.lemmas.Result.{IfOk-weaker}
use Rattle.fw_adding.specs.Adding.{Repeats}
use Rattle.fw_adding.specs.declared.adding.Outcome.{Outcome}
use Rattle.fw_documents.specs.Documents.{command_of}
use Rattle.fw_adding.proofs.adding.try_document.Goals as goal

pub returns-in-Accept-clause-again : goal.returns-in-Accept-clause-again
returns-in-Accept-clause-again c =
    IfOk-weaker c.accepted.result _ _
    (λ tried added. subst (λ (o : Outcome). Repeats c.args.again o (command_of c.args.document.now) c.args.state.now.entries) (sym added) (c.in_ok-is_there.ensures.new c.if-branch.false))
    c.accepted.ensures.added
