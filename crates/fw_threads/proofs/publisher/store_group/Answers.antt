use Rattle.std.proofs.Common.{◌≡◌, List, length, length-append, ap, ◌∙◌, arith}
use Rattle.fw_snapshot.specs.History.{History}
use Rattle.fw_snapshot.specs.Verdicts.{verdicts_on, accepted_of}
use Rattle.fw_snapshot.specs.declared.verdict.Verdict.{Verdict}
use Rattle.fw_snapshot.proofs.VerdictFacts.{as_many}
use Rattle.fw_recover.specs.Committing.{PreparedState}
use Rattle.fw_group.specs.Answers.{accepted_in}
use Rattle.fw_group.specs.Items.{entries_of}
use Rattle.fw_group.proofs.Answering.{accepted_length}
use Rattle.fw_group.proofs.Items.{length_entries}
use Rattle.fw_threads.proofs.publisher.store_group.Goals as goal

pub answer_all-answers-requires-clause-outcome : goal.answer_all-answers-requires-clause-outcome
answer_all-answers-requires-clause-outcome g c =
    let h = c.args.store.now.history.entries in
    let items = c.args.hand.now in
    let es = entries_of items in
    let judged = c.requires.ready.judged in
    let are : c.in-Ok.verdicts.items ≡ verdicts_on h es = c.in-Ok.ensures.done.0 ∙ ap (λ (p : PreparedState). p.verdicts) judged.prepared in
    let after = c.new-after.ensures ∙ judged.next in (
      ap (λ (l : List Verdict). length l) are ∙ (as_many h es ∙ length_entries items),
      omega (
        arith,
        ap accepted_in are,
        accepted_length h es,
        length-append h (accepted_of h es),
        ap (λ (k : History). length k.entries) after,
      ),
    )

pub returns-clause-answers : goal.returns-clause-answers
returns-clause-answers g c =
    let judged = c.requires.ready.judged in
    let are = c.in-Ok.ensures.done.0 ∙ ap (λ (p : PreparedState). p.verdicts) judged.prepared in
    c.answer_all-answers.ensures c.args.store.now.history.entries are (ap (λ (k : History). k.entries) (c.new-after.ensures ∙ judged.next))
