use Rattle.std.proofs.Common.{◌≡◌, ◌+◌, ◌-◌, take, ap, ◌∙◌, arith}
use Rattle.fw_group.specs.Items.{entries_of}
use Rattle.fw_group.specs.Answers.{accepted_in}
use Rattle.fw_group.proofs.Items.{length_entries}
use Rattle.fw_group.proofs.Answering.{one_answer}
use Rattle.fw_group.proofs.hand.Hand.answer.Goals as goal

pub returns-in-Ok : goal.returns-in-Ok
returns-in-Ok g c =
    let all = c.accepted.ensures ∙ ap accepted_in c.deref.ensures.value in
    let some = c.accepted-in-Ok.ensures ∙ ap (λ vs. accepted_in (take c.args.place vs)) c.deref-in-Ok.ensures.value in
    let at : c.entries.result - c.accepted.result + c.accepted-in-Ok.result ≡ _ - accepted_in c.in-Ok.verdicts.items + accepted_in (take c.args.place c.in-Ok.verdicts.items) =
    (λ j. c.entries.ensures j - all j + some j) in
    rw c.in-Ok.is (one_answer g.F.Front.list c.args.front (entries_of c.args.self.now) c.in-Ok.verdicts.items c.args.place _ _ c.told.result
    (omega (arith, c.requires.item, length_entries c.args.self.now)) at c.index.ensures c.told.ensures)
