use Rattle.std.proofs.Common.{List, ap, sym, subst}
use Rattle.fw_snapshot.specs.History.{History}
use Rattle.fw_group.specs.declared.answer.Answer.{Answer}
use Rattle.fw_group.specs.declared.inbox.Item.{Item}
use Rattle.fw_group.specs.Items.{entries_of}
use Rattle.fw_threads.specs.Told.{AreRight}
use Rattle.fw_threads.proofs.Right.{answers_right}
use Rattle.fw_threads.proofs.flusher.Flusher.commit.Goals as goal

pub send-requires : goal.send-requires
send-requires g c =
    let es = entries_of c.items-2.result.now in
    let right = answers_right c.commit.new.self.published c.self.inside.publisher.published.entries es (ap (λ (h : History). h.entries) c.in-Ok.ensures.done.published) in
    subst (λ (items : List Item). AreRight (entries_of items) c.in-Ok.done.answers.items) c.items-2.ensures.items
    (subst (λ (l : List (Answer History)). AreRight es l) (sym c.in-Ok.ensures.answers) right)
