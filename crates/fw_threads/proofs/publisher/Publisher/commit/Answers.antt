use Rattle.std.proofs.Common.{rules, ◌≡◌, length, length-append, ap, subst, ◌∙◌, arith}
use Rattle.fw_snapshot.specs.History.{History}
use Rattle.fw_snapshot.specs.Verdicts.{with_more}
use Rattle.fw_group.specs.Turns.{AreOfForm}
use Rattle.fw_threads.specs.Flushed.{PublisherState, group_on}
use Rattle.fw_threads.proofs.publisher.Publisher.commit.Goals.{in-Unpublished, in_default}
use Rattle.fw_threads.proofs.publisher.Publisher.commit.Goals as goal

pub returns-in-Ok-stored-clause-done : goal.returns-in-Ok-stored-clause-done
returns-in-Ok-stored-clause-done g c =
    let items = c.args.hand.now in
    let published = c.args.self.now.published in
    let is = ap (λ (p : PublisherState _). p.published) c.self.view_is in
    let before : c.self.inside.front ≡ published = c.self.invariant.0 ∙ is in
    let history : c.self.inside.store.history ≡ published = (c.self.invariant.2 c.if-self.false).0 ∙ is in
    let after : c.in-Ok-stored.stored.front ≡ with_more published (group_on published items) = c.in-Ok-stored.ensures.front ∙ ap (λ (h : History). with_more h (group_on h items)) history in
    record {
      went_on = search rules;
      of_form = subst (λ (p : PublisherState _). AreOfForm p.store items) c.self.view_is c.in-Ok.ensures.ready.judged.of_form;
      committed = search rules;
      moment = search rules;
      published = c.in-Ok-stored.ensures.shown.0 ∙ after;
      count = omega (
        arith,
        c.entries.ensures,
        c.entries-in-Ok-stored.ensures,
        ap (λ (h : History). length h.entries) after,
        ap (λ (h : History). length h.entries) before,
        length-append published.entries (group_on published items),
      );
      goes_on = search rules;
    }

pub returns-after-fault-clause-failed : goal.returns-after-fault-clause-failed
returns-after-fault-clause-failed g c =
    let of_form = c.in-Ok.ensures.ready.judged.of_form in
    elim c.match-fault.branch [
      | in-Unpublished w ↦ search (of_form, rules)
      | in_default w ↦ search (of_form, rules)
    ]
