use Rattle.std.proofs.Common.{◌≡◌, List, [], ◌++◌, map, take, ap, sym, subst, ◌∙◌, rules}
use Rattle.fw_group.specs.Items.{InboxState, entries_of}
use Rattle.fw_group.specs.Limits.{Fits}
use Rattle.fw_threads.specs.Posts.{Posted, posted_entry}
use Rattle.fw_threads.proofs.Posts.{no_tickets, take_keeps, drop_keeps}
use Rattle.fw_threads.proofs.waiting.Waiting.take.Goals as goal

pub invariant_of-self-2 : goal.invariant_of-self-2
invariant_of-self-2 g c =
    let none : c.hand.inside.items ≡ [] = search rules in
    let moved = c.in_ok-count.ensures.moved none in (
      ap (λ (l : List Posted). map posted_entry l) c.move_front.ensures.rest
          ∙ (drop_keeps c.self.inside.tickets.items c.self.inside.inbox.waiting c.in_ok-count.count c.self.invariant.0 ∙ sym (ap (λ (i : InboxState). entries_of i.waiting) moved.2)),
      c.self.invariant.1,
      c.self.invariant.2,
    )

pub invariant_of-hand-2 : goal.invariant_of-hand-2
invariant_of-hand-2 g c =
    let none : c.hand.inside.items ≡ [] = search rules in
    let moved = c.in_ok-count.ensures.moved none in
    let tickets = c.self.inside.tickets.items in
    let empty = c.reserve.ensures.items ∙ no_tickets c.hand.inside.tickets.items c.hand.inside.items c.hand.invariant.0 none in
    let to = c.move_front.ensures.moved ∙ ap (λ (l : List Posted). l ++ take c.in_ok-count.count tickets) empty in (
      ap (λ (l : List Posted). map posted_entry l) to
          ∙ (take_keeps tickets c.self.inside.inbox.waiting c.in_ok-count.count c.self.invariant.0 ∙ sym (ap entries_of moved.1)),
      subst Fits (sym moved.1) moved.0.fits,
    )
