use Rattle.std.proofs.Common.{◌≡◌, [], length, rules, refl, ap, ◌∙◌, sym}
use Rattle.fw_threads.specs.Posts.{WaitingState}
use Rattle.fw_threads.proofs.Posts.{none_left, nothing_waits}
use Rattle.fw_threads.proofs.waiting.Waiting.next.Goals as goal

pub returns-then-is_empty-clause-over : goal.returns-then-is_empty-clause-over
returns-then-is_empty-clause-over g c =
    let none : length c.self.inside.tickets.items ≡ 0 = search rules in
    let waits = nothing_waits c.self.inside.tickets.items c.self.inside.inbox.waiting c.self.invariant.0 none in
    let nothing : c.args.self.now.waiting ≡ [] = ap (λ (w : WaitingState). w.waiting) (sym c.self.view_is) ∙ waits in
    (nothing, none_left c.args.self.now.importers (λ some. c.requires.goes_on (nothing, some)), refl, refl)
