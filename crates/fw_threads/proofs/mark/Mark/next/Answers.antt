use Rattle.std.proofs.Common.{◌≡◌, ◌<◌, List, [], ◌∷◌, ◌++◌, length, length-append, ap, sym, subst, ◌∙◌, arith}
use Rattle.fw_snapshot.specs.History.{History}
use Rattle.fw_group.specs.Laws.{Begins}
use Rattle.fw_growing.specs.Rule.{Begun}
use Rattle.fw_threads.specs.Fronts.{Marked, latest, IsChain}
use Rattle.fw_threads.proofs.Fronts.{latest_more, chain_more}
use Rattle.fw_threads.proofs.mark.Mark.next.Goals as goal

pub invariant_of-result : goal.invariant_of-result
invariant_of-result c =
    let list = c.self.inside.fronts.list in
    let front = c.args.front.now in
    let same : c.add.new.self.list ≡ list ++ front ∷ [] = c.if-not-add.ensures.added ∙ ap (λ (b : Begun History). b.list ++ front ∷ []) c.again-fronts.ensures in
    let follows = subst (λ (m : Marked). Begins m.front front) (sym c.self.view_is) c.requires.follows in
    let count : c.entries.result ≡ length (latest (list ++ front ∷ [])).entries =
    c.entries.ensures.count ∙ (ap (λ (h : History). length h.entries) c.state.ensures ∙ sym (ap (λ (h : History). length h.entries) (latest_more list front))) in
    subst (λ (l : List History). (c.entries.result ≡ length (latest l).entries) × (0 < length l) × IsChain l) (sym same)
    (count, omega (arith, length-append list (front ∷ [])), chain_more list front c.self.invariant.2 c.self.invariant.1 follows)
