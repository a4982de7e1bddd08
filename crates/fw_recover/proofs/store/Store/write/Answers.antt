use Rattle.std.proofs.Common.{◌⊎◌, ◌<◌, IsTrue, length, drop, List, sym, ◌∙◌, ap, subst, arith}
use Rattle.std.proofs.lemmas.Bool.{eqb-true, eqb-false}
use Rattle.fw_disk.specs.Volume.{LeavesOnly}
use Rattle.fw_entry.specs.Entry.{EntryValue}
use Rattle.fw_entry_bytes.specs.Forms.{IsOfForm}
use Rattle.fw_snapshot.specs.History.{History}
use Rattle.fw_snapshot.specs.Verdicts.{with_more}
use Rattle.fw_recover.specs.Stands.{StandsFor, StandsForEither}
use Rattle.fw_recover.specs.Committing.{PreparedState}
use Rattle.fw_recover.proofs.Judged.{some_spelled, none_spelled}
use Rattle.fw_recover.proofs.Committing.{added_none, next_is, goes_behind}
use Rattle.fw_recover.proofs.store.Store.write.Given as given
use Rattle.fw_recover.proofs.store.Store.write.Goals as goal
use Rattle.fw_recover.proofs.store.Store.write.Goals.{After-append}

pub returns-then-is_empty-clause-done : goal.returns-then-is_empty-clause-done
returns-then-is_empty-clause-done g c =
    let s = c.args.self.now in
    let p = c.prepared.inside in
    let zero = eqb-true p.payload.len 0 (sym c.is_empty.ensures ∙ c.if-is_empty.true) in
    let none = none_spelled (drop p.entries p.next.entries) p.payload.items c.prepared.invariant.payload (omega (arith, zero, p.payload.ok.0)) in (
      ap (λ (x : PreparedState). x.verdicts) c.prepared.view_is,
      added_none g.V.Volume.tells g.V.Volume.view s c.args.prepared.accepted c.keeps.ensures c.requires.goes_on (sym (ap (λ (x : PreparedState). x.accepted) c.prepared.view_is) ∙ none),
    )

pub append-requires-clause-goes : goal.append-requires-clause-goes
append-requires-clause-goes g c =
    let p = c.prepared.inside in
    let before = ap (λ (x : PreparedState). x.before) c.prepared.view_is ∙ c.requires.before in
    let spelled = c.deref.ensures.value ∙ c.prepared.invariant.payload in
    let bytes = eqb-false p.payload.len 0 (sym c.is_empty.ensures ∙ c.if-is_empty.false) in
    let some = some_spelled (drop p.entries p.next.entries) p.payload.items c.prepared.invariant.payload (omega (arith, bytes, p.payload.ok.0)) in
    let of_form = subst (λ (l : List EntryValue). IsOfForm c.args.self.now.form l) (sym (ap (λ (x : PreparedState). x.accepted) c.prepared.view_is)) c.requires.of_form in
    goes_behind c.args.self.now.history p.next p.entries c.deref.result.now spelled c.prepared.invariant.legal before c.args.self.now.form of_form some (c.prepared.invariant.frameable some)

moments : (g : given.Over) (c : goal.After-append g) → IsTrue g.V.Volume.tells
    → LeavesOnly (g.V.Volume.view c.args.self.now.volume) (g.V.Volume.view c.append.new.self.volume) (StandsForEither c.args.self.now.history c.args.prepared.accepted)
moments g c told =
    let s = c.args.self.now in
    let p = c.prepared.inside in
    let before = ap (λ (x : PreparedState). x.before) c.prepared.view_is ∙ c.requires.before in
    let is =
    next_is s.history p.next p.entries p.payload.items c.prepared.invariant.payload c.prepared.invariant.legal before
    ∙ ap (λ (l : List EntryValue). with_more s.history l) (ap (λ (x : PreparedState). x.accepted) c.prepared.view_is) in
    subst (λ (k : History). LeavesOnly (g.V.Volume.view s.volume) (g.V.Volume.view c.append.new.self.volume) (λ i. StandsFor s.history i ⊎ StandsFor k i)) is (c.append.ensures.any_moment told)

pub returns-in_err-append-clause-any_moment : goal.returns-in_err-append-clause-any_moment
returns-in_err-append-clause-any_moment g c = moments g (goal.at.returns-in_err-append-clause-any_moment g c).After-append

pub returns-clause-any_moment : goal.returns-clause-any_moment
returns-clause-any_moment g c = moments g (goal.at.returns-clause-any_moment g c).After-append

pub returns-in_err-append-clause-accepted : goal.returns-in_err-append-clause-accepted
returns-in_err-append-clause-accepted g c _ =
    let p = c.prepared.inside in
    let bytes = eqb-false p.payload.len 0 (sym c.is_empty.ensures ∙ c.if-is_empty.false) in
    let some = some_spelled (drop p.entries p.next.entries) p.payload.items c.prepared.invariant.payload (omega (arith, bytes, p.payload.ok.0)) in
    subst (λ (l : List EntryValue). 0 < length l) (ap (λ (x : PreparedState). x.accepted) c.prepared.view_is) some
