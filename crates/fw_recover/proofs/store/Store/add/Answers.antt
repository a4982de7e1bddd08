use Rattle.std.proofs.Common.{◌≡◌, ◌⊎◌, [], ◌∷◌, sym, ◌∙◌, ap, subst, arith, OnOk}
use Rattle.std.proofs.lemmas.Result.{on_ok_weaker}
use Rattle.std.specs.Prelude.{IsTrue}
use Rattle.std.proofs.lemmas.List.Elements.{All-cons, All-nil}
use Rattle.fw_entry_bytes.specs.Forms.{has_entry}
use Rattle.fw_disk.specs.Volume.{LeavesOnly}
use Rattle.fw_snapshot.specs.History.{History}
use Rattle.fw_recover.specs.Committing.{Appended}
use Rattle.fw_recover.specs.Opening.{GoesBehind}
use Rattle.fw_recover.specs.Stands.{StandsFor}
use Rattle.fw_recover.specs.Store.{StoreState}
use Rattle.fw_recover.proofs.Found.{one_entry}
use Rattle.fw_recover.proofs.Committing.{frame_fits, added_some, with_one}
use Rattle.fw_recover.proofs.store.Store.add.Goals as goal

pub append-requires-clause-fit : goal.append-requires-clause-fit
append-requires-clause-fit g c =
    frame_fits (c.args.entry.now ∷ []) c.deref.result.now (c.deref.ensures.value ∙ c.in-Ok-group_of_one.ensures.spelled) c.group_of_one.ensures.frameable

pub append-requires-clause-goes : goal.append-requires-clause-goes
append-requires-clause-goes g c =
    let s = c.args.self.now in
    let e = c.args.entry.now in
    let same : c.state.result.now ≡ s.history = c.state.ensures ∙ ap (λ (x : StoreState _). x.history) c.self.view_is in
    let goes : GoesBehind s.form s.history c.deref.result.now c.in-Ok.next = record {
      more = e ∷ [];
      is_group = (c.group_of_one.ensures.frameable.is_group, All-cons (λ x. IsTrue (has_entry s.form x)) e [] c.requires.of_form (All-nil (λ x. IsTrue (has_entry s.form x))));
      spelled = c.deref.ensures.value ∙ c.in-Ok-group_of_one.ensures.spelled;
      legal = one_entry s.history.entries e c.requires.accepted;
      is = with_one s.history c.state.result.now c.in-Ok.next e same c.in-Ok.ensures;
    } in
    subst (λ (x : StoreState _). GoesBehind x.form x.history c.deref.result.now c.in-Ok.next) (sym c.in_default-append_length.ensures.declined) goes

pub returns-clause-any_moment : goal.returns-clause-any_moment
returns-clause-any_moment g c told =
    let s = c.args.self.now in
    let e = c.args.entry.now in
    let same : c.state.result.now ≡ s.history = c.state.ensures ∙ ap (λ (x : StoreState _). x.history) c.self.view_is in
    let is = with_one s.history c.state.result.now c.in-Ok.next e same c.in-Ok.ensures in
    let leaves : (x : StoreState _) → History → Type 0 = λ x k. LeavesOnly (g.V.Volume.view x.volume) (g.V.Volume.view c.append.new.self.volume) (λ i. StandsFor x.history i ⊎ StandsFor k i) in
    subst (λ (k : History). leaves s k) is (subst (λ (x : StoreState _). leaves x c.in-Ok.next) c.in_default-append_length.ensures.declined (c.append.ensures.any_moment told))

pub returns-clause-done : goal.returns-clause-done
returns-clause-done g c =
    let s = c.args.self.now in
    let e = c.args.entry.now in
    let same : c.state.result.now ≡ s.history = c.state.ensures ∙ ap (λ (x : StoreState _). x.history) c.self.view_is in
    let is = with_one s.history c.state.result.now c.in-Ok.next e same c.in-Ok.ensures in
    let appends : StoreState _ → Type 0 = λ x. OnOk c.append.result (Appended g.V.Volume.tells g.V.Volume.view x c.append.new.self c.deref.result.now c.in-Ok.next) in
    on_ok_weaker c.append.result
    (λ appended. added_some g.V.Volume.tells g.V.Volume.view s c.append.new.self c.deref.result.now c.in-Ok.next (e ∷ []) c.requires.goes_on appended is (c.deref.ensures.value ∙ c.in-Ok-group_of_one.ensures.spelled) (omega arith))
    (subst (λ (x : StoreState _). appends x) c.in_default-append_length.ensures.declined c.append.ensures.done)
