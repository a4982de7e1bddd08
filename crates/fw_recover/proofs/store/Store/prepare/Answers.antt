use Rattle.std.proofs.Common.{◌≡◌, List, ◌∙◌, ap, arith, false, subst, sym}
use Rattle.std.specs.List.{list_all}
use Rattle.fw_entry_bytes.specs.declared.form.Form.{Form}
use Rattle.fw_entry_bytes.specs.Forms.{has_entry, IsOfForm}
use Rattle.fw_snapshot.specs.History.{History}
use Rattle.fw_snapshot.specs.Verdicts.{accepted_of}
use Rattle.fw_recover.proofs.Judged.{not_of_form}
use Rattle.fw_entry.specs.Entry.{EntryValue}
use Rattle.fw_recover.specs.Store.{StoreState}
use Rattle.fw_recover.specs.Committing.{PreparedState, payload_of}
use Rattle.fw_recover.proofs.Committing.{has_room}
use Rattle.fw_recover.proofs.store.Store.prepare.Goals as goal
use Rattle.fw_recover.proofs.store.Store.prepare.Goals.{else-len-gt0-via-then-len-gt0+else-len-limit, else-len-gt0-via-else-len-gt0}

pub returns-clause-room : goal.returns-clause-room
returns-clause-room g c =
    let s = c.args.self.now in
    let p = c.prepared.inside in
    let limit = ap (λ (x : StoreState _). (g.V.Volume.view x.volume).limit) c.self.view_is in
    let end = ap (λ (x : StoreState _). x.log.end) c.self.view_is in
    let spelled = c.prepared.invariant.payload ∙ ap (λ (l : List EntryValue). payload_of l) (ap (λ (x : PreparedState). x.accepted) c.prepared.view_is) in
    has_room (g.V.Volume.view s.volume).limit s c.in-Some.prepared.accepted p.payload.items spelled (λ some past. elim c.else-len-gt0.branch [
      | else-len-gt0-via-then-len-gt0+else-len-limit w ↦ omega (arith, past, c.len-len.ensures, p.payload.ok.0, w.if-len-limit.false, w.limit.ensures, w.end.ensures, limit, end)
      | else-len-gt0-via-else-len-gt0 w ↦ omega (arith, some, c.len-len.ensures, p.payload.ok.0, w.if-len-gt0.false)
    ])

pub returns-in_default-prepared-clause-old_side : goal.returns-in_default-prepared-clause-old_side
returns-in_default-prepared-clause-old_side g c is all =
    let es = c.args.entries.now in
    let same : c.self.inside.snapshot ≡ c.args.self.now.history = ap (λ (x : StoreState _). x.history) c.self.view_is in
    let form = ap (λ (x : StoreState _). x.form) c.self.view_is in
    let old : list_all (has_entry c.self.inside.form) (accepted_of c.self.inside.snapshot.entries es) ≡ false = rw c.in_default-prepared.is at c.in-Ok.ensures.old in
    not_of_form c.self.inside.form (accepted_of c.self.inside.snapshot.entries es) old
    (subst (λ (f : Form). IsOfForm f (accepted_of c.self.inside.snapshot.entries es)) (sym form) (subst (λ (h : History). IsOfForm c.args.self.now.form (accepted_of h.entries es)) (sym same) all))
