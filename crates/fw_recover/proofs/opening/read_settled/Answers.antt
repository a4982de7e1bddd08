use Rattle.std.proofs.Common.{◌≡◌, ◌<◌, ◌^◌, Err, refl, sym, ◌∙◌, ap, subst, arith}
use Rattle.std.proofs.lemmas.Result.{err_from_is_err_and}
use Rattle.fw_journal.specs.Log.{LogState}
use Rattle.fw_recover.specs.declared.fault.StoreFault.{StoreFault}
use Rattle.fw_recover.specs.declared.fault.StoreFault.TheVariants.{Corrupt}
use Rattle.fw_recover.specs.Store.{IsInUse}
use Rattle.fw_recover.proofs.Found.{bad_body, bad_log, in_use_read}
use Rattle.fw_recover.proofs.opening.read_settled.Goals as goal

pub returns-in_err-state-clause-corrupt : goal.returns-in_err-state-clause-corrupt
returns-in_err-state-clause-corrupt g c side at is told =
    let old = g.V.Volume.view c.args.volume.now in
    let v1 = g.V.Volume.view c.side_in_use.new.volume in
    let used = c.in_ok-side.side in
    let header = c.in_ok-side.header in
    let p = err_from_is_err_and c.from_residual-in_err-state.result c.from_residual-in_err-state.ensures.1 in
    let fault : c.in_err-state.field-0.0 ≡ Corrupt side at = cc (p.1, p.2, is) in
    let bad = c.body_state.ensures.corrupt side at (c.in_err-state.was ∙ ap (λ (f : StoreFault). Err f) fault) in
    let found = c.in_ok-side.ensures.found told in
    bad_body old.seen used side header.form header.generation header.body_len at (v1.seen used) ((c.in_ok-side.ensures.reads.calm told).seen used) found.0 found.1 bad.0 (bad.1 told)

pub returns-in_err-end-clause-corrupt : goal.returns-in_err-end-clause-corrupt
returns-in_err-end-clause-corrupt g c side at is told =
    let old = g.V.Volume.view c.args.volume.now in
    let v1 = g.V.Volume.view c.side_in_use.new.volume in
    let v2 = g.V.Volume.view c.body_state.new.volume in
    let used = c.in_ok-side.side in
    let header = c.in_ok-side.header in
    let first = (c.in_ok-side.ensures.reads.calm told).seen used in
    let second = (c.in_ok-state.ensures.reads.calm told).seen used in
    let p = err_from_is_err_and c.from_residual-in_err-end.result c.from_residual-in_err-end.ensures.1 in
    let fault : c.in_err-end.field-0.0 ≡ Corrupt side at = cc (p.1, p.2, is) in
    let bad = c.walk_log.ensures.corrupt side at (c.in_err-end.was ∙ ap (λ (f : StoreFault). Err f) fault) in
    let found = c.in_ok-side.ensures.found told in
    bad_log old.seen used side header.form header.generation header.body_len at c.in_ok-state.state (v1.seen used) (v2.seen used) first (second ∙ first) found.0 found.1
    (c.in_ok-state.ensures.found told) c.in_ok-state.ensures.of_form bad.0 (bad.1 told)

pub returns-clause-found : goal.returns-clause-found
returns-clause-found g c =
    let old = g.V.Volume.view c.args.volume.now in
    let v1 = g.V.Volume.view c.side_in_use.new.volume in
    let v2 = g.V.Volume.view c.body_state.new.volume in
    let v3 = g.V.Volume.view c.walk_log.new.volume in
    let used = c.in_ok-side.side in
    let header = c.in_ok-side.header in
    let end = c.in_ok-end.end in
    let state = c.walk_log.new.state in
    let within = c.in_ok-side.ensures.within in
    let fits : header.body_len < 2 ^ 64 = omega (arith, within, g.met.V.Volume.within c.args.volume.now used, g.met.V.Volume.bounded c.args.volume.now) in
    let P : LogState → Type 0 = λ log. IsInUse g.V.Volume.tells header.form header.generation log state v3 in
    subst P (sym c.at.ensures) (record {
      room = omega (arith, c.in_ok-end.ensures.within, c.in_ok-end.ensures.reads.sizes.size used);
      some_generation = within.0;
      generation_fits = omega arith;
      log_goes_on = refl;
      fresh = λ told.
          in_use_read old v1 v2 v3 (c.in_ok-side.ensures.reads.calm told) (c.in_ok-state.ensures.reads.calm told) (c.in_ok-end.ensures.reads.calm told) used header.form header.generation header.body_len end c.in_ok-state.state state
          (c.requires.settled told) (c.in_ok-side.ensures.found told) fits (c.in_ok-state.ensures.found told) c.in_ok-state.ensures.of_form (c.in_ok-end.ensures.groups told) (c.in_ok-end.ensures.closed told);
    })
