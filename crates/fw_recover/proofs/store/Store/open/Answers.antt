use Rattle.std.proofs.Common.{refl, sym, ◌∙◌, subst}
use Rattle.fw_snapshot.specs.History.{History}
use Rattle.fw_recover.specs.Stands.{StandsFor}
use Rattle.fw_recover.specs.Store.{IsFresh}
use Rattle.fw_recover.proofs.Committing.{each_stands}
use Rattle.fw_recover.proofs.Standing.{stands_same}
use Rattle.fw_recover.proofs.store.Store.open.Goals as goal

pub invariant_of-result : goal.invariant_of-result
invariant_of-result g c =
    let kept = c.in-Ok.ensures.found in
    record {
      room = kept.room;
      some_generation = kept.some_generation;
      generation_fits = kept.generation_fits;
      log = λ goes_on. kept.log_goes_on;
      fresh = λ told goes_on.
          let P : History → Type 0 = λ h. IsFresh c.in-Ok.form c.in-Ok.generation c.in-Ok.log h (g.V.Volume.view c.read_sides.new.volume) in
          subst P (sym (c.in-Ok-settled.ensures ∙ c.state.ensures)) (kept.fresh told);
      lost = λ told lost. absurd (cc);
    }

pub returns-in-Ok-settled-clause-found : goal.returns-in-Ok-settled-clause-found
returns-in-Ok-settled-clause-found g c = (
  refl,
  λ told.
      let found : StandsFor c.in-Ok.state (g.V.Volume.view c.args.volume).seen =
      stands_same c.in-Ok.state (g.V.Volume.view c.read_sides.new.volume).seen (g.V.Volume.view c.args.volume).seen (c.in-Ok.ensures.found.fresh told).standing (λ side. sym ((c.read_sides.ensures.reads.calm told).seen side)) in
      subst (λ (h : History). StandsFor h (g.V.Volume.view c.args.volume).seen) (sym (c.in-Ok-settled.ensures ∙ c.state.ensures)) found,
)

pub returns-in-Ok-settled-clause-each : goal.returns-in-Ok-settled-clause-each
returns-in-Ok-settled-clause-each g c = λ told image left.
    subst (λ (h : History). StandsFor h image) (sym (c.in-Ok-settled.ensures ∙ c.state.ensures))
    (each_stands c.in-Ok.form c.in-Ok.generation c.in-Ok.log c.in-Ok.state (g.V.Volume.view c.read_sides.new.volume) (c.in-Ok.ensures.found.fresh told) image left)
