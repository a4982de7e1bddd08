use Rattle.std.proofs.Common.{◌≡◌, inl, inr, ℕ, List, drop, Some, Err, refl, sym, ◌∙◌, ap, subst, arith}
use Rattle.fw_disk.proofs.Moments.{calm_start, calm_through}
use Rattle.fw_journal.specs.declared.fault.LogFault.{LogFault}
use Rattle.fw_journal.specs.Frames.{IsBroken}
use Rattle.fw_journal.specs.Log.{IsFrameAt}
use Rattle.fw_recover.specs.declared.fault.StoreFault.TheVariants.{Corrupt, NoHouse, Device}
use Rattle.fw_recover.specs.Corrupt.{LogBreaks}
use Rattle.fw_recover.specs.Opening.{GoesNotBehind, GoesBehind}
use Rattle.fw_recover.proofs.Found.{no_groups_yet, one_group_more, breaks_there, bad_frame, log_corrupt, log_not_none, log_device}
use Rattle.fw_recover.proofs.walk.walk_log.Goals as goal

pub loop-payload-init : goal.loop-payload-init
loop-payload-init g c = record {
  groups = λ told. no_groups_yet c.args.form c.args.state.now c.args.start ((g.V.Volume.view c.args.volume.now).seen c.args.side) c.requires.legal;
  reads = record {
    calm = λ told. calm_start (g.V.Volume.view c.args.volume.now) (g.met.V.Volume.only_now c.args.volume.now);
    sizes = record { limit = refl; size = λ s. refl };
    later = omega arith;
  };
}

pub loop-payload-preserved : goal.loop-payload-preserved
loop-payload-preserved g c =
    let old = g.V.Volume.view c.args.volume.now in
    let mid = g.V.Volume.view c.loop-payload.volume in
    let new = g.V.Volume.view c.frame_at.new.volume in
    let kept = c.loop-payload.invariant in
    record {
      groups = λ told.
          let file = old.seen c.args.side in
          let same = (kept.reads.calm told).seen c.args.side in
          let payload = c.in-Ok-Some.payload.items in
          let P : List ℕ → Type 0 = λ l. IsFrameAt c.loop-payload.gate (drop c.loop-payload.gate l) (Some (c.in-Ok-Some.payload, c.in-Ok-Some.next)) in
          let step = subst P same (rw c.in-Ok-Some.field-0-is at (c.in-Ok-Some.ensures.found told)) in
          let Q : List ℕ → Type 0 = λ l. GoesBehind c.args.form c.loop-payload.state l c.add_group.new.state in
          let goes = subst Q c.deref.ensures.value (rw c.in-Ok-true.field-0-test at c.in-Ok-true.ensures) in
          one_group_more c.args.form c.args.state.now c.loop-payload.state c.add_group.new.state c.args.start c.loop-payload.gate c.in-Ok-Some.next file payload step.0 (kept.groups told) step.1 step.2 step.3 goes;
      reads = record {
        calm = λ told. calm_through old mid new (kept.reads.calm told) (c.in-Ok-Some.ensures.calm told);
        sizes = record {
          limit = c.in-Ok-Some.ensures.sizes.limit ∙ kept.reads.sizes.limit;
          size = λ s. c.in-Ok-Some.ensures.sizes.size s ∙ kept.reads.sizes.size s;
        };
        later = omega (arith, kept.reads.later, c.in-Ok-Some.ensures.later);
      };
    }

pub returns-in-Ok-false-clause-corrupt : goal.returns-in-Ok-false-clause-corrupt
returns-in-Ok-false-clause-corrupt g c at_side at is = (
  cc,
  λ told.
      let old = g.V.Volume.view c.args.volume.now in
      let kept = c.loop-payload.invariant in
      let file = old.seen c.args.side in
      let same = (kept.reads.calm told).seen c.args.side in
      let payload = c.in-Ok-Some.payload.items in
      let P : List ℕ → Type 0 = λ l. IsFrameAt c.loop-payload.gate (drop c.loop-payload.gate l) (Some (c.in-Ok-Some.payload, c.in-Ok-Some.next)) in
      let step = subst P same (rw c.in-Ok-Some.field-0-is at (c.in-Ok-Some.ensures.found told)) in
      let Q : List ℕ → Type 0 = λ l. GoesNotBehind c.args.form c.loop-payload.state.entries l in
      let bad = subst Q c.deref.ensures.value (rw c.in-Ok-false.field-0-test at c.in-Ok-false.ensures) in
      let place : c.loop-payload.gate ≡ at = cc in
      let breaks =
      breaks_there c.args.form c.args.state.now c.loop-payload.state c.args.start c.loop-payload.gate file (kept.groups told)
      (inr (bad_frame c.args.form c.loop-payload.state.entries (drop c.loop-payload.gate file) payload step.0 step.1 step.2 bad)) in
      subst (λ (n : ℕ). LogBreaks c.args.form c.args.state.now c.args.start n file) place breaks,
)

pub returns-in-Err-clause-corrupt : goal.returns-in-Err-clause-corrupt
returns-in-Err-clause-corrupt g c at_side at is =
    let old = g.V.Volume.view c.args.volume.now in
    let kept = c.loop-payload.invariant in
    let file = old.seen c.args.side in
    let fault : c.of_log.result ≡ Corrupt at_side at = cc in
    let found = log_corrupt c.args.side at_side at c.in-Err.fault (sym c.of_log.ensures.value ∙ fault) in
    let there = c.frame_at.ensures.corrupt at (c.in-Err.is ∙ ap (λ (f : LogFault). Err f) found.1) in (
      found.0,
      λ told.
          let B : List ℕ → Type 0 = λ l. IsBroken (drop c.loop-payload.gate l) in
          let broken = subst B ((kept.reads.calm told).seen c.args.side) (there.1 told) in
          subst (λ (n : ℕ). LogBreaks c.args.form c.args.state.now c.args.start n file) (sym there.0)
          (breaks_there c.args.form c.args.state.now c.loop-payload.state c.args.start c.loop-payload.gate file (kept.groups told) (inl broken)),
    )

pub returns-in-Err-clause-not_no_house : goal.returns-in-Err-clause-not_no_house
returns-in-Err-clause-not_no_house g c is =
    let fault : c.of_log.result ≡ NoHouse = cc in
    log_not_none c.args.side c.in-Err.fault (sym c.of_log.ensures.value ∙ fault)

pub returns-in-Err-clause-device : goal.returns-in-Err-clause-device
returns-in-Err-clause-device g c is =
    let kept = c.loop-payload.invariant in
    let fault : c.of_log.result ≡ Device = cc in
    elim (log_device c.args.side c.in-Err.fault (sym c.of_log.ensures.value ∙ fault)) [
      | inl device ↦ (let rose = c.frame_at.ensures.device (c.in-Err.is ∙ ap (λ (f : LogFault). Err f) device) in omega (arith, rose, kept.reads.later))
      | inr (inl failed) ↦ absurd (c.frame_at.ensures.not_failed (c.in-Err.is ∙ ap (λ (f : LogFault). Err f) failed))
      | inr (inr large) ↦ absurd (c.frame_at.ensures.not_too_large (c.in-Err.is ∙ ap (λ (f : LogFault). Err f) large))
    ]
