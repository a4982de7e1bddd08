use Rattle.std.proofs.Common.{ℕ, List, drop, refl, ◌∙◌, subst, arith, Some}
use Rattle.fw_journal.specs.Log.{LeadsTo}
use Rattle.fw_disk.proofs.Moments.{calm_start, calm_through}
use Rattle.fw_journal.proofs.Walk.{not_walked, walked_on}
use Rattle.fw_journal.proofs.log.Log.open.Goals as goal

pub loop-fault-init : goal.loop-fault-init
loop-fault-init g c = record {
  walked = λ told. not_walked c.args.start ((g.V.Volume.view c.args.volume.now).seen c.args.side);
  calm = λ told. calm_start (g.V.Volume.view c.args.volume.now) (g.met.V.Volume.only_now c.args.volume.now);
  sizes = record { limit = refl; size = λ s. refl };
  later = omega arith;
}

pub loop-fault-preserved : goal.loop-fault-preserved
loop-fault-preserved g c =
    let old = g.V.Volume.view c.args.volume.now in
    let mid = g.V.Volume.view c.loop-fault.volume in
    let new = g.V.Volume.view c.next_gate.new.volume in
    let side = c.args.side in
    let kept = c.loop-fault.invariant in
    record {
      walked = λ told.
          let same = (kept.calm told).seen side in
          let P : List ℕ → Type 0 = λ file. LeadsTo c.loop-fault.gate (drop c.loop-fault.gate file) (Some c.in-Ok-Some.next) in
          let step = subst P same (rw c.in-Ok-Some.field-0-is at (c.in-Ok-Some.ensures.found told)) in
          walked_on c.args.start c.loop-fault.gate c.in-Ok-Some.next (old.seen side) step.0 step.1 (kept.walked told) step.2 step.3 step.4;
      calm = λ told. calm_through old mid new (kept.calm told) (c.in-Ok-Some.ensures.calm told);
      sizes = record { limit = c.in-Ok-Some.ensures.sizes.limit ∙ kept.sizes.limit; size = λ s. c.in-Ok-Some.ensures.sizes.size s ∙ kept.sizes.size s };
      later = omega (arith, kept.later, c.in-Ok-Some.ensures.later);
    }
