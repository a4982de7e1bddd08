use Rattle.std.proofs.Common.{rules, inl, inr, ◌≡◌, length, get_or, subst}
use Rattle.fw_disk.proofs.Moments.{calm_call, calm_start}
use Rattle.fw_disk.specs.Volume.{LeavesOnly, TornFrom}
use Rattle.fw_recover.proofs.ClosingFacts.{closes}
use Rattle.fw_recover.proofs.sides.close_side.Goals as goal
use Rattle.fw_recover.proofs.sides.close_side.Goals.{then-len-gt0+in_ok-read+else-gate-ne1, else-len-gt0}

pub returns-in_err-write_synced-clause-any_moment : goal.returns-in_err-write_synced-clause-any_moment
returns-in_err-write_synced-clause-any_moment g c told settled =
    let side = c.args.side in
    let old = g.V.Volume.view c.args.volume.now in
    let new = g.V.Volume.view c.write_synced.new.volume in
    elim c.if-len-gt0.branch [
      | then-len-gt0+in_ok-read+else-gate-ne1 w ↦
          let opens : get_or (old.seen side) 0 0 ≡ 1 = search rules in
          closes side old (g.V.Volume.view w.read.new.self) new settled (inr opens)
          (calm_call old (g.V.Volume.view w.read.new.self) (g.met.V.Volume.only_now c.args.volume.now) (w.read.ensures.told told))
          (subst (λ v. LeavesOnly (g.V.Volume.view v) new (TornFrom side 0 1 (g.V.Volume.view v))) w.volume-is (c.write_synced.ensures.any_moment told))
      | else-len-gt0 w ↦
          let none : length (old.seen side) ≡ 0 = search rules in
          closes side old old new settled (inl none)
          (calm_start old (g.met.V.Volume.only_now c.args.volume.now))
          (subst (λ v. LeavesOnly (g.V.Volume.view v) new (TornFrom side 0 1 (g.V.Volume.view v))) w.volume-is (c.write_synced.ensures.any_moment told))
    ]
