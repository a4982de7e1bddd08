use Rattle.std.proofs.Common.{◌≤◌, ◌-◌, IsTrue}
use Rattle.fw_disk.specs.Volume.{SameSizes, Calm}
use Rattle.fw_journal.specs.Frames.{Walked}
use Rattle.fw_journal.proofs.log.Log.open.Given as goal

-- open frames stand from the first gate up to this one, and nothing has changed
abbrev pub invariant-loop-fault : goal.invariant-loop-fault
invariant-loop-fault g l =
    let old = g.V.Volume.view l.initial.volume in
    let now = g.V.Volume.view l.volume in
    record {
      walked : IsTrue g.V.Volume.tells → Walked l.start l.gate (old.seen l.side);
      calm : IsTrue g.V.Volume.tells → Calm old now;
      sizes : SameSizes old now;
      later : old.failures ≤ now.failures;
    }

abbrev pub decreases-loop-fault : goal.decreases-loop-fault
decreases-loop-fault g l = (g.V.Volume.view l.volume).size l.side - l.gate
