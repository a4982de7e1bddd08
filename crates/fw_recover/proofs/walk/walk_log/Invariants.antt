use Rattle.std.proofs.Common.{◌-◌, IsTrue}
use Rattle.fw_recover.specs.Opening.{HasGroups, OnlyReads}
use Rattle.fw_recover.proofs.walk.walk_log.Given as goal

-- the groups up to this gate are behind the state, and nothing has changed
abbrev pub invariant-loop-payload : goal.invariant-loop-payload
invariant-loop-payload g l =
    let old = g.V.Volume.view l.initial.volume in
    let now = g.V.Volume.view l.volume in
    record {
      groups : IsTrue g.V.Volume.tells → HasGroups l.form l.initial.state l.start l.gate (old.seen l.side) l.state;
      reads : OnlyReads g.V.Volume.tells old now;
    }

abbrev pub decreases-loop-payload : goal.decreases-loop-payload
decreases-loop-payload g l = (g.V.Volume.view l.volume).size l.side - l.gate
