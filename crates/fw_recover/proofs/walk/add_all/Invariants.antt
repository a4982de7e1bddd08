use Rattle.std.proofs.Common.{◌≡◌, take}
use Rattle.fw_snapshot.specs.Judging.{IsLegalAfter}
use Rattle.fw_snapshot.specs.Verdicts.{with_more}
use Rattle.fw_recover.proofs.walk.add_all.Given as goal

-- the entries so far were accepted, and are behind the state
abbrev pub invariant-loop-entry : goal.invariant-loop-entry
invariant-loop-entry l = record {
  legal : IsLegalAfter l.initial.state.entries (take l.entry-index l.entries);
  is : l.state ≡ with_more l.initial.state (take l.entry-index l.entries);
}
