use Rattle.std.proofs.Common.{◌≡◌, ◌≤◌, false, IsTrue, length, take, vec_len, vec_capacity}
use Rattle.fw_disk.specs.Volume.{LeavesOnly}
use Rattle.fw_snapshot.specs.Verdicts.{verdicts_on}
use Rattle.fw_recover.specs.Stands.{EachStandsFor}
use Rattle.fw_recover.specs.Committing.{with_first, StandsForFirst}
use Rattle.fw_recover.proofs.store.Store.run.Given as goal

-- the entries so far are answered, and the accepted ones stand
abbrev pub invariant-loop-entry : goal.invariant-loop-entry
invariant-loop-entry g l =
    let first = l.initial.self in
    let old = g.V.Volume.view first.volume in
    let now = g.V.Volume.view l.self.volume in
    record {
      len : vec_len l.verdicts ≡ l.entry-index;
      room : length l.entries ≤ vec_capacity l.verdicts;
      verdicts : l.verdicts.items ≡ verdicts_on first.history.entries (take l.entry-index l.entries);
      history : l.self.history ≡ with_first first.history l.entry-index l.entries;
      went_on : first.failed ≡ false;
      failed : l.self.failed ≡ false;
      run : IsTrue g.V.Volume.tells → LeavesOnly old now (StandsForFirst first.history l.entries);
      each : IsTrue g.V.Volume.tells → EachStandsFor l.self.history now;
      later : old.failures ≤ now.failures;
      limit : now.limit ≡ old.limit;
    }
