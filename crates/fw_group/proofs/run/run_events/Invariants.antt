use Rattle.std.proofs.Common.{◌≡◌, ◌≤◌, ℕ, Bool, IsTrue, List, length, take, drop, reverse}
use Rattle.fw_entry.specs.Entry.{EntryValue}
use Rattle.fw_snapshot.specs.History.{History}
use Rattle.fw_group.specs.Turns.{IsDesk}
use Rattle.fw_group.specs.Runs.{start, Stands}
use Rattle.fw_group.proofs.Turned.{SoFar}
use Rattle.fw_group.proofs.run.run_events.Given as goal

abbrev pub invariant-loop-event : goal.invariant-loop-event
invariant-loop-event g l =
    record {
      run : IsTrue g.V.Volume.tells → (published : History) (group : List EntryValue) (failed : Bool)
          → Stands g.V.Volume.view l.initial.house (start l.initial.house published group failed l.importers l.analysts)
          → SoFar g.V.Volume.view l.initial.house (start l.initial.house published group failed l.importers l.analysts) (take (length l.answers.items) (reverse l.initial.left.items)) l.answers.items l.house l.desk;
      desk : IsDesk l.desk;
      within : length l.answers.items ≤ length (reverse l.initial.left.items);
      rest : drop (length l.answers.items) (reverse l.initial.left.items) ≡ reverse l.left.items;
    }

abbrev pub decreases-loop-event : goal.decreases-loop-event
decreases-loop-event g l = length l.left.items
