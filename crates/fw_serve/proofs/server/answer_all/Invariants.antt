use Rattle.std.proofs.Common.{length}
use Rattle.fw_sums.specs.ReportCache.{AreKept}
use Rattle.fw_serve.specs.Flight.{RunsSoFar}
use Rattle.fw_serve.specs.Served.{ServesSoFar}
use Rattle.fw_serve.specs.Standings.{standing_of}
use Rattle.fw_snapshot.specs.History.{commitments_of, rows_of}
use Rattle.fw_serve.proofs.server.answer_all.Given as goal

-- the commands so far are done, and their answers written; what is kept is of the store's entries
abbrev pub invariant-loop-command : goal.invariant-loop-command
invariant-loop-command g l = record {
  so_far : ServesSoFar l.text l.script (standing_of g.V.Volume.view l.fn.store) (standing_of g.V.Volume.view l.store) (g.W.Write.contents l.fn.writer) (g.W.Write.contents l.writer);
  runs : RunsSoFar g.V.Volume.tells g.V.Volume.view l.text l.script l.fn.store l.store (g.W.Write.contents l.fn.writer) (g.W.Write.contents l.writer);
  kept : AreKept (commitments_of l.store.history.entries) (rows_of l.store.history.entries) l.cache;
}

abbrev pub decreases-loop-command : goal.decreases-loop-command
decreases-loop-command g l = length l.script
