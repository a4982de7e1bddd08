use mathlib.Core.List.{[], ◌∷◌}
use denote.Builtin.{u8}
use denote.Exit.{no}
use denote.Param.{param}
use denote.Param.Send.{sendable, shr_send}
use denote.Ref.{ShrRef}
use Rattle.std.proofs.Crossing.{send}
use Rattle.std.specs.contracts.alloc.Global as Global
use Rattle.fw_threads.specs.contracts.importer.Importer as Importer
use Rattle.fw_threads.proofs.Captures.{closure_send}
use Rattle.fw_threads.proofs.Sent.{importer_send}
use Rattle.fw_test_threads.proofs.refused.both.Goals as goal

pub join-requires-send-F : goal.join-requires-send-F
join-requires-send-F g c κs within = closure_send 1 _ no _ (ShrRef _ _ (param 1 g.row.R) ∷ Global.the_row ∷ Importer.the_row (param 0 g.row.J) g.J.Naming ∷ u8 ∷ u8 ∷ [])
    (shr_send _ _ _ c.type_bounds.sync-R, (send, (importer_send (param 0 g.row.J) g.J.Naming, (search sendable, (search sendable, tt)))))
