use mathlib.Core.List.{[], ◌∷◌}
use denote.Exit.{no}
use denote.Param.{param}
use denote.Param.Send.{IsSync, shr_send, param_sync}
use denote.Ref.{ShrRef}
use Rattle.std.proofs.Crossing.{send}
use Rattle.std.specs.contracts.alloc.Global as Global
use Rattle.fw_threads.specs.contracts.importer.Importer as Importer
use Rattle.fw_threads.proofs.Captures.{closure_send}
use Rattle.fw_threads.proofs.Sent.{importer_send}
use Rattle.fw_test_threads.proofs.gated.fn.viewed.join+arg3.Goals as goal

pub join-requires-send-F : goal.join-requires-send-F
join-requires-send-F g c κs within =
    let shared : IsSync g.row.R = search (c.requires) in
    closure_send 1 _ no _ (ShrRef _ _ (param 1 g.row.R) ∷ Global.the_row ∷ Importer.the_row (param 0 g.row.J) g.J.Naming ∷ [])
    (shr_send _ _ _ (param_sync 1 g.row.R shared), (send, (importer_send (param 0 g.row.J) g.J.Naming, tt)))
