use mathlib.Core.List.{[], ◌∷◌}
use denote.Param.{param}
use denote.Param.Send.{IsSync, sendable, shr_send}
use denote.Ref.{ShrRef}
use Rattle.std.proofs.Crossing.{crosses}
use Rattle.std.specs.contracts.sync.atomic.AtomicBool as AtomicBool
use Rattle.fw_disk.specs.contracts.memory.MemVolume as MemVolume
use Rattle.fw_disk.specs.contracts.memory.MemVolumeVolume.TheImpl as memory_volume
use Rattle.fw_disk.proofs.memory.MemVolume.TheSendSync as memory
use Rattle.fw_test_threads.proofs.Sent.{held_closure_send}
use Rattle.fw_test_threads.proofs.refused.closed.Goals as goal

bool_sync : IsSync AtomicBool.the_row
bool_sync = search (crosses, sendable) depth 20

pub join-entries-requires-send-F : goal.join-entries-requires-send-F
join-entries-requires-send-F g c κs within = held_closure_send _ (param 0 g.row.J) MemVolume.the_row (param 1 g.row.R) g.J.Naming memory_volume.ghosts memory.the_send c.type_bounds.sync-R _ _
    (ShrRef _ _ (param 1 g.row.R) ∷ ShrRef _ _ AtomicBool.the_row ∷ ShrRef _ _ AtomicBool.the_row ∷ [])
    (shr_send _ _ _ c.type_bounds.sync-R, (shr_send _ _ _ bool_sync, (shr_send _ _ _ bool_sync, tt)))
