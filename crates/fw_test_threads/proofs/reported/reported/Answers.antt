use mathlib.Core.List.{[]}
use denote.Param.{param}
use Rattle.fw_disk.specs.contracts.memory.MemVolume as MemVolume
use Rattle.fw_disk.specs.contracts.memory.MemVolumeVolume.TheImpl as memory_volume
use Rattle.fw_disk.proofs.memory.MemVolume.TheSendSync as memory
use Rattle.fw_test_threads.proofs.Sent.{held_closure_send}
use Rattle.fw_test_threads.proofs.reported.reported.Goals as goal

pub join-beside-requires-send-F : goal.join-beside-requires-send-F
join-beside-requires-send-F g c κs within = held_closure_send _ (param 0 g.row.J) MemVolume.the_row (param 1 g.row.R) g.J.Naming memory_volume.ghosts memory.the_send c.type_bounds.sync-R _ _ [] tt
