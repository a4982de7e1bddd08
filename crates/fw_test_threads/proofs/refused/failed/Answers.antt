use mathlib.Core.List.{[]}
use denote.Param.{param}
use Rattle.fw_disk.specs.contracts.memory.MemVolume as MemVolume
use Rattle.fw_disk.specs.contracts.memory.MemVolumeVolume.TheImpl as memory_volume
use Rattle.fw_disk.proofs.memory.MemVolume.TheSendSync as memory
use Rattle.fw_disk.specs.contracts.fault.FaultVolume as FaultVolume
use Rattle.fw_disk.specs.contracts.fault.FaultVolumeVolume.TheImpl as fault_volume
use Rattle.fw_disk.proofs.fault.FaultVolume.TheSendSync as fault
use Rattle.fw_test_threads.proofs.Sent.{held_closure_send}
use Rattle.fw_test_threads.proofs.refused.failed.Goals as goal

pub join-requires-send-F : goal.join-requires-send-F
join-requires-send-F g c κs within = held_closure_send _ (param 0 g.row.J) (FaultVolume.the_row MemVolume.the_row) (param 1 g.row.R) g.J.Naming (fault_volume.ghosts MemVolume.the_row memory_volume.ghosts memory_volume.dict) (fault.the_send MemVolume.the_row memory.the_send) c.type_bounds.sync-R _ _ [] tt
