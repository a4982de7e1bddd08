use mathlib.Core.List.{[]}
use denote.Param.{param}
use Rattle.fw_disk.specs.contracts.memory.MemVolume as MemVolume
use Rattle.fw_disk.specs.contracts.memory.MemVolumeVolume.TheImpl as memory_volume
use Rattle.fw_disk.proofs.memory.MemVolume.TheSendSync as memory
use Rattle.fw_gate.specs.contracts.gate.GateVolume as GateVolume
use Rattle.fw_gate.specs.contracts.gate.GateVolumeVolume.TheImpl as gate_volume
use Rattle.fw_gate.proofs.gate.GateVolume.TheSendSync as gate
use Rattle.fw_test_threads.proofs.Sent.{held_closure_send}
use Rattle.fw_test_threads.specs.contracts.gated.Waits as Waits
use Rattle.fw_test_threads.specs.contracts.gated.WaitsGate.TheImpl as waits_gate
use Rattle.fw_test_threads.proofs.gated.Waits.TheSendSync as waits
use Rattle.fw_test_threads.proofs.gated.viewed.Goals as goal

pub join-analyst-requires-send-F : goal.join-analyst-requires-send-F
join-analyst-requires-send-F g c κs within = held_closure_send _ (param 0 g.row.J) (GateVolume.the_row MemVolume.the_row Waits.the_row) (param 1 g.row.R) g.J.Naming (gate_volume.ghosts MemVolume.the_row Waits.the_row memory_volume.ghosts memory_volume.dict waits_gate.ghosts waits_gate.dict waits_gate.dict) (gate.the_send MemVolume.the_row Waits.the_row memory.the_send waits.the_send) c.type_bounds.sync-R _ _ [] tt
