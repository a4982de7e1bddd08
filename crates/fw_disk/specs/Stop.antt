-- What a volume in memory shows beyond what every volume does: from it follows what a stop leaves.
use Rattle.std.specs.Prelude.{reverse}
use Rattle.fw_disk.specs.declared.volume.Side.{Side}
use Rattle.fw_disk.specs.declared.memory.Choice.{Choice}
use Rattle.fw_disk.specs.declared.memory.MemVolume.{MemVolume}
use Rattle.fw_disk.specs.Volume.{View, Image}
use Rattle.fw_disk.specs.Memory.{FileState, LeftBy, files, file_state, memory_view, pending}

-- what can be said of it as of every volume
abbrev pub view_of : MemVolume → View
view_of volume = memory_view volume.left.items volume.right.items (reverse volume.calls.items) volume.limit volume.failures

-- what a stop is to leave
abbrev pub choice_of : MemVolume → Choice
choice_of volume = volume.choice

-- each of its files
abbrev pub file_of : MemVolume → Side → FileState
file_of volume side = file_state (files volume.left.items volume.right.items side) (pending side (reverse volume.calls.items))

-- the images that a stop leaves: of each file what the choice says
abbrev pub leaves_of : MemVolume → Image → Type 0
leaves_of volume c = (s : Side) → LeftBy volume.choice (file_of volume s) (c s)
