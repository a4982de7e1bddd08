use Rattle.std.proofs.Common.{◌≡◌, ◌++◌, length, take, map}
use Rattle.std.specs.List.{flat_map}
use Rattle.fw_bytes.specs.Spelling.{number64}
use Rattle.fw_snapshot.specs.Heads.{head_of}
use Rattle.fw_segment.specs.Heads.{head}
use Rattle.fw_segment.proofs.states.put_heads.Given as goal

-- the number and the heads so far are written
abbrev pub invariant-loop-place : goal.invariant-loop-place
invariant-loop-place l = l.out.items ≡ l.fn.out.items ++ (number64 (length l.state.entries) ++ flat_map head (take l.place (map head_of l.state.entries)))
