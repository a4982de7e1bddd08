use Rattle.std.proofs.Common.{IsAscii, ◌≡◌, false, take}
use Rattle.fw_rows.proofs.ascii.is_ascii.Given as goal

-- unless another byte was met, the bytes so far are ASCII
abbrev pub invariant-loop-byte : goal.invariant-loop-byte
invariant-loop-byte l = l.has_others ≡ false → IsAscii (take l.byte-index l.bytes)
