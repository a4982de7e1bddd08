use Rattle.fw_column_bytes.proofs.WholeFacts.{AreWithin}
use Rattle.fw_column_bytes.proofs.whole.bytes_in.Given as goal

abbrev pub invariant-loop-byte : goal.invariant-loop-byte
invariant-loop-byte l = AreWithin l.least l.most l.is_right l.byte-index l.count l.bytes
