use Rattle.fw_fields.specs.Reading.{second_at}
use Rattle.fw_column_bytes.proofs.WholeFacts.{AreRight}
use Rattle.fw_column_bytes.proofs.whole.seconds_in.Given as goal

abbrev pub invariant-loop-place : goal.invariant-loop-place
invariant-loop-place l = AreRight second_at 8 l.column.items l.is_right l.place l.count l.bytes
