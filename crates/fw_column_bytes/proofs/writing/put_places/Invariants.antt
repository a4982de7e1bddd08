use Rattle.std.proofs.Common.{◌≡◌, ◌++◌, take}
use Rattle.fw_column_bytes.proofs.Copied.{codes}
use Rattle.fw_column_bytes.proofs.writing.put_places.Given as goal

abbrev pub invariant-loop-place : goal.invariant-loop-place
invariant-loop-place l = l.out.items ≡ l.fn.out.items ++ codes (take l.place-index l.places)
