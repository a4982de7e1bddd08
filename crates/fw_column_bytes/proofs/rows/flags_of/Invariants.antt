use Rattle.std.proofs.Common.{◌≡◌, map, take}
use Rattle.std.specs.Prelude.{◌==◌}
use Rattle.fw_column_bytes.proofs.rows.flags_of.Given as goal

abbrev pub invariant-loop-byte : goal.invariant-loop-byte
invariant-loop-byte l = l.flags.items ≡ map (λ byte. byte == 1) (take l.byte-index l.column)
