use Rattle.std.proofs.Common.{◌≡◌, ◌++◌, drop, string_bytes}
use Rattle.fw_table.specs.Amounts.{grouped}
use Rattle.fw_table.proofs.amounts.grouped.Given as goal

abbrev pub invariant-loop-place : goal.invariant-loop-place
invariant-loop-place l = string_bytes l.text ++ grouped (drop l.place l.bytes) ≡ grouped l.bytes
