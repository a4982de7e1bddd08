use Rattle.std.proofs.Common.{◌≡◌, map, take, string_bytes}
use Rattle.fw_row_table.proofs.names.Names.of_texts.Given as goal

-- the texts so far
abbrev pub invariant-loop-place : goal.invariant-loop-place
invariant-loop-place l = l.names ≡ take l.place (map string_bytes l.texts)
