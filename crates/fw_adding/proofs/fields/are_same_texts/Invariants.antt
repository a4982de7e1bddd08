use Rattle.std.proofs.Common.{◌≡◌, map, string_bytes, take}
use Rattle.fw_adding.proofs.fields.are_same_texts.Given as goal

abbrev pub invariant-loop-place : goal.invariant-loop-place
invariant-loop-place l = map string_bytes (take l.place l.one) ≡ map string_bytes (take l.place l.other)
