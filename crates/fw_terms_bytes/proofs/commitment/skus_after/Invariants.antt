use Rattle.std.proofs.Common.{◌≡◌, ◌-◌, map, string_bytes}
use Rattle.fw_bytes.specs.Reading.{times}
use Rattle.fw_bytes.proofs.Loop.{with_front}
use Rattle.fw_fields.specs.Reading.{short_text_at}
use Rattle.fw_terms_bytes.proofs.commitment.skus_after.Given as goal

abbrev pub invariant-loop : goal.invariant-loop
invariant-loop l = with_front (map string_bytes l.skus.items) (times short_text_at (l.count - l.counter) l.rest) ≡ times short_text_at l.count l.bytes
