use Rattle.std.proofs.Common.{◌≡◌, drop, map}
use denote.Shadow.{shadow}
use denote.Text.{Utf8}
use Rattle.fw_bytes.specs.Order.{rise_from}
use Rattle.fw_fields.proofs.rules.rises_from.Given as goal

abbrev pub invariant-loop-tag : goal.invariant-loop-tag
invariant-loop-tag l = (rise_from l.last (map (λ t. t.key) (drop l.tag-index l.tags)) ≡ rise_from l.fn.last (map (λ t. t.key) l.tags)) × shadow (Utf8 l.last)
