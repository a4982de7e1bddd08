use Rattle.std.proofs.Common.{◌≡◌, map, take}
use Rattle.std.specs.Prelude.{string_bytes}
use Rattle.fw_allocated.specs.Objects.{quoted_text}
use Rattle.fw_allocated.proofs.json_object.quoted_all.Given as goal

abbrev pub invariant-loop-text : goal.invariant-loop-text
invariant-loop-text l = map (λ s. string_bytes s) l.all.items ≡ map (λ t. quoted_text t.now) (take l.text-index l.texts)
