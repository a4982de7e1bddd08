use Rattle.std.proofs.Common.{◌≡◌, take, map, string_bytes}
use Rattle.std.specs.List.{All}
use Rattle.fw_charge.specs.Charge.{IsShortText}
use Rattle.fw_commitment.proofs.terms.skus_of.Given as goal

abbrev pub invariant-loop-text : goal.invariant-loop-text
invariant-loop-text l = let seen = map (λ t. t.now) (take l.text-index l.texts) in record { same : map string_bytes l.skus.items ≡ seen; named : All IsShortText seen }
