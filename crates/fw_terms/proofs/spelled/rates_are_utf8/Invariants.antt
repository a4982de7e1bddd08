use Rattle.std.proofs.Common.{All, take}
use Rattle.std.specs.Str.{IsUtf8}
use Rattle.fw_terms.proofs.spelled.rates_are_utf8.Given as goal

abbrev pub invariant-loop-one : goal.invariant-loop-one
invariant-loop-one l = All (λ r. IsUtf8 r.sku) (take l.one-index l.rates)
