use Rattle.std.proofs.Common.{◌≡◌, take, map}
use Rattle.std.specs.List.{All}
use Rattle.fw_terms.specs.Commitment.{IsRate}
use Rattle.fw_commitment.specs.Rules.{rates_stated}
use Rattle.fw_commitment.proofs.terms.rates_of.Given as goal

abbrev pub invariant-loop-entry : goal.invariant-loop-entry
invariant-loop-entry l = record { same : rates_stated l.rates.items ≡ map (λ e. (e.0.now, e.1)) (take l.entry-index l.stated); each : All IsRate l.rates.items }
