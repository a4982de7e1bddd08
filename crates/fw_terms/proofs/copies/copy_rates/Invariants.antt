use Rattle.std.proofs.Common.{◌≡◌, take}
use Rattle.fw_terms.proofs.copies.copy_rates.Given as goal

abbrev pub invariant-loop-rate : goal.invariant-loop-rate
invariant-loop-rate l = l.copies.items ≡ take l.rate-index l.rates
