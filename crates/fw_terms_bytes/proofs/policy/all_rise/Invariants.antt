use Rattle.std.proofs.Common.{◌≡◌, drop}
use Rattle.fw_terms_bytes.specs.Reading.{all_rise}
use Rattle.fw_terms_bytes.proofs.policy.all_rise.Given as goal

abbrev pub invariant-loop-rule : goal.invariant-loop-rule
invariant-loop-rule l = all_rise (drop l.rule-index l.rules) ≡ all_rise l.rules
