use Rattle.std.proofs.Common.{◌≡◌, drop}
use Rattle.fw_dialect.specs.Fields.{all_fit}
use Rattle.fw_dialect.proofs.times.has_form.Given as goal

-- what is left fits where all does
abbrev pub invariant-loop-index : goal.invariant-loop-index
invariant-loop-index l = all_fit (drop l.index l.form) (drop l.index l.text) ≡ all_fit l.form l.text
