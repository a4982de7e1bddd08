use Rattle.std.proofs.Common.{subst}
use Rattle.fw_selections.specs.Sources.{IsNamed}
use Rattle.fw_selections.proofs.map_file.has_source_of.Goals as goal

pub returns-in-Some-clause-double : goal.returns-in-Some-clause-double
returns-in-Some-clause-double c = λ _. record {
  source = c.source_named.result;
  is_its = subst (λ t. IsNamed t c.source_named.result) c.as_str.ensures.value c.source_named.ensures;
  map = c.in-Some.field-0.now;
  is_there = c.in-Some.ensures.there;
}
