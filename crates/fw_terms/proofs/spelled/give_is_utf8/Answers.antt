use Rattle.std.proofs.Common.{List, subst}
use Rattle.std.specs.List.{All}
use Rattle.std.specs.Str.{IsUtf8}
use Rattle.fw_terms.specs.Policy.{TargetValue}
use Rattle.fw_terms.proofs.spelled.give_is_utf8.Goals as goal

pub returns-in-Fixed : goal.returns-in-Fixed
returns-in-Fixed c = rw c.in-Fixed.is (subst (λ (targets : List TargetValue). All (λ t. IsUtf8 t.group) targets) c.deref.ensures.value c.targets_are_utf8.ensures)
