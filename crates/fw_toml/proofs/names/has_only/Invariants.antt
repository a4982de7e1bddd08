use Rattle.fw_toml.proofs.NameFacts.{Known}
use Rattle.std.specs.BTreeMap.{keys}
use Rattle.fw_toml.proofs.names.has_only.Given as goal

abbrev pub invariant-loop-name : goal.invariant-loop-name
invariant-loop-name l =
    (goal.iterator-loop-name).can_next l.name-iterator ×
    (goal.iterator-loop-name).is_finite l.name-iterator ×
    Known l.names (keys l.table) l.name-iterator
