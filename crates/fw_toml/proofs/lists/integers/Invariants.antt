use Rattle.toml.specs.Data.{integer}
use Rattle.fw_toml.proofs.ListFacts.{FoundMembers}
use Rattle.fw_toml.proofs.lists.integers.Given as goal

abbrev pub invariant-loop-name : goal.invariant-loop-name
invariant-loop-name l =
    (goal.iterator-loop-name).can_next l.name-iterator ×
    (goal.iterator-loop-name).is_finite l.name-iterator ×
    FoundMembers (λ e. (e.0.now, integer e.1)) l.initial.name-iterator l.found.items l.name-iterator
