use Rattle.std.proofs.Common.{◌≡◌, ◌++◌, ℕ, List, length}
use Rattle.std.specs.List.{flat_map}
use Rattle.sha2.specs.Hashers.{Holds256}
use Rattle.fw_entry.specs.Entry.{EntryValue}
use Rattle.fw_entry.specs.Spelling.{entry}
use Rattle.fw_digest.proofs.digesting.digest.Given as goal

-- the currency and those before the entries that are left are digested
abbrev pub invariant-loop-entry : goal.invariant-loop-entry
invariant-loop-entry l =
    (front : List EntryValue)
    × (l.state.entries ≡ front ++ l.left)
    × Holds256 l.hasher (l.state.currency ++ flat_map entry front)

-- each turn takes an entry
abbrev pub decreases-loop-entry : goal.decreases-loop-entry
decreases-loop-entry l = length l.left
