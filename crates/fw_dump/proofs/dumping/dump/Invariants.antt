use Rattle.std.proofs.Common.{◌≡◌, ◌++◌, ℕ, List, length}
use Rattle.std.specs.Io.KnownBytes.{Appends}
use Rattle.fw_entry.specs.Entry.{EntryValue}
use Rattle.fw_dump.specs.Dumps.{IsDumpOf}
use Rattle.fw_dump.proofs.dumping.dump.Given as goal

-- those before the entries that are left are written
abbrev pub invariant-loop-head : goal.invariant-loop-head
invariant-loop-head g l =
    (front : List EntryValue) × (text : List ℕ)
    × (l.state.entries ≡ front ++ l.left)
    × IsDumpOf l.state.currency front text
    × Appends (g.W.Write.contents l.fn.writer) (g.W.Write.contents l.writer) text

-- each turn takes an entry
abbrev pub decreases-loop-head : goal.decreases-loop-head
decreases-loop-head g l = length l.left
