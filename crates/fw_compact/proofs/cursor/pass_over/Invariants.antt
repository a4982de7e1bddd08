use Rattle.std.proofs.Common.{◌≡◌, length}
use Rattle.fw_compact.specs.Compacted.{counting_of}
use Rattle.fw_compact.proofs.cursor.pass_over.Given as goal

-- those that count are left
abbrev pub invariant-loop-head : goal.invariant-loop-head
invariant-loop-head l = counting_of l.state.entries l.left ≡ counting_of l.state.entries l.fn.left

-- each turn passes over an entry
abbrev pub decreases-loop-head : goal.decreases-loop-head
decreases-loop-head l = length l.left
