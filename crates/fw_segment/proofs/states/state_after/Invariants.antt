use Rattle.std.proofs.Common.{◌≡◌, length, map, All}
use Rattle.std.specs.Vec.Iter.{into_iter_items, into_iter_len}
use Rattle.fw_snapshot.specs.Building.{left_rows}
use Rattle.fw_snapshot.specs.Heads.{row_counts}
use Rattle.fw_segment.specs.Heads.{IsHead}
use Rattle.fw_segment.specs.HeadView.{head_view}
use Rattle.fw_segment.specs.States.{continued}
use Rattle.fw_segment.proofs.states.state_after.Given as goal

-- what is made of the heads that are left, behind the entries so far, is what is made of all
abbrev pub invariant-loop-head : goal.invariant-loop-head
invariant-loop-head l =
    (continued l.fn.left l.fn.builder.history (map head_view l.fn.heads.items) (left_rows l.fn.builder) ≡ continued l.left l.builder.history (map head_view (into_iter_items l.head-iterator)) (left_rows l.builder))
    × (length (left_rows l.builder) ≡ row_counts (map head_view (into_iter_items l.head-iterator)))
    × All IsHead (map head_view (into_iter_items l.head-iterator))
    × (into_iter_len l.head-iterator ≡ length (into_iter_items l.head-iterator))
