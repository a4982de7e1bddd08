use Rattle.std.proofs.Common.{◌≡◌, ◌≤◌, ◌*◌, map, take}
use Rattle.fw_snapshot.specs.Heads.{row_counts}
use Rattle.fw_segment.specs.HeadView.{head_view}
use Rattle.fw_segment.proofs.states.rows_said.Given as goal

-- the rows of the heads so far, at most 4,096 each
abbrev pub invariant-loop-head : goal.invariant-loop-head
invariant-loop-head l = (l.rows ≡ row_counts (take l.head-index (map head_view l.heads))) × (l.rows ≤ 4096 * l.head-index)
