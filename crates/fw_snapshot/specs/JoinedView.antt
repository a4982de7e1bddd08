-- The state and the segments that a joined state stands for.
use Rattle.std.specs.Prelude.{◌≡◌, ◌≤◌, length}
use Rattle.fw_posted.specs.Rows.{segment_rows}
use Rattle.fw_snapshot.specs.History.{rows_posted}
use Rattle.fw_snapshot.specs.Joined.{AreFull, JoinedValue}
use Rattle.fw_snapshot.specs.Judging.{most_rows}
use Rattle.fw_snapshot.specs.declared.state.joined.JoinedState.TheInside.{Inside}

abbrev pub joined_view : Inside → JoinedValue
joined_view j = record { history = j.state; segments = j.segments }

-- the segments have the rows of the state, and are joined
pub record KeepsJoined (j : Inside) : Type 0 where
  pub rows : segment_rows j.segments ≡ rows_posted j.state.entries
  pub few : length j.segments ≤ most_rows
  pub full : AreFull j.segments
