-- A state beside its rows that count.
use Rattle.std.specs.Prelude.{◌≡◌}
use Rattle.fw_snapshot.specs.History.{History, rows_of}
use Rattle.fw_sums.specs.Hours.{all_rows}
use Rattle.fw_query.specs.declared.shown.Shown.TheInside.{Inside}

abbrev pub shown_view : Inside → History
shown_view s = s.state

-- the segments have the rows that count
abbrev pub KeepsShown : Inside → Type 0
KeepsShown s = all_rows s.counting ≡ rows_of s.state.entries
