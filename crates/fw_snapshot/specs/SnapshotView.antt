-- The history that a snapshot stands for.
use Rattle.fw_snapshot.specs.History.{History}
use Rattle.fw_snapshot.specs.declared.snapshot.Snapshot.TheInside.{Inside}

abbrev pub snapshot_view : Inside → History
snapshot_view s = s.state.value
