use Rattle.fw_rows.specs.Keeping.{AreFirsts}
use Rattle.fw_rows.specs.Rows.{most_rows}
use Rattle.fw_rows.proofs.KeptFacts.{Read}
use Rattle.std.proofs.Common.{◌≡◌, ◌≤◌, ◌+◌, ◌-◌, length}
use Rattle.fw_rows.proofs.keeping.read_records.Given as goal

-- the records so far were read, and their rows added
abbrev pub invariant-records : goal.invariant-records
invariant-records g l =
    let rows = g.S.RowSink.rows l.sink in
    record {
      read : Read g.R.Records.at l.fn.currency l.fn.keeper.keeps l.fn.text l.records l.places l.kept.places.items rows;
      counted : length rows ≡ l.count;
      few : l.count ≤ most_rows;
      ready : g.S.RowSink.is_ready l.sink;
      same : l.keeper.keeps ≡ l.fn.keeper.keeps;
      firsts : AreFirsts l.keeper.keeps l.keeper.texts l.kept.firsts.items rows;
    }

abbrev pub decreases-records : goal.decreases-records
decreases-records g l = most_rows + 1 - l.count
