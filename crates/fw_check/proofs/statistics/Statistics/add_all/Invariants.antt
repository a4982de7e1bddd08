use Rattle.std.proofs.Common.{◌≡◌, drop}
use Rattle.fw_row_table.specs.Texts.{names_of}
use Rattle.fw_check.specs.Counts.{text_counts}
use Rattle.fw_check.specs.Known.{AreKnown}
use Rattle.fw_check.specs.Seen.{seen_in, with_rows}
use Rattle.fw_check.proofs.statistics.Statistics.add_all.Given as goal

-- the rows that are left, counted after those so far, are all of them
abbrev pub invariant-loop-place : goal.invariant-loop-place
invariant-loop-place l = record {
  counted : with_rows (drop l.place l.rows) (seen_in l.self) ≡ with_rows l.rows (seen_in l.fn.self);
  places : AreKnown (names_of l.rows) l.known (text_counts l.self.tags.keys.entries);
}
