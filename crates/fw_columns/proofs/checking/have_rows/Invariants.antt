use Rattle.std.proofs.Common.{ℕ, ◌<◌}
use Rattle.std.specs.List.{flat_map, range_with_len}
use Rattle.fw_row_table.specs.declared.table.Table.{Table}
use Rattle.fw_columns.specs.Parts.{AgreeAt, AreListsSeen, HaveSeen, texts_there}
use Rattle.fw_columns.proofs.checking.have_rows.Given as goal

-- the rows up to a place
pub record HaveRowsBefore (t : Table) (seen lists_seen n : ℕ) : Type 0 where
  pub agree : (i : ℕ) → i < n → AgreeAt t i
  pub texts : HaveSeen t.names 0 seen (flat_map (texts_there t) (range_with_len 0 n))
  pub lists : AreListsSeen t.lists lists_seen seen

abbrev pub invariant-loop-place : goal.invariant-loop-place
invariant-loop-place l = HaveRowsBefore l.table l.seen l.lists_seen l.place
