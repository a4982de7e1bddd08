use Rattle.std.proofs.Common.{◌≡◌, ◌≤◌, ◌-◌, ℕ, List, length}
use Rattle.std.specs.Prelude.{map, string_bytes}
use Rattle.fw_bytes.specs.Reading.{times}
use Rattle.fw_bytes.proofs.Loop.{with_front}
use Rattle.fw_row_table.specs.Names.{Text}
use Rattle.fw_column_bytes.specs.Reading.{tag_places_at}
use Rattle.fw_column_bytes.specs.Spelled.{AreSpelled}
use Rattle.fw_column_bytes.proofs.fields.row_lists_after.Given as goal

-- the lists so far, and those that are to come
pub record AreRead (names : List Text) (column spelled : List (List ℕ)) (count counter : ℕ) (rest bytes : List ℕ) : Type 0 where
  pub read : with_front column (times (tag_places_at names) (count - counter) rest) ≡ times (tag_places_at names) count bytes
  pub few : length column ≤ counter
  pub known : AreSpelled names column spelled

abbrev pub invariant-loop : goal.invariant-loop
invariant-loop l = AreRead (map string_bytes l.names) l.column l.spelled l.count l.counter l.rest l.bytes
