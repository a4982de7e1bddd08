use Rattle.std.proofs.Common.{◌≡◌, ◌++◌, length, map, take}
use Rattle.std.specs.List.{flat_map}
use Rattle.fw_row_table.specs.Lists.{lists_of, tag_lists}
use Rattle.fw_row_table.specs.Texts.{names_of}
use Rattle.fw_column_bytes.proofs.Copied.{places_spelled}
use Rattle.fw_column_bytes.proofs.writing.put_tags.Given as goal

-- the tags of the rows so far are written, and what the first lists are spelled as is kept
abbrev pub invariant-loop-place : goal.invariant-loop-place
invariant-loop-place l = record {
  written : l.out.items ≡ l.fn.out.items ++ flat_map places_spelled (take l.place (lists_of (names_of l.rows) l.rows));
  kept : l.spelled ≡ map places_spelled (take (length l.spelled) (tag_lists l.rows));
}
