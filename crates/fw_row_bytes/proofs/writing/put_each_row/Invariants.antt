use Rattle.std.proofs.Common.{◌≡◌, ◌++◌, length, map, take}
use Rattle.std.specs.List.{flat_map}
use Rattle.fw_charge.specs.Spelling.{row, tags}
use Rattle.fw_row_table.specs.Lists.{tag_lists}
use Rattle.fw_row_table.specs.Table.{tags_of}
use Rattle.fw_row_table.specs.Texts.{names_of}
use Rattle.fw_row_bytes.proofs.writing.put_each_row.Given as goal

-- the rows so far are written, and what the first lists of tags are spelled as is kept
abbrev pub invariant-loop-place : goal.invariant-loop-place
invariant-loop-place l = record {
  written : l.out.items ≡ l.fn.out.items ++ flat_map row (take l.place l.rows);
  kept : l.spelled ≡ map (λ list. tags (tags_of (names_of l.rows) list)) (take (length l.spelled) (tag_lists l.rows));
}
