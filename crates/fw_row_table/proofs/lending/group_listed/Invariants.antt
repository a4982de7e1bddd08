use Rattle.std.proofs.Common.{◌≡◌, ◌*◌, drop}
use Rattle.fw_charge.specs.Tags.{group_of}
use Rattle.fw_row_table.specs.Table.{tags_of}
use Rattle.fw_row_table.proofs.lending.group_listed.Given as goal

-- none of the tags so far has the key
abbrev pub invariant-loop-tag : goal.invariant-loop-tag
invariant-loop-tag l = group_of l.key (tags_of l.names (drop (2 * l.tag) l.list)) ≡ group_of l.key (tags_of l.names l.list)
