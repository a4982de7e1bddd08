use Rattle.std.proofs.Common.{◌≡◌, length}
use Rattle.fw_charge.specs.Tags.{group_of}
use Rattle.fw_row_table.specs.Lending.{tags_lent}
use Rattle.fw_row_table.proofs.lending.LentTags.group.Given as goal

-- none of the tags so far has the key
abbrev pub invariant-loop-tag : goal.invariant-loop-tag
invariant-loop-tag l = group_of l.key (tags_lent l.rest) ≡ group_of l.key (tags_lent l.self)

abbrev pub decreases-loop-tag : goal.decreases-loop-tag
decreases-loop-tag l = length (tags_lent l.rest)
