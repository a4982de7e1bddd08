use Rattle.std.proofs.Common.{length}
use Rattle.fw_row_table.specs.Lending.{tags_lent}
use Rattle.fw_dump.proofs.values.push_tags.Given as goal

-- each turn takes a tag
abbrev pub decreases-loop-tag : goal.decreases-loop-tag
decreases-loop-tag l = length (tags_lent l.rest)
