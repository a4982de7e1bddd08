use Rattle.std.proofs.Common.{length}
use Rattle.fw_row_table.specs.Lending.{tags_lent}
use Rattle.fw_stored_rows.proofs.comparing.+are_same_tags.Given as goal

abbrev pub decreases-are_same_tags : goal.decreases-are_same_tags
decreases-are_same_tags l = length (tags_lent l.one)
