use Rattle.std.proofs.Common.{length}
use Rattle.fw_row_table.specs.Lending.{tags_lent}
use Rattle.fw_row_table.proofs.lengths.+tags_len.Given as goal

abbrev pub decreases-tags_len : goal.decreases-tags_len
decreases-tags_len l = length (tags_lent l.all)
