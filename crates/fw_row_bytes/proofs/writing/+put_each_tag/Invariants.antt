use Rattle.std.proofs.Common.{length}
use Rattle.fw_row_table.specs.Lending.{tags_lent}
use Rattle.fw_row_bytes.proofs.writing.+put_each_tag.Given as goal

abbrev pub decreases-put_each_tag : goal.decreases-put_each_tag
decreases-put_each_tag l = length (tags_lent l.all)
