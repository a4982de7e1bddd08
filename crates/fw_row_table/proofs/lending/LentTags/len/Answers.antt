use Rattle.std.proofs.Common.{◌∙◌, ap, sym, length}
use Rattle.fw_row_table.specs.Lending.{tags_lent}
use Rattle.fw_row_table.proofs.LendingFacts.{tags_counted}
use Rattle.fw_row_table.proofs.lending.LentTags.len.Goals as goal

pub returns-in-Listed : goal.returns-in-Listed
returns-in-Listed c = tags_counted c.in-Listed.names.now c.in-Listed.list.now ∙ ap (λ tags. length (tags_lent tags)) (sym c.in-Listed.is)
