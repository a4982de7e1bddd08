use Rattle.std.proofs.Common.{◌∙◌, ◌∷◌, sym, arith}
use Rattle.fw_row_table.specs.Lending.{tags_split}
use Rattle.fw_row_table.specs.Table.{tag_of, tags_of}
use Rattle.fw_row_table.proofs.ListFacts.{behind_two}
use Rattle.fw_row_table.proofs.TableFacts.{tags_step, tags_nowhere}
use Rattle.fw_row_table.proofs.lending.first_listed.Goals as goal

pub returns-in_default : goal.returns-in_default
unfolding tags_split
returns-in_default c = tags_nowhere c.args.names.now c.args.list.now (omega (arith, c.in_default.len_below))

pub returns-in-len2-up : goal.returns-in-len2-up
unfolding tags_split tag_of
returns-in-len2-up c =
    let names = c.args.names.now in
    let list = c.args.list.now in
    tags_step names list c.in-len2-up.len_at_least
    ∙ (λ j. record { key = sym c.text_at.ensures j; value = sym c.text_at-in-len2-up.ensures j } ∷ tags_of names (sym (behind_two list) j))
