use Rattle.std.proofs.Common.{◌∙◌, ◌++◌, [], ◌∷◌}
use Rattle.fw_row_table.specs.Lending.{charge_with, tags_lent}
use Rattle.fw_row_table.proofs.TableFacts.{shown, columns_shown}
use Rattle.fw_columns.proofs.builder.ColumnsBuilder.push_parts.Goals as goal

pub invariant_of-self : goal.invariant_of-self
invariant_of-self c = columns_shown _ _ c.in-Ok.ensures

pub returns-in-Ok-clause-added : goal.returns-in-Ok-clause-added
returns-in-Ok-clause-added c = shown _ _ c.in-Ok.ensures ∙ (λ j. c.self.view_is j ++ charge_with c.args.row.now (tags_lent c.args.tags) ∷ [])
