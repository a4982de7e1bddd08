use Rattle.std.proofs.Common.{◌∙◌, sym, ap}
use Rattle.toml.specs.Parse.{parse_document}
use Rattle.fw_toml.specs.Tree.{IsTable}
use Rattle.fw_toml.proofs.document.table_of.Goals as goal

pub returns-in_default : goal.returns-in_default
unfolding IsTable
returns-in_default c = λ e ms h. c.in_default.ensures.cases.0 h.0

pub returns-in-Ok-table_from_str : goal.returns-in-Ok-table_from_str
unfolding IsTable
returns-in-Ok-table_from_str c = (c.in-Ok.ensures.cases.1, ap parse_document (sym c.in-Ok.ensures.cases.0) ∙ c.in-Ok-table_from_str.ensures.ok)

pub returns-else-is_memory : goal.returns-else-is_memory
unfolding IsTable
returns-else-is_memory c = λ e ms h.
    let refused = c.in-Err.ensures.refused (λ m. let is_ = c.is_memory.ensures.1 m in let not_ = c.if-is_memory.false in cc) in
    let none = ap parse_document (sym c.in-Ok.ensures.cases.0) ∙ refused in let some = h.1 in absurd (cc)
