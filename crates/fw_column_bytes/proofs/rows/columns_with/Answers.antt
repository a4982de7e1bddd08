use Rattle.fw_column_bytes.proofs.DirectFacts.{columns_match_if, none_match, no_names}
use Rattle.fw_column_bytes.proofs.InRange.{fields_in_range}
use Rattle.fw_column_bytes.proofs.rows.columns_with.Goals as goal

pub table_with-requires : goal.table_with-requires
table_with-requires c = rw c.in-Some.is at c.in_ok-kept.ensures.some

pub checked-requires-clause-fields : goal.checked-requires-clause-fields
checked-requires-clause-fields c = fields_in_range _ c.args.parts c.requires c.table_with.ensures

pub returns-clause-some : goal.returns-clause-some
returns-clause-some c = columns_match_if _ c.args.parts c.requires c.in_ok-columns.columns c.in_ok-columns.ensures.some c.table_with.ensures

pub returns-clause-none : goal.returns-clause-none
returns-clause-none c = none_match _ c.args.parts c.table_with.ensures c.in_ok-columns.columns c.in_ok-columns.ensures.exactly

pub returns-in_default-clause-none : goal.returns-in_default-clause-none
returns-in_default-clause-none c = no_names c.args.parts (rw c.in_default.is at c.in_ok-kept.ensures.none)
