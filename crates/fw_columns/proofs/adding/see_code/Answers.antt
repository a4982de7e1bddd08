use Rattle.fw_row_table.proofs.TextFacts.{with_text_takes_none}
use Rattle.fw_columns.proofs.adding.see_code.Goals as goal

pub returns-clause-grown : goal.returns-clause-grown
returns-clause-grown c = rw c.in_ok-code_near.ensures.names (with_text_takes_none c.args.names.now c.in-Some.text.now)
