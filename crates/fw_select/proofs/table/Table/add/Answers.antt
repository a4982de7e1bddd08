use Rattle.fw_select.proofs.table.Table.add.Goals as goal

pub returns-clause-sums : goal.returns-clause-sums
returns-clause-sums c = rw c.of_line.ensures at c.add_sums.ensures.sums
