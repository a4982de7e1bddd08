use Rattle.fw_select.proofs.TableFacts.{AreSums-none}
use Rattle.fw_select.proofs.table.Table.new.Goals as goal

pub returns : goal.returns
returns c = AreSums-none _ c.new.ensures.empty
