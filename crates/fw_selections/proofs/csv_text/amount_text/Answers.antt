use Rattle.std.proofs.Common.{refl}
use Rattle.fw_selections.proofs.csv_text.amount_text.Goals as goal

pub returns-in-None : goal.returns-in-None
returns-in-None c = rw c.in-None.is refl
