use Rattle.fw_amortise.proofs.Named.{named_carried, purchases_of_id}
use Rattle.fw_amortise.proofs.laws.lines_are_known_by_their_text.Goals as goal

pub returns : goal.returns
returns c = record { shares = named_carried; purchases = purchases_of_id }
