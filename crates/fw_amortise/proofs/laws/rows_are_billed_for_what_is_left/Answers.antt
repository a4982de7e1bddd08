use Rattle.fw_amortise.proofs.Costs.{shares_bill_nothing, whole_rest}
use Rattle.fw_amortise.proofs.laws.rows_are_billed_for_what_is_left.Goals as goal

pub returns : goal.returns
returns c = record { shares = shares_bill_nothing; whole = whole_rest }
