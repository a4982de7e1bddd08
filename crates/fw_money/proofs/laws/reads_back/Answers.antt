use Rattle.fw_money.proofs.RoundTrip.{reads_back, round_trip}
use Rattle.fw_money.proofs.laws.reads_back.Goals as goal

pub returns-clause-reads : goal.returns-clause-reads
returns-clause-reads c = reads_back c.args.nanos (rw c.count-count.ensures.value at c.count-count.ensures.in_range)

pub returns-clause-alone : goal.returns-clause-alone
returns-clause-alone c = round_trip c.args.nanos (rw c.count-count.ensures.value at c.count-count.ensures.in_range)
