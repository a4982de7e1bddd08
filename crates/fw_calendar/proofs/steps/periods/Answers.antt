use Rattle.std.proofs.Common.{[], append-nil, arith}
use Rattle.fw_calendar.proofs.steps.periods.Goals as goal

pub returns : goal.returns
returns c = rw (append-nil c.loop-start.periods.items) at (c.loop-start.invariant.1 [] (omega arith))
