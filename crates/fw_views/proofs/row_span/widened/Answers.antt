use Rattle.fw_views.proofs.Ends.{before, behind, within}
use Rattle.fw_views.proofs.row_span.widened.Goals as goal

pub returns-then-hour-ends : goal.returns-then-hour-ends
returns-then-hour-ends c = λ hours has. before hours c.args.hour c.args.ends has c.if-hour-ends.true

pub returns-then-ends-hour : goal.returns-then-ends-hour
returns-then-ends-hour c = λ hours has. behind hours c.args.hour c.args.ends has c.if-ends-hour.true

pub returns-else-ends-hour : goal.returns-else-ends-hour
returns-else-ends-hour c = λ hours has.
    within hours c.args.hour c.args.ends has c.if-hour-ends.false c.if-ends-hour.false
