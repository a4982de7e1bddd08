use Rattle.std.proofs.Common.{rules}
use Rattle.fw_calendar.proofs.steps.month_number.Goals as goal

pub returns-in-Some : goal.returns-in-Some
returns-in-Some c = λ _. (c.in-Some.date, c.in-Some.ensures.1, search rules)
