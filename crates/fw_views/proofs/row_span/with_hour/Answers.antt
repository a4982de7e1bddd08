use Rattle.std.proofs.Common.{subst}
use Rattle.fw_views.specs.RowSpan.{AreEnds}
use Rattle.fw_views.proofs.Ends.{alone}
use Rattle.fw_views.proofs.row_span.with_hour.Goals as goal

pub returns-in-Some : goal.returns-in-Some
returns-in-Some c = λ hours ends. c.widened.ensures hours (subst (AreEnds hours) c.in-Some.is ends)

pub returns-in-None : goal.returns-in-None
returns-in-None c = λ hours ends. alone hours c.args.hour (subst (AreEnds hours) c.in-None.is ends)
