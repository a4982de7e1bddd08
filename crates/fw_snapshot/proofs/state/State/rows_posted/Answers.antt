use Rattle.std.proofs.Common.{◌∙◌, ap, length, arith}
use Rattle.fw_snapshot.specs.History.{rows_posted}
use Rattle.fw_snapshot.proofs.Following.{kept_rows, kept_few}
use Rattle.fw_snapshot.proofs.state.State.rows_posted.Goals as goal

pub returns-clause-count : goal.returns-clause-count
returns-clause-count c = c.len.ensures.rows ∙ ap length (kept_rows c.self.inside c.self.invariant) ∙ ap (λ h. length (rows_posted h.entries)) c.self.view_is

pub returns-clause-few : goal.returns-clause-few
returns-clause-few c = let few = kept_few c.self.inside c.self.invariant in omega (arith, few, c.len.ensures.rows)
