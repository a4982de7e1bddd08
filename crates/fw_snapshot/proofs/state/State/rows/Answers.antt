use Rattle.std.proofs.Common.{◌∙◌, ap, length, arith}
use Rattle.fw_snapshot.specs.History.{rows_of}
use Rattle.fw_snapshot.proofs.Following.{kept_counting, kept_few}
use Rattle.fw_snapshot.proofs.state.State.rows.Goals as goal

pub returns-clause-count : goal.returns-clause-count
returns-clause-count c = c.counting_len.ensures.count ∙ ap length (kept_counting c.self.inside c.self.invariant) ∙ ap (λ h. length (rows_of h.entries)) c.self.view_is

pub returns-clause-few : goal.returns-clause-few
returns-clause-few c = let few = kept_few c.self.inside c.self.invariant in omega (arith, few, c.counting_len.ensures.few)
