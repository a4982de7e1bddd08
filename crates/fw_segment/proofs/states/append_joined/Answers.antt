use Rattle.std.proofs.Common.{List, subst}
use Rattle.fw_charge.specs.Charge.{Charge}
use Rattle.fw_snapshot.specs.History.{History}
use Rattle.fw_snapshot.specs.Joined.{AreFull}
use Rattle.fw_segment.specs.States.{SpellsByColumn}
use Rattle.fw_segment.proofs.Histories.{spells_some}
use Rattle.fw_segment.proofs.states.append_joined.Goals as goal

-- the state and its segments are those of the joined one
pub returns : goal.returns
returns c =
    let made = c.in_ok-append_by_column.ensures in
    let history = c.args.one.now.history in
    let segments = c.args.one.now.segments in
    let columns : SpellsByColumn made.0 history segments =
    subst (λ (h : History). SpellsByColumn made.0 h segments) c.state.ensures
    (subst (λ (l : List (List Charge)). SpellsByColumn made.0 c.state.result.now l) c.segments.ensures.segments made.2) in
    (made.0, made.1, spells_some made.0 history segments columns, record { columns = columns; full = subst (λ (l : List (List Charge)). AreFull l) c.segments.ensures.segments c.segments.ensures.full })
