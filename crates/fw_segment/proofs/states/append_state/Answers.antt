use Rattle.fw_segment.proofs.Histories.{spells_some}
use Rattle.fw_segment.proofs.states.append_state.Goals as goal

pub returns-clause-spelled : goal.returns-clause-spelled
returns-clause-spelled c =
    let made = c.in_ok-append_by_column.ensures in
    (made.0, made.1, spells_some made.0 c.args.one.now c.segments.result.now made.2)

pub returns-clause-by_column : goal.returns-clause-by_column
returns-clause-by_column c =
    let made = c.in_ok-append_by_column.ensures in
    (made.0, made.1, c.segments.result.now, made.2)
