use Rattle.fw_adding.proofs.HeadFacts.{committed_at}
use Rattle.fw_adding.proofs.standing.committed.Goals as goal

pub returns-in-Some-clause-among : goal.returns-in-Some-clause-among
returns-in-Some-clause-among c =
    committed_at c.args.state.now.entries c.loop-place.place c.head.result.now c.in-Some.commitment.now c.head.ensures (rw c.in-Some.is at c.brought.ensures.content)
