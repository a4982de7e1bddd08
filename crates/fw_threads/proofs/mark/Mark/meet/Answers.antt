use Rattle.std.proofs.Common.{◌≤◌, length, subst}
use Rattle.fw_group.specs.Laws.{Begins}
use Rattle.fw_threads.specs.Fronts.{Marked, latest}
use Rattle.fw_threads.proofs.Fronts.{latest_meet}
use Rattle.fw_threads.proofs.mark.Mark.meet.Goals as goal

pub returns : goal.returns
returns c =
    let xs = c.self.inside.fronts.list in
    let ys = c.other.inside.fronts.list in
    let meet = latest_meet xs ys c.meet.ensures c.meet-2.ensures c.self.invariant.1 c.other.invariant.1 c.self.invariant.2 c.other.invariant.2 in
    subst (λ (m : Marked). length m.front.entries ≤ length c.args.other.now.front.entries → Begins m.front c.args.other.now.front) c.self.view_is
    (subst (λ (m : Marked). length (latest xs).entries ≤ length m.front.entries → Begins (latest xs) m.front) c.other.view_is meet)
