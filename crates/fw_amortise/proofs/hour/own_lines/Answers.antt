use Rattle.std.proofs.Common.{◌≡◌, map}
use Rattle.std.specs.List.{flat_map}
use Rattle.fw_cover.specs.Hour.{takes_of}
use Rattle.fw_cover.specs.RosterView.{roster_order}
use Rattle.fw_cover.proofs.RosterFacts.{roster_grouped}
use Rattle.fw_amortise.proofs.hour.own_lines.Goals as goal

pub push_shared-requires-clause-runs : goal.push_shared-requires-clause-runs
push_shared-requires-clause-runs c =
    let runs : c.args.cover.now.taken.items ≡ flat_map (λ d. takes_of d.0 c.args.cover.now.taken.items) (roster_order c.args.roster.now) =
    rw c.requires.cover.taken (roster_grouped c.args.roster.now (map (λ r. r.now) c.args.rows.now) c.args.hour c.requires.hour) in runs
