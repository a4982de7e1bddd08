use Rattle.std.proofs.Common.{◌≡◌, map, filter, take, drop}
use Rattle.fw_cover.specs.Applies.{is_in_term}
use Rattle.fw_cover.specs.RosterView.{roster_order}
use Rattle.fw_amortise.specs.Adding.{AddsShared}
use Rattle.fw_amortise.proofs.Runs.{takes_of_all}
use Rattle.fw_amortise.proofs.hour.push_shared.Given as goal

abbrev pub invariant-loop-place : goal.invariant-loop-place
invariant-loop-place l =
    AddsShared l.roster.commitments (map (λ r. r.now) l.rows) l.cover.taken.items l.hour (filter (λ c. is_in_term c.1 l.hour) (take l.place-index (roster_order l.roster))) l.initial.lines.items l.lines.items
    × (l.left ≡ takes_of_all l.cover.taken.items (drop l.place-index (roster_order l.roster)))
