use Rattle.std.proofs.Common.{◌≡◌, ◌-◌, length, arith}
use Rattle.fw_sums.specs.ReportCache.{AreOpen}
use Rattle.fw_sums.specs.Hours.{all_rows, lent}
use Rattle.fw_sums.proofs.HourFacts.{by_hour_long}
use Rattle.fw_sums.proofs.TurnFacts.{open_still}
use Rattle.fw_sums.proofs.totals.totals_keeping.Goals as goal

pub keep_all-requires-clause-fits : goal.keep_all-requires-clause-fits
keep_all-requires-clause-fits g c =
    let long : length c.in_ok-hours.hours.by_hour.items ≡ c.args.query.now.to_hour - c.args.query.now.from_hour = by_hour_long _ _ _ _ _ c.in_ok-hours.ensures.lists_are in
    let some = c.requires.range.some in
    omega (arith, long, some)

pub keep_all-requires-clause-roster : goal.keep_all-requires-clause-roster
keep_all-requires-clause-roster g c =
    let long : length c.in_ok-hours.hours.by_hour.items ≡ c.args.query.now.to_hour - c.args.query.now.from_hour = by_hour_long _ _ _ _ _ c.in_ok-hours.ensures.lists_are in
    let some = c.requires.range.some in
    λ lifetimes outlives. rw (c.in_ok-roster.ensures, long) (record { since = omega arith; until = omega (arith, some) })

pub keep_all-requires-clause-hours : goal.keep_all-requires-clause-hours
keep_all-requires-clause-hours g c =
    let long : length c.in_ok-hours.hours.by_hour.items ≡ c.args.query.now.to_hour - c.args.query.now.from_hour = by_hour_long _ _ _ _ _ c.in_ok-hours.ensures.lists_are in
    λ lifetimes outlives. rw (c.in_ok-roster.ensures, long) c.in_ok-hours.ensures

pub totals_of-requires-clause-hours : goal.totals_of-requires-clause-hours
totals_of-requires-clause-hours g c =
    let still : AreOpen (lent c.args.segments.now) (all_rows (lent c.args.segments.now)) c.args.commitments.now c.keep_all.new.kept c.args.query.now.from_hour (c.args.query.now.to_hour - c.args.query.now.from_hour) c.in_ok-hours.hours =
    open_still _ _ _ c.take-kept.result.hours c.keep_all.new.kept _ _ _ c.keep_all.ensures.more c.in_ok-hours.ensures in
    rw c.in_ok-roster.ensures still
