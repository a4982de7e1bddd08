use Rattle.std.proofs.Common.{◌≡◌, ◌∷◌, ◌++◌, [], inr, rules, arith}
use Rattle.fw_calendar.specs.Periods.{ArePeriods}
use Rattle.fw_owner.specs.Owned.{IsStretch}
use Rattle.fw_owner.proofs.OwnedFacts.{part_more, up_to}
use Rattle.fw_owner.proofs.owned.parts_of.Goals as goal

pub returns-in-Err-clause-fault : goal.returns-in-Err-clause-fault
returns-in-Err-clause-fault c =
    let are : ArePeriods c.args.step c.args.query.now.from_hour c.args.query.now.to_hour c.deref-period-items.result.now = rw c.deref-period-items.ensures.value c.in_ok-periods.ensures in
    inr (up_to c.args.snapshot.now.entries c.args.query.now.key.now c.args.query.now.from_hour c.args.query.now.to_hour c.args.step c.deref-period-items.result.now
    c.loop-period.period-index _ _ are (omega arith) c.in-Err.ensures.fault)

pub loop-period-preserved : goal.loop-period-preserved
loop-period-preserved c =
    let pushed : c.push.new.self.items ≡ c.loop-period.parts.items ++ c.in-Ok.part ∷ [] = search rules in
    part_more (IsStretch c.args.snapshot.now.entries c.args.query.now.key.now c.args.group.now) c.deref-period-items.result.now c.loop-period.period-index _ c.loop-period.parts.items c.in-Ok.part c.push.new.self.items
    (omega arith) pushed c.loop-period.invariant.0 c.in-Ok.ensures.hours c.loop-period.invariant.1 c.in-Ok.ensures.stretch
