use Rattle.std.proofs.Common.{◌≡◌, ◌++◌, ◌∷◌, drop, set, take}
use Rattle.fw_shards.specs.Places.{StandsAt}
use Rattle.fw_sums.specs.Costs.{groups_of}
use Rattle.fw_shards.proofs.AddedFacts.{AreTotals-insert, AreTotals-put, added_total, billed_fits, direct_fits, rising_totals}
use Rattle.fw_shards.proofs.adding.add_entry.Goals as goal

pub place_of-requires : goal.place_of-requires
place_of-requires c = rw c.as_slice.ensures.value (rising_totals _ _ c.requires.1)

pub add-requires-clause-billed : goal.add-requires-clause-billed
add-requires-clause-billed c =
    let stands : StandsAt (groups_of c.args.totals.now.items) c.args.entry.now.group c.in-Ok.place = rw (c.as_slice.ensures.value, c.group.ensures) at c.in-Ok.ensures in
    billed_fits c.requires.0 c.args.totals.now.items c.args.entry.now c.in-Ok.place c.index_mut.result.now c.requires.1 c.requires.2 stands c.index_mut.ensures.value

pub add-requires-clause-direct : goal.add-requires-clause-direct
add-requires-clause-direct c =
    let stands : StandsAt (groups_of c.args.totals.now.items) c.args.entry.now.group c.in-Ok.place = rw (c.as_slice.ensures.value, c.group.ensures) at c.in-Ok.ensures in
    direct_fits c.requires.0 c.args.totals.now.items c.args.entry.now c.in-Ok.place c.index_mut.result.now c.requires.1 c.requires.2 stands c.index_mut.ensures.value

pub returns-in-Ok : goal.returns-in-Ok
returns-in-Ok c = λ costs are.
    let stands : StandsAt (groups_of c.args.totals.now.items) c.args.entry.now.group c.in-Ok.place = rw (c.as_slice.ensures.value, c.group.ensures) at c.in-Ok.ensures in
    let total = added_total costs c.args.totals.now.items c.args.entry.now c.in-Ok.place c.index_mut.result.now c.add.new.self are stands c.index_mut.ensures.value c.add.ensures.group c.add.ensures.billed c.add.ensures.direct in
    AreTotals-put costs c.args.totals.now.items _ c.args.entry.now c.in-Ok.place are stands (λ j. set c.args.totals.now.items c.in-Ok.place (total j))

pub returns-in_ok-insert-in-Err : goal.returns-in_ok-insert-in-Err
returns-in_ok-insert-in-Err c = λ costs are.
    let gap = rw (c.as_slice.ensures.value, c.group.ensures) at c.in-Err.ensures in
    let put : c.insert.new.self.items ≡ take c.in-Err.place c.args.totals.now.items ++ c.args.entry.now ∷ drop c.in-Err.place c.args.totals.now.items = rw c.in_ok-copy-in-Err.ensures at c.in_ok-insert-in-Err.ensures.items in
    AreTotals-insert costs c.args.totals.now.items c.insert.new.self.items c.args.entry.now c.in-Err.place are gap.0 put
