use Rattle.std.proofs.Common.{inl, inr}
use Rattle.fw_load.proofs.LeftFacts.{left_of}
use Rattle.fw_threads.specs.Flushed.{group_on}
use Rattle.fw_load.proofs.laws.a_commit_leaves_none_or_all.Goals as goal

pub returns-clause-committed : goal.returns-clause-committed
returns-clause-committed g c n image told some commits left =
    let f = c.args.before.now in
    elim commits [
      | inl none ↦ absurd (some none.0)
      | inr done ↦ left_of f.published (group_on f.published f.hand) image ((done.1.moment told).each image left)
    ]

pub returns-clause-device : goal.returns-clause-device
returns-clause-device g c image told fails left =
    let f = c.args.before.now in
    left_of f.store.history (group_on f.store.history f.hand) image ((fails.1.6 told).each image left)

pub returns-clause-unpublished : goal.returns-clause-unpublished
returns-clause-unpublished g c image told fails left =
    let f = c.args.before.now in
    left_of f.store.history (group_on f.store.history f.hand) image ((fails.1.4 told).each image left)
