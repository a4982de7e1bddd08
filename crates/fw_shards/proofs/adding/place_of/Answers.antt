use Rattle.std.proofs.Common.{nat_cmp, rules}
use Rattle.std.specs.Cmp.Lexicographic.{slice_cmp}
use Rattle.std.proofs.lemmas.Fn.{always_returns_same}
use Rattle.fw_allocate.proofs.Rising.{searchable}
use Rattle.fw_shards.proofs.AddedFacts.{gap_at, stands_at}
use Rattle.fw_shards.proofs.adding.place_of.Goals as goal

pub returns-in-Ok : goal.returns-in-Ok
returns-in-Ok c =
    let tied = c.in-Ok.ensures.position (λ total. slice_cmp nat_cmp total.group c.args.group.now) (always_returns_same _ _ _ (λ a r f k. search rules)) in
    stands_at c.args.totals.now c.args.group.now c.in-Ok.place c.in-Ok.ensures.bound tied

pub returns-in-Err : goal.returns-in-Err
returns-in-Err c =
    let point = c.in-Err.ensures.position (λ total. slice_cmp nat_cmp total.group c.args.group.now) (always_returns_same _ _ _ (λ a r f k. search rules))
    (searchable (λ total. total.group) c.args.totals.now c.args.group.now c.requires) in
    gap_at c.args.totals.now c.args.group.now c.in-Err.place point c.in-Err.ensures.bound
