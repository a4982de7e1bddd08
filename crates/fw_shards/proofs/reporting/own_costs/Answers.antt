use Rattle.std.proofs.Common.{rules, ◌∙◌, ap, nat_cmp, sym, Some}
use Rattle.std.specs.Cmp.Lexicographic.{slice_cmp}
use Rattle.std.proofs.lemmas.Fn.{always_returns_same}
use Rattle.fw_allocate.proofs.Rising.{none_at, searchable, tied_texts}
use Rattle.fw_shards.proofs.EntryFacts.{cost_absent, cost_there}
use Rattle.fw_shards.proofs.reporting.own_costs.Goals as goal

pub returns-in-Ok : goal.returns-in-Ok
returns-in-Ok c =
    let tied = c.in-Ok.ensures.position (λ total. slice_cmp nat_cmp total.group c.args.group.now) (always_returns_same _ _ _ (λ a r f k. search rules)) in
    let one = c.index-sum-place.result in
    ap Some c.index-sum-place.is
    ∙ sym (cost_there c.args.sum.now c.args.group.now c.in-Ok.place one c.requires c.in-Ok.ensures.bound (tied_texts _ _ (tied one)))

pub returns-in-Err : goal.returns-in-Err
returns-in-Err c =
    let point = c.in-Err.ensures.position (λ total. slice_cmp nat_cmp total.group c.args.group.now) (always_returns_same _ _ _ (λ a r f k. search rules))
    (searchable (λ total. total.group) c.args.sum.now c.args.group.now c.requires) in
    cost_absent c.args.sum.now c.args.group.now (none_at (λ total. total.group) c.args.sum.now c.args.group.now c.in-Err.field-0 point)
