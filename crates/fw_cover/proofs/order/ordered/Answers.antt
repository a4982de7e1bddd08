use Rattle.std.proofs.Common.{rules, ap, ◌∙◌, map}
use Rattle.std.proofs.lemmas.List.Sorted.{answers_always}
use Rattle.fw_cover.specs.PlacedView.{placed_of}
use Rattle.fw_cover.specs.Order.{commitment_before, in_order, commitments_in_order}
use Rattle.fw_cover.proofs.Ranks.{placed_weak}
use Rattle.fw_cover.proofs.Sorting.{sorted_in_order, map_in_order}
use Rattle.fw_cover.proofs.order.ordered.Goals as goal

pub returns : goal.returns
unfolding commitments_in_order
returns c =
    let before = λ (x y : _). commitment_before (placed_of x) (placed_of y) in
    let compares = answers_always _ _ _ (λ f a r g h. search rules) in
    ap (map placed_of) (sorted_in_order before placed_weak c.in_ok-placed.placed.items c.sort_by.new.self.items (c.in_ok-sort_by.ensures.sorted before placed_weak compares) (c.in_ok-sort_by.ensures.stable before placed_weak compares))
    ∙ (map_in_order placed_of commitment_before c.in_ok-placed.placed.items ∙ ap (in_order commitment_before) c.in_ok-placed.ensures)
