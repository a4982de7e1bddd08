use Rattle.std.proofs.Common.{◌≡◌, ◌∙◌, ◌+◌, ◌++◌, ◌∷◌, [], take, sym, ap}
use Rattle.std.proofs.lemmas.List.{take_more}
use Rattle.fw_replace.proofs.MatchFacts.{matched_more, matched_none}
use Rattle.fw_replace.proofs.matching.matched.Goals as goal

pub loop-part-init : goal.loop-part-init
loop-part-init c =
    matched_none c.args.rows.now c.args.posts.now c.from_vec-left.result.items c.in_ok-is_there.is_there.items c.in_ok-is_there.ensures.items
    (c.from_vec-left.ensures.items ∙ c.in_ok-to_vec.ensures.items_if_clones_equal (λ x y e. e))

pub loop-part-preserved : goal.loop-part-preserved
loop-part-preserved c =
    let parts = c.args.parts.now in
    let k = c.loop-part.part-index in
    let part = c.part-item.result in
    let more : take (k + 1) parts ≡ take k parts ++ part ∷ [] =
    take_more parts k part c.loop-part-test.true ∙ ap (λ p. take k parts ++ p ∷ []) (sym c.part-item.is) in
    matched_more c.args.rows.now c.args.posts.now (take k parts) (take (k + 1) parts) c.loop-part.is_there.items c.push.new.self.items c.loop-part.left.items c.take_first.new.left.items part c.take_first.result
    c.loop-part.invariant c.take_first.ensures more c.in_ok-push.ensures.items
