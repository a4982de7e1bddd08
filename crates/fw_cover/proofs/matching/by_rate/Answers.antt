use Rattle.std.proofs.Common.{◌≡◌, ◌∙◌, ap, rules, unwrap_or}
use Rattle.std.specs.Cmp.{IsStrictWeakOrder}
use Rattle.std.specs.Ordering.{is_lt, nat_cmp}
use Rattle.std.proofs.lemmas.Cmp.{nat_cmp_total}
use Rattle.std.proofs.lemmas.List.Sorted.{answers_always, ranks_by}
use Rattle.fw_cover.specs.Order.{in_order}
use Rattle.fw_cover.specs.declared.pair.Pair.{Pair}
use Rattle.fw_cover.proofs.ByRank.{rate_before}
use Rattle.fw_cover.proofs.Sorting.{sorted_in_order}
use Rattle.fw_cover.proofs.matching.by_rate.Goals as goal

weak : IsStrictWeakOrder {X = Pair} (λ p q. is_lt (nat_cmp (unwrap_or p.rate 0) (unwrap_or q.rate 0)))
weak = ranks_by nat_cmp_total (λ p. unwrap_or p.rate 0)

pub returns : goal.returns
returns c =
    let before = λ (p q : Pair). is_lt (nat_cmp (unwrap_or p.rate 0) (unwrap_or q.rate 0)) in
    let same : c.in_ok-pairs.pairs.items ≡ c.args.pairs.now = search rules in
    let compares = answers_always _ _ _ (λ f a r g h. search rules) in
    sorted_in_order before weak c.in_ok-pairs.pairs.items c.sort_by.new.self.items (c.in_ok-sort_by.ensures.sorted before weak compares) (c.in_ok-sort_by.ensures.stable before weak compares)
    ∙ ap (in_order before) same
    ∙ ap (λ b. in_order b c.args.pairs.now) rate_before
