use Rattle.std.proofs.Common.{◌≡◌, ◌∙◌, ◌+◌, ◌++◌, ◌∷◌, [], List, ap, append_assoc, map, subst, sym, take}
use Rattle.std.proofs.lemmas.List.{map_more}
use Rattle.fw_select.specs.Rows.{AgreeOnAll}
use Rattle.fw_select.specs.declared.key.Key.{Key}
use Rattle.fw_select.specs.declared.key.Source.{Source}
use Rattle.fw_select.specs.declared.selector.Filter.{Filter}
use Rattle.fw_select.proofs.known.numbers_of.Goals as goal

pub loop-key-preserved : goal.loop-key-preserved
loop-key-preserved c =
    let rows = c.args.segment.now in
    let keys = c.args.selector.now.keys.now in
    let i = c.loop-key.key-index in
    let from = λ (k : Key). k.source in
    let more : map from (take (i + 1) keys) ≡ map from (take i keys) ++ c.key-item.result.source ∷ [] =
    map_more from keys i c.key-item.result c.loop-key-test.true ∙ ap (λ k. map from (take i keys) ++ from k ∷ []) (sym c.key-item.is) in
    subst (λ sources. AgreeOnAll sources rows c.in_ok-numbers-2.numbers.items) (sym more)
    (c.in_ok-numbers-2.ensures (map from (take i keys)) (subst (AgreeOnAll (map from (take i keys)) rows) (sym c.as_slice.ensures.value) c.loop-key.invariant))

pub loop-filter-preserved : goal.loop-filter-preserved
loop-filter-preserved c =
    let rows = c.args.segment.now in
    let filters = c.args.selector.now.filters.now in
    let i = c.loop-filter.filter-index in
    let from = λ (f : Filter). f.key.source in
    let keys : List Source = map (λ (k : Key). k.source) c.args.selector.now.keys.now in
    let had = keys ++ map from (take i filters) in
    let more : keys ++ map from (take (i + 1) filters) ≡ had ++ c.filter-item.result.key.source ∷ [] =
    ap (λ l. keys ++ l) (map_more from filters i c.filter-item.result c.loop-filter-test.true ∙ ap (λ f. map from (take i filters) ++ from f ∷ []) (sym c.filter-item.is))
    ∙ sym (append_assoc keys (map from (take i filters)) (c.filter-item.result.key.source ∷ [])) in
    subst (λ sources. AgreeOnAll sources rows c.in_ok-numbers-3.numbers.items) (sym more)
    (c.in_ok-numbers-3.ensures had (subst (AgreeOnAll had rows) (sym c.as_slice-in-loop-filter.ensures.value) c.loop-filter.invariant))
