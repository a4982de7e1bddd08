use Rattle.std.proofs.Common.{◌≡◌, ◌<◌, ◌∙◌, ap, get_or, length, map, rules, subst, sym}
use Rattle.std.proofs.lemmas.List.{get_or-map, length-map}
use Rattle.fw_toml.specs.Tree.{stated}
use Rattle.fw_selections.specs.Maps.{StatesMap}
use Rattle.fw_selections.proofs.MapFacts.{double-at, maps-more}
use Rattle.fw_selections.proofs.map_file.named_maps.Goals as goal

pub returns-then-has_source_of : goal.returns-then-has_source_of
returns-then-has_source_of c =
    let item = c.index-found-place.result in
    let at : get_or (map (λ t. stated t.now) c.args.found.now) c.loop-place.place (stated item.now) ≡ stated item.now =
    get_or-map (λ t. stated t.now) c.args.found.now c.loop-place.place item (stated item.now) c.loop-place-test.true ∙ ap (λ t. stated t.now) (sym c.index-found-place.is) in
    let lt : c.loop-place.place < length (map (λ t. stated t.now) c.args.found.now) = rw length-map c.loop-place-test.true in
    double-at (map (λ t. stated t.now) c.args.found.now) c.loop-place.maps.items c.loop-place.place (stated item.now) c.in-Ok.named lt c.loop-place.invariant
    (subst (λ t. StatesMap t c.in-Ok.named) (sym at) c.in-Ok.ensures)
    (rw c.as_slice.ensures.value at (c.has_source_of.ensures.double c.if-has_source_of.true))

pub loop-place-preserved : goal.loop-place-preserved
loop-place-preserved c =
    let item = c.index-found-place.result in
    let at : get_or (map (λ t. stated t.now) c.args.found.now) c.loop-place.place (stated item.now) ≡ stated item.now =
    get_or-map (λ t. stated t.now) c.args.found.now c.loop-place.place item (stated item.now) c.loop-place-test.true ∙ ap (λ t. stated t.now) (sym c.index-found-place.is) in
    let lt : c.loop-place.place < length (map (λ t. stated t.now) c.args.found.now) = rw length-map c.loop-place-test.true in
    maps-more (map (λ t. stated t.now) c.args.found.now) c.loop-place.maps.items c.push.new.self.items c.loop-place.place (stated item.now) c.in-Ok.named lt c.loop-place.invariant
    (subst (λ t. StatesMap t c.in-Ok.named) (sym at) c.in-Ok.ensures)
    (rw c.as_slice.ensures.value at (c.has_source_of.ensures.new c.if-has_source_of.false))
    c.in_ok-push.ensures.items
