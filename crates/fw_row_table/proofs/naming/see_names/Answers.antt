use Rattle.std.proofs.Common.{◌≡◌, ◌∙◌, ◌+◌, ◌++◌, ◌∷◌, ◌≤◌, ◌^◌, [], ap, arith, sym, take, length, map, subst}
use Rattle.std.proofs.lemmas.List.{take_more, take_all}
use Rattle.std.proofs.lemmas.List.Elements.{All-nil, All-push}
use Rattle.std.proofs.lemmas.Option.{slice_get_within, get_or_from_slice_get}
use Rattle.fw_row_table.specs.Names.{place_of}
use Rattle.fw_row_table.specs.Texts.{with_texts}
use Rattle.fw_row_table.proofs.ListFacts.{AreListed, listed_none, listed_more}
use Rattle.fw_row_table.proofs.naming.see_names.Goals as goal

pub loop-place-init : goal.loop-place-init
loop-place-init c = rw c.in_ok-places.ensures.items (record { listed = listed_none c.args.names.now; few = omega arith; within = All-nil (λ place. place ≤ 2 ^ 30) })

pub loop-place-preserved : goal.loop-place-preserved
loop-place-preserved c =
    let other = c.args.other.now in
    let i = c.loop-place.place in
    let here = c.text.result.now in
    let listed = listed_more c.args.names.now _ _ _ c.loop-place.invariant.listed _ here _ _ c.in_ok-code.ensures.names c.in_ok-code.ensures.place c.in_ok-push.ensures.items in
    let more : take (i + 1) other ≡ take i other ++ here ∷ [] =
    take_more other i [] (slice_get_within other i _ c.text.ensures) ∙ ap (λ t. take i other ++ t ∷ []) (get_or_from_slice_get other i _ [] c.text.ensures) in
    record {
      listed = subst (AreListed c.args.names.now c.code.new.self c.push.new.self.items) (sym more) listed;
      few = omega (arith, c.in_ok-code.ensures.few, c.loop-place.invariant.few);
      within = rw c.in_ok-push.ensures.items (All-push (λ place. place ≤ 2 ^ 30) c.loop-place.places.items _ c.loop-place.invariant.within (omega (arith, c.in_ok-code.ensures.within, c.in_ok-code.ensures.few, c.loop-place.invariant.few, c.requires)));
    }

pub returns-clause-seen : goal.returns-clause-seen
returns-clause-seen c =
    let end : length c.args.other.now ≤ c.loop-place.place = omega arith in
    c.loop-place.invariant.listed.seen ∙ ap (with_texts c.args.names.now) (take_all c.loop-place.place c.args.other.now end)

pub returns-clause-places : goal.returns-clause-places
returns-clause-places c =
    let end : length c.args.other.now ≤ c.loop-place.place = omega arith in
    c.loop-place.invariant.listed.places ∙ ap (map (place_of c.loop-place.names)) (take_all c.loop-place.place c.args.other.now end)
