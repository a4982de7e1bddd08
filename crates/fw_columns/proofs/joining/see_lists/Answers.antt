use Rattle.std.proofs.Common.{◌≡◌, ◌∙◌, ◌≤◌, ◌++◌, ◌<◌, List, ℕ, [], ap, arith, subst, sym, get_or, take, length, map}
use Rattle.std.specs.Prelude.{All}
use Rattle.std.proofs.lemmas.List.{map_more, take_all}
use Rattle.std.proofs.lemmas.Option.{slice_get_within, get_or_from_slice_get}
use Rattle.fw_row_table.specs.Names.{with_text, place_of}
use Rattle.fw_row_table.specs.Texts.{with_texts}
use Rattle.fw_columns.specs.Joining.{replaced}
use Rattle.fw_row_table.proofs.ListFacts.{AreListed, listed_none, listed_more}
use Rattle.fw_columns.proofs.joining.see_lists.Goals as goal

pub loop-place-init : goal.loop-place-init
loop-place-init c = record { listed = rw c.in_ok-codes.ensures.items (listed_none c.args.lists.now); few = omega arith }

pub push_replaced-requires : goal.push_replaced-requires
push_replaced-requires c =
    let other = c.args.other.now in
    let i = c.loop-place.place in
    let Within : List ℕ → Type 0 = λ list. All (λ place. place < length c.args.places.now) list in
    subst Within (get_or_from_slice_get other i _ [] c.list.ensures) (c.requires.within i [] (slice_get_within other i _ c.list.ensures))

pub loop-place-preserved : goal.loop-place-preserved
loop-place-preserved c =
    let other = c.args.other.now in
    let places = c.args.places.now in
    let i = c.loop-place.place in
    let here : get_or other i [] ≡ c.list.result.now = get_or_from_slice_get other i _ [] c.list.ensures in
    let is : c.as_slice.result.now ≡ replaced places (get_or other i []) =
    c.as_slice.ensures.value ∙ (c.in_ok-push_replaced.ensures ∙ (λ j. c.clear.ensures.items j ++ replaced places (sym here j))) in
    let listed =
    listed_more c.args.lists.now _ _ _ c.loop-place.invariant.listed _ (replaced places (get_or other i [])) _ _
    (c.in_ok-code.ensures.lists ∙ ap (with_text c.loop-place.lists) is)
    (c.in_ok-code.ensures.place ∙ ap (place_of c.code.new.self) is)
    c.in_ok-push.ensures.items in
    record {
      listed =
          subst (AreListed c.args.lists.now c.code.new.self c.push.new.self.items) (sym (map_more (replaced places) other i [] (slice_get_within other i _ c.list.ensures))) listed;
      few = omega (arith, c.in_ok-code.ensures.few, c.loop-place.invariant.few);
    }

pub returns-clause-seen : goal.returns-clause-seen
returns-clause-seen c =
    let end : length c.args.other.now ≤ c.loop-place.place = omega arith in
    let all : take c.loop-place.place c.args.other.now ≡ c.args.other.now = take_all c.loop-place.place c.args.other.now end in
    c.loop-place.invariant.listed.seen ∙ (λ j. with_texts c.args.lists.now (map (replaced c.args.places.now) (all j)))

pub returns-clause-codes : goal.returns-clause-codes
returns-clause-codes c =
    let end : length c.args.other.now ≤ c.loop-place.place = omega arith in
    let all : take c.loop-place.place c.args.other.now ≡ c.args.other.now = take_all c.loop-place.place c.args.other.now end in
    c.loop-place.invariant.listed.places ∙ (λ j. map (place_of c.loop-place.lists) (map (replaced c.args.places.now) (all j)))
