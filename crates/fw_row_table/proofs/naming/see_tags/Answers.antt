use Rattle.std.proofs.Common.{◌≡◌, ◌∙◌, ◌++◌, ◌∷◌, [], map, length, append_assoc, refl, sym, ap, arith, subst}
use Rattle.std.proofs.lemmas.List.{append-nil}
use Rattle.fw_row_table.specs.Lending.{tag_lent, tags_lent, tags_split}
use Rattle.fw_row_table.specs.Names.{place_of}
use Rattle.fw_row_table.specs.Texts.{texts_of_tags, with_texts}
use Rattle.fw_row_table.specs.Lists.{tag_places}
use Rattle.fw_row_table.proofs.TextFacts.{tags_then}
use Rattle.fw_row_table.proofs.ListFacts.{AreListed, listed_none, listed_more}
use Rattle.fw_row_table.proofs.naming.see_tags.Goals as goal

pub loop-tag-init : goal.loop-tag-init
unfolding texts_of_tags
loop-tag-init c = record { done = []; parted = refl; listed = rw c.clear.ensures.items (listed_none c.args.names.now); room = omega arith }

pub loop-tag-smaller : goal.loop-tag-smaller
unfolding tags_split
loop-tag-smaller c =
    let parted : tags_lent c.loop-tag.rest ≡ tag_lent c.in-Some.tag ∷ tags_lent c.in-Some.after = c.split_first.ensures ∙ ap tags_split c.in-Some.is in
    let size : length (tags_lent c.loop-tag.rest) ≡ length (tag_lent c.in-Some.tag ∷ tags_lent c.in-Some.after) = ap length parted in
    omega (arith, size)

pub loop-tag-preserved : goal.loop-tag-preserved
unfolding tags_split
loop-tag-preserved c =
    let before = c.args.names.now in
    let first = tag_lent c.in-Some.tag in
    let rest = tags_lent c.in-Some.after in
    let so_far = c.loop-tag.invariant in
    let parted : tags_lent c.loop-tag.rest ≡ first ∷ rest = c.split_first.ensures ∙ ap tags_split c.in-Some.is in
    let size : length (tags_lent c.loop-tag.rest) ≡ length (first ∷ rest) = ap length parted in
    let one =
    listed_more before _ _ (texts_of_tags so_far.done) so_far.listed _ first.key _ _ c.in_ok-key.ensures.names c.in_ok-key.ensures.place c.in_ok-push.ensures.items in
    let two = listed_more before _ _ _ one _ first.value _ _ c.in_ok-value.ensures.names c.in_ok-value.ensures.place c.in_ok-push-2.ensures.items in
    record {
      done = so_far.done ++ first ∷ [];
      parted = append_assoc so_far.done (first ∷ []) rest ∙ ((λ j. so_far.done ++ sym parted j) ∙ so_far.parted);
      listed = subst (AreListed before c.code_near-in-Some.new.self c.push-in-Some.new.self.items) (tags_then so_far.done first) two;
      room = omega (arith, size, so_far.room, c.in_ok-key.ensures.few, c.in_ok-value.ensures.few);
    }

pub code_near-requires : goal.code_near-requires
unfolding tags_split
code_near-requires c =
    let parted : tags_lent c.loop-tag.rest ≡ tag_lent c.in-Some.tag ∷ tags_lent c.in-Some.after = c.split_first.ensures ∙ ap tags_split c.in-Some.is in
    let size : length (tags_lent c.loop-tag.rest) ≡ length (tag_lent c.in-Some.tag ∷ tags_lent c.in-Some.after) = ap length parted in
    omega (arith, size, c.loop-tag.invariant.room, c.requires)

pub code_near-requires-in-Some : goal.code_near-requires-in-Some
unfolding tags_split
code_near-requires-in-Some c =
    let parted : tags_lent c.loop-tag.rest ≡ tag_lent c.in-Some.tag ∷ tags_lent c.in-Some.after = c.split_first.ensures ∙ ap tags_split c.in-Some.is in
    let size : length (tags_lent c.loop-tag.rest) ≡ length (tag_lent c.in-Some.tag ∷ tags_lent c.in-Some.after) = ap length parted in
    omega (arith, size, c.loop-tag.invariant.room, c.in_ok-key.ensures.few, c.requires)

pub returns-clause-seen : goal.returns-clause-seen
unfolding tags_split
returns-clause-seen c =
    let so_far = c.loop-tag.invariant in
    let none : tags_lent c.loop-tag.rest ≡ [] = c.split_first.ensures ∙ ap tags_split c.in_default.is in
    let all : so_far.done ≡ tags_lent c.args.tags = sym (append-nil so_far.done) ∙ ((λ j. so_far.done ++ sym none j) ∙ so_far.parted) in
    so_far.listed.seen ∙ (λ j. with_texts c.args.names.now (texts_of_tags (all j)))

pub returns-clause-list : goal.returns-clause-list
unfolding tag_places tags_split
returns-clause-list c =
    let so_far = c.loop-tag.invariant in
    let none : tags_lent c.loop-tag.rest ≡ [] = c.split_first.ensures ∙ ap tags_split c.in_default.is in
    let all : so_far.done ≡ tags_lent c.args.tags = sym (append-nil so_far.done) ∙ ((λ j. so_far.done ++ sym none j) ∙ so_far.parted) in
    so_far.listed.places ∙ (λ j. map (place_of c.loop-tag.names) (texts_of_tags (all j)))
