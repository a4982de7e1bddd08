use Rattle.std.proofs.Common.{◌≡◌, ◌∷◌, [], ◌∙◌, sym, refl, arith}
use Rattle.std.proofs.lemmas.Grind.{common_steps}
use Rattle.std.specs.List.{All}
use Rattle.toml.specs.Data.{table, string}
use Rattle.toml.specs.View.{view, members_view}
use Rattle.fw_toml.specs.Tree.{IsText, Anything, AreNamedTexts, members_list}
use Rattle.fw_toml.proofs.KindFacts.{no_table, table_is, no_text, text_is}
use Rattle.fw_toml.proofs.ListFacts.{member_of, found-start, found-more, members-are, members-other, members-rise, same_member}
use Rattle.fw_toml.proofs.lists.named_texts.Goals as goal

pub returns-in_default : goal.returns-in_default
returns-in_default c = no_table (λ ms. All (λ m. IsText Anything m.1) (members_list ms)) (view c.args.value.now) (sym c.in_default.ensures)

pub loop-name-init : goal.loop-name-init
loop-name-init c = (tt, tt, rw c.new-found.ensures.items (found-start member_of (λ w. (w.0.now, string w.1.now)) c.into_iter-name-iterator.result c.into_iter-name-iterator.result refl))

pub loop-name-preserved : goal.loop-name-preserved
loop-name-preserved c =
    let next : c.loop-name.name-iterator ≡ (c.in-Some-2.name.now, c.in-Some-2.member.now) ∷ c.next.new.self = grind (arith, common_steps) in
    let is = text_is (view c.in-Some-2.member.now) c.in-Some-as_str.text.now (sym c.in-Some-as_str.ensures) in (
      tt,
      tt,
      rw c.in_ok-push.ensures.items (found-more member_of (λ w. (w.0.now, string w.1.now)) c.into_iter-name-iterator.result c.loop-name.found.items c.loop-name.name-iterator c.next.new.self
          (c.in-Some-2.name.now, c.in-Some-2.member.now) _ c.loop-name.invariant.2 next (same_member _ _ _ _ (sym c.as_str-in-loop-name.ensures.value) is)),
    )

pub returns-in_default-as_str : goal.returns-in_default-as_str
returns-in_default-as_str c =
    let next : c.loop-name.name-iterator ≡ (c.in-Some-2.name.now, c.in-Some-2.member.now) ∷ c.next.new.self = grind (arith, common_steps) in
    let start = c.into_iter-name-iterator.ensures.into_iter_gives ∙ c.iter-name-items.ensures.rest in
    let is : view c.args.value.now ≡ table (members_view c.into_iter-name-iterator.result) = rw start (table_is (view c.args.value.now) _ (sym c.in-Some.ensures)) in
    members-other (λ w. (w.0.now, string w.1.now)) (λ m. IsText Anything m.1) (view c.args.value.now) c.into_iter-name-iterator.result c.loop-name.found.items c.loop-name.name-iterator c.next.new.self
    (c.in-Some-2.name.now, c.in-Some-2.member.now) is c.loop-name.invariant.2 next (no_text (view c.in-Some-2.member.now) (sym c.in_default-as_str.ensures))

pub returns : goal.returns
unfolding AreNamedTexts
returns c =
    let none : c.loop-name.name-iterator ≡ [] = grind (arith, common_steps) in
    let start = c.into_iter-name-iterator.ensures.into_iter_gives ∙ c.iter-name-items.ensures.rest in
    let is : view c.args.value.now ≡ table (members_view c.into_iter-name-iterator.result) = rw start (table_is (view c.args.value.now) _ (sym c.in-Some.ensures)) in (
      members-are (λ m. (m.0, string m.1)) (λ w. (w.0.now, w.1.now)) (view c.args.value.now) c.into_iter-name-iterator.result c.loop-name.found.items c.loop-name.name-iterator is c.loop-name.invariant.2 none,
      members-rise (λ w. (w.0.now, string w.1.now)) (λ w. w.0.now) c.into_iter-name-iterator.result c.loop-name.found.items c.loop-name.name-iterator (λ w. refl) c.loop-name.invariant.2 none (rw start c.iter-name-items.ensures.ordered),
    )
