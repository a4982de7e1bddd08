use Rattle.std.proofs.Common.{◌≡◌, ◌∷◌, [], ◌∙◌, sym, refl, arith, rules}
use Rattle.std.proofs.lemmas.Int.{to_z-of_z}
use Rattle.std.specs.Int.{w64}
use Rattle.std.proofs.lemmas.Grind.{common_steps}
use Rattle.std.specs.List.{All}
use Rattle.toml.specs.Data.{table, integer}
use Rattle.toml.specs.View.{view, members_view}
use Rattle.fw_toml.specs.Tree.{IsInteger, Anything, AreIntegers, members_list}
use Rattle.fw_toml.proofs.KindFacts.{no_table, table_is, no_integer, integer_is}
use Rattle.fw_toml.proofs.ListFacts.{member_of, found-start, found-more, members-are, members-other, members-rise, same_member}
use Rattle.fw_toml.proofs.lists.integers.Goals as goal

pub returns-in_default : goal.returns-in_default
returns-in_default c = no_table (λ ms. All (λ m. IsInteger Anything m.1) (members_list ms)) (view c.args.value.now) (sym c.in_default.ensures)

pub loop-name-init : goal.loop-name-init
loop-name-init c = (tt, tt, rw c.new-found.ensures.items (found-start member_of (λ w. (w.0.now, integer w.1)) c.into_iter-name-iterator.result c.into_iter-name-iterator.result refl))

pub loop-name-preserved : goal.loop-name-preserved
loop-name-preserved c =
    let next : c.loop-name.name-iterator ≡ (c.in-Some-2.name.now, c.in-Some-2.member.now) ∷ c.next.new.self = grind (arith, common_steps) in
    let is = integer_is (view c.in-Some-2.member.now) c.in-Some-as_integer.number (sym c.in-Some-as_integer.ensures) in (
      tt,
      tt,
      rw (c.in_ok-push.ensures.items, to_z-of_z w64 c.in-Some-as_integer.number (search rules)) (found-more member_of (λ w. (w.0.now, integer w.1)) c.into_iter-name-iterator.result c.loop-name.found.items c.loop-name.name-iterator c.next.new.self
          (c.in-Some-2.name.now, c.in-Some-2.member.now) _ c.loop-name.invariant.2 next (same_member _ _ _ _ (sym c.as_str.ensures.value) is)),
    )

pub returns-in_default-as_integer : goal.returns-in_default-as_integer
returns-in_default-as_integer c =
    let next : c.loop-name.name-iterator ≡ (c.in-Some-2.name.now, c.in-Some-2.member.now) ∷ c.next.new.self = grind (arith, common_steps) in
    let start = c.into_iter-name-iterator.ensures.into_iter_gives ∙ c.iter-name-items.ensures.rest in
    let is : view c.args.value.now ≡ table (members_view c.into_iter-name-iterator.result) = rw start (table_is (view c.args.value.now) _ (sym c.in-Some.ensures)) in
    members-other (λ w. (w.0.now, integer w.1)) (λ m. IsInteger Anything m.1) (view c.args.value.now) c.into_iter-name-iterator.result c.loop-name.found.items c.loop-name.name-iterator c.next.new.self
    (c.in-Some-2.name.now, c.in-Some-2.member.now) is c.loop-name.invariant.2 next (no_integer (view c.in-Some-2.member.now) (sym c.in_default-as_integer.ensures))

pub returns : goal.returns
unfolding AreIntegers
returns c =
    let none : c.loop-name.name-iterator ≡ [] = grind (arith, common_steps) in
    let start = c.into_iter-name-iterator.ensures.into_iter_gives ∙ c.iter-name-items.ensures.rest in
    let is : view c.args.value.now ≡ table (members_view c.into_iter-name-iterator.result) = rw start (table_is (view c.args.value.now) _ (sym c.in-Some.ensures)) in (
      members-are (λ m. (m.0, integer m.1)) (λ w. (w.0.now, w.1)) (view c.args.value.now) c.into_iter-name-iterator.result c.loop-name.found.items c.loop-name.name-iterator is c.loop-name.invariant.2 none,
      members-rise (λ w. (w.0.now, integer w.1)) (λ w. w.0.now) c.into_iter-name-iterator.result c.loop-name.found.items c.loop-name.name-iterator (λ w. refl) c.loop-name.invariant.2 none (rw start c.iter-name-items.ensures.ordered),
    )
