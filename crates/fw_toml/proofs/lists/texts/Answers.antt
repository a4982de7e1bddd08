use Rattle.std.proofs.Common.{◌≡◌, ◌∷◌, ◌∙◌, ◌+◌, drop, ap, sym, refl}
use Rattle.std.proofs.lemmas.List.{drop_more, drop_all}
use Rattle.std.specs.List.{All}
use Rattle.toml.specs.Data.{array, string}
use Rattle.toml.specs.View.{view, items_view}
use Rattle.fw_toml.specs.Tree.{IsText, Anything, AreTexts}
use Rattle.fw_toml.proofs.KindFacts.{no_array, array_is, no_text, text_is}
use Rattle.fw_toml.proofs.ListFacts.{found-start, found-more, items-are, items-other}
use Rattle.fw_toml.proofs.lists.texts.Goals as goal

pub returns-in_default : goal.returns-in_default
returns-in_default c = no_array (All (IsText Anything)) (view c.args.value.now) (sym c.in_default.ensures)

pub loop-item-init : goal.loop-item-init
loop-item-init c = rw c.new-found.ensures.items (found-start view (λ w. string (w.now)) c.deref-item-items.result.now c.deref-item-items.result.now refl)

pub loop-item-preserved : goal.loop-item-preserved
loop-item-preserved c =
    let xs = c.deref-item-items.result.now in let i = c.loop-item.item-index in
    let next = drop_more xs i c.item-item.result c.loop-item-test.true ∙ ap (λ x. x ∷ drop (i + 1) xs) (sym c.item-item.is) in
    rw c.in_ok-push.ensures.items (found-more view (λ w. string (w.now)) xs c.loop-item.found.items (drop i xs) (drop (i + 1) xs) c.item-item.result c.in-Some-as_str.text c.loop-item.invariant next
    (text_is (view c.item-item.result) c.in-Some-as_str.text.now (sym c.in-Some-as_str.ensures)))

pub returns-in_default-as_str : goal.returns-in_default-as_str
returns-in_default-as_str c =
    let xs = c.deref-item-items.result.now in let i = c.loop-item.item-index in
    let is : view c.args.value.now ≡ array (items_view xs) = rw c.deref-item-items.ensures.value (array_is (view c.args.value.now) _ (sym c.in-Some.ensures)) in
    let next = drop_more xs i c.item-item.result c.loop-item-test.true ∙ ap (λ x. x ∷ drop (i + 1) xs) (sym c.item-item.is) in
    items-other (λ w. string (w.now)) (IsText Anything) (view c.args.value.now) xs c.loop-item.found.items (drop i xs) (drop (i + 1) xs) c.item-item.result is c.loop-item.invariant next
    (no_text (view c.item-item.result) (sym c.in_default-as_str.ensures))

pub returns : goal.returns
unfolding AreTexts
returns c =
    let xs = c.deref-item-items.result.now in let i = c.loop-item.item-index in
    let is : view c.args.value.now ≡ array (items_view xs) = rw c.deref-item-items.ensures.value (array_is (view c.args.value.now) _ (sym c.in-Some.ensures)) in
    items-are string (λ w. w.now) (view c.args.value.now) xs c.loop-item.found.items (drop i xs) is c.loop-item.invariant (drop_all i xs c.loop-item-test.false)
