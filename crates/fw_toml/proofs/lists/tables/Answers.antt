use Rattle.std.proofs.Common.{◌≡◌, ◌∷◌, ◌∙◌, ◌+◌, drop, ap, sym, refl}
use Rattle.std.proofs.lemmas.List.{drop_more, drop_all}
use Rattle.std.specs.List.{All}
use Rattle.toml.specs.Data.{array, table}
use Rattle.toml.specs.View.{view, items_view, table_view}
use Rattle.fw_toml.specs.Tree.{IsTableOf, Anything, AreTables}
use Rattle.fw_toml.proofs.KindFacts.{no_array, array_is, no_table, table_is}
use Rattle.fw_toml.proofs.ListFacts.{found-start, found-more, items-are, items-other}
use Rattle.fw_toml.proofs.lists.tables.Goals as goal

pub returns-in_default : goal.returns-in_default
returns-in_default c = no_array (All (IsTableOf Anything)) (view c.args.value.now) (sym c.in_default.ensures)

pub loop-item-init : goal.loop-item-init
loop-item-init c = rw c.new-found.ensures.items (found-start view (λ w. table (table_view w.now)) c.deref-item-items.result.now c.deref-item-items.result.now refl)

pub loop-item-preserved : goal.loop-item-preserved
loop-item-preserved c =
    let xs = c.deref-item-items.result.now in let i = c.loop-item.item-index in
    let next = drop_more xs i c.item-item.result c.loop-item-test.true ∙ ap (λ x. x ∷ drop (i + 1) xs) (sym c.item-item.is) in
    rw c.in_ok-push.ensures.items (found-more view (λ w. table (table_view w.now)) xs c.loop-item.found.items (drop i xs) (drop (i + 1) xs) c.item-item.result c.in-Some-as_table.table c.loop-item.invariant next
    (table_is (view c.item-item.result) (table_view c.in-Some-as_table.table.now) (sym c.in-Some-as_table.ensures)))

pub returns-in_default-as_table : goal.returns-in_default-as_table
returns-in_default-as_table c =
    let xs = c.deref-item-items.result.now in let i = c.loop-item.item-index in
    let is : view c.args.value.now ≡ array (items_view xs) = rw c.deref-item-items.ensures.value (array_is (view c.args.value.now) _ (sym c.in-Some.ensures)) in
    let next = drop_more xs i c.item-item.result c.loop-item-test.true ∙ ap (λ x. x ∷ drop (i + 1) xs) (sym c.item-item.is) in
    items-other (λ w. table (table_view w.now)) (IsTableOf Anything) (view c.args.value.now) xs c.loop-item.found.items (drop i xs) (drop (i + 1) xs) c.item-item.result is c.loop-item.invariant next
    (no_table Anything (view c.item-item.result) (sym c.in_default-as_table.ensures))

pub returns : goal.returns
unfolding AreTables
returns c =
    let xs = c.deref-item-items.result.now in let i = c.loop-item.item-index in
    let is : view c.args.value.now ≡ array (items_view xs) = rw c.deref-item-items.ensures.value (array_is (view c.args.value.now) _ (sym c.in-Some.ensures)) in
    items-are table (λ w. table_view w.now) (view c.args.value.now) xs c.loop-item.found.items (drop i xs) is c.loop-item.invariant (drop_all i xs c.loop-item-test.false)
