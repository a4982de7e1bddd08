use Rattle.std.proofs.Common.{◌≡◌, ◌∙◌, ◌-◌, ◌<◌, ◌≤◌, ◌++◌, length, length-append, set, ap, sym, subst, arith}
use Rattle.std.proofs.lemmas.List.{length-set, set-append_left, set-append_right}
use Rattle.fw_persistent.specs.Items.{tree_items, row_items, IsEven, IsRow}
use Rattle.fw_persistent.proofs.items.Row.+set.Goals as goal

pub returns-in_ok-try_clone-in-More : goal.returns-in_ok-try_clone-in-More
returns-in_ok-try_clone-in-More g t c =
    let older = c.in-More.older.value in
    let newest = c.in-More.newest.value in
    let y = c.args.item in
    let place = c.args.place in
    let row = subst IsRow c.in-More.is c.requires.row in
    let long = c.requires.len ∙ ap (λ r. length (row_items r)) c.in-More.is ∙ length-append (row_items older) (tree_items newest) in
    let inside : place < length (row_items older) = omega (arith, row.1, long, c.if-place-before.true) in
    let made : row_items c.in_ok-new-in-More.field-0.value ≡ set (row_items older) place y = cc (c.in_ok-new-in-More.ensures.ok, c.in_ok-row-in-More.ensures.0, c.deref.ensures) in
    let kept : c.in_ok-try_clone-in-More.field-0.value ≡ newest = cc (c.in_ok-try_clone-in-More.ensures) in (
      (λ i. made i ++ tree_items (kept i)) ∙ sym (set-append_left (row_items older) (tree_items newest) place y inside) ∙ sym (ap (λ r. set (row_items r) place y) c.in-More.is),
      (
        subst IsRow (sym c.in_ok-new-in-More.ensures.ok) c.in_ok-row-in-More.ensures.1,
        row.1 ∙ sym (ap (λ s. length (tree_items s)) kept),
        subst IsEven (sym kept) row.2,
      ),
    )

pub returns-in_ok-new-in-More-2 : goal.returns-in_ok-new-in-More-2
returns-in_ok-new-in-More-2 g t c =
    let older = c.in-More.older.value in
    let newest = c.in-More.newest.value in
    let y = c.args.item in
    let place = c.args.place in
    let row = subst IsRow c.in-More.is c.requires.row in
    let long = c.requires.len ∙ ap (λ r. length (row_items r)) c.in-More.is ∙ length-append (row_items older) (tree_items newest) in
    let before : c.args.len - c.in-More.size ≡ length (row_items older) = omega (arith, row.1, long) in
    let past : length (row_items older) ≤ place = omega (arith, before, c.if-place-before.false) in
    let made : tree_items c.in_ok-new-in-More-2.field-0.value ≡ set (tree_items newest) (place - length (row_items older)) y = cc (before, c.in_ok-new-in-More-2.ensures.ok, c.in_ok-tree-in-More.ensures.0, c.deref-else-place-before.ensures) in
    let kept : c.in_ok-try_clone-in-More-2.field-0.value ≡ older = cc (c.in_ok-try_clone-in-More-2.ensures) in (
      (λ i. row_items (kept i) ++ made i) ∙ sym (set-append_right (row_items older) (tree_items newest) (length (row_items older)) place y (λ i. length (row_items older)) past) ∙ sym (ap (λ r. set (row_items r) place y) c.in-More.is),
      (
        subst IsRow (sym kept) row.0,
        row.1 ∙ sym (ap length made ∙ length-set (tree_items newest) (place - length (row_items older)) y),
        subst IsEven (sym c.in_ok-new-in-More-2.ensures.ok) c.in_ok-tree-in-More.ensures.1,
      ),
    )
