use Rattle.std.proofs.Common.{◌≡◌, ◌∙◌, ◌+◌, ◌-◌, ◌<◌, ◌≤◌, ◌/◌, ◌++◌, ◌∷◌, [], length, set, ap, sym, subst, arith}
use Rattle.std.proofs.lemmas.List.{length-set}
use Rattle.fw_persistent.specs.Items.{tree_items, IsEven}
use Rattle.fw_persistent.proofs.Places.{length_fork, set_older, set_newer, set_newest}
use Rattle.fw_persistent.proofs.items.Tree.+set.Goals as goal

pub returns-in_ok-share-in-Fork : goal.returns-in_ok-share-in-Fork
returns-in_ok-share-in-Fork g t c =
    let older = c.in-Fork.older_side.value in
    let newer = c.in-Fork.newer_side.value in
    let x = c.in-Fork.newest in
    let y = c.args.item in
    let place = c.args.place in
    let even = subst IsEven c.in-Fork.is c.requires.even in
    let long = c.requires.size ∙ ap (λ s. length (tree_items s)) c.in-Fork.is ∙ length_fork (tree_items older) (tree_items newer) x y place in
    let inside : place < length (tree_items older) = omega (arith, even.2, long, c.if-place-half.true) in
    let made : tree_items c.in_ok-new-in-Fork.field-0.value ≡ set (tree_items older) place y = cc (c.in_ok-new-in-Fork.ensures.ok, c.in_ok-tree-in-Fork.ensures.0, c.deref.ensures) in
    let is_even : IsEven c.in_ok-new-in-Fork.field-0.value = subst IsEven (sym c.in_ok-new-in-Fork.ensures.ok) c.in_ok-tree-in-Fork.ensures.1 in
    let kept : c.in_ok-try_clone-in-Fork.field-0.value ≡ newer = cc (c.in_ok-try_clone-in-Fork.ensures) in
    let shared : c.in_ok-share-in-Fork.field-0 ≡ x = cc (c.in_ok-share-in-Fork.ensures) in (
      (λ i. made i ++ tree_items (kept i) ++ shared i ∷ []) ∙ sym (set_older (tree_items older) (tree_items newer) x y place inside) ∙ sym (ap (λ s. set (tree_items s) place y) c.in-Fork.is),
      (
        is_even,
        subst IsEven (sym kept) even.1,
        ap length made ∙ length-set (tree_items older) place y ∙ even.2 ∙ sym (ap (λ s. length (tree_items s)) kept),
      ),
    )

pub returns-in_ok-share-in-Fork-2 : goal.returns-in_ok-share-in-Fork-2
returns-in_ok-share-in-Fork-2 g t c =
    let older = c.in-Fork.older_side.value in
    let newer = c.in-Fork.newer_side.value in
    let x = c.in-Fork.newest in
    let y = c.args.item in
    let place = c.args.place in
    let even = subst IsEven c.in-Fork.is c.requires.even in
    let long = c.requires.size ∙ ap (λ s. length (tree_items s)) c.in-Fork.is ∙ length_fork (tree_items older) (tree_items newer) x y place in
    let half : c.args.size / 2 ≡ length (tree_items older) = omega (arith, even.2, long) in
    let past : length (tree_items older) ≤ place = omega (arith, half, c.if-place-half.false) in
    let inside : place - length (tree_items older) < length (tree_items newer) = omega (arith, even.2, half, past, c.if-place-half-2.true) in
    let made : tree_items c.in_ok-new-in-Fork-2.field-0.value ≡ set (tree_items newer) (place - length (tree_items older)) y = cc (half, c.in_ok-new-in-Fork-2.ensures.ok, c.in_ok-tree-in-Fork-2.ensures.0, c.deref-then-place-half-2.ensures) in
    let is_even : IsEven c.in_ok-new-in-Fork-2.field-0.value = subst IsEven (sym c.in_ok-new-in-Fork-2.ensures.ok) c.in_ok-tree-in-Fork-2.ensures.1 in
    let kept : c.in_ok-try_clone-in-Fork-2.field-0.value ≡ older = cc (c.in_ok-try_clone-in-Fork-2.ensures) in
    let shared : c.in_ok-share-in-Fork-2.field-0 ≡ x = cc (c.in_ok-share-in-Fork-2.ensures) in (
      (λ i. tree_items (kept i) ++ made i ++ shared i ∷ []) ∙ sym (set_newer (tree_items older) (tree_items newer) x y place past inside) ∙ sym (ap (λ s. set (tree_items s) place y) c.in-Fork.is),
      (
        subst IsEven (sym kept) even.0,
        is_even,
        ap (λ s. length (tree_items s)) kept ∙ even.2 ∙ sym (ap length made ∙ length-set (tree_items newer) (place - length (tree_items older)) y),
      ),
    )

pub returns-in_ok-try_clone-in-Fork-4 : goal.returns-in_ok-try_clone-in-Fork-4
returns-in_ok-try_clone-in-Fork-4 g t c =
    let older = c.in-Fork.older_side.value in
    let newer = c.in-Fork.newer_side.value in
    let x = c.in-Fork.newest in
    let y = c.args.item in
    let place = c.args.place in
    let even = subst IsEven c.in-Fork.is c.requires.even in
    let long = c.requires.size ∙ ap (λ s. length (tree_items s)) c.in-Fork.is ∙ length_fork (tree_items older) (tree_items newer) x y place in
    let half : c.args.size / 2 ≡ length (tree_items older) = omega (arith, even.2, long) in
    let past : length (tree_items older) ≤ place = omega (arith, half, c.if-place-half.false) in
    let last : length (tree_items older) + length (tree_items newer) ≡ place = omega (arith, even.2, half, past, long, c.requires.inside, c.if-place-half-2.false) in
    let kept : c.in_ok-try_clone-in-Fork-3.field-0.value ≡ older = cc (c.in_ok-try_clone-in-Fork-3.ensures) in
    let kept_newer : c.in_ok-try_clone-in-Fork-4.field-0.value ≡ newer = cc (c.in_ok-try_clone-in-Fork-4.ensures) in (
      (λ i. tree_items (kept i) ++ tree_items (kept_newer i) ++ y ∷ []) ∙ sym (set_newest (tree_items older) (tree_items newer) x y place last) ∙ sym (ap (λ s. set (tree_items s) place y) c.in-Fork.is),
      (
        subst IsEven (sym kept) even.0,
        subst IsEven (sym kept_newer) even.1,
        ap (λ s. length (tree_items s)) kept ∙ even.2 ∙ sym (ap (λ s. length (tree_items s)) kept_newer),
      ),
    )
