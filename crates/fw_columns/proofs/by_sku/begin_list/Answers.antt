use Rattle.std.proofs.Common.{◌≡◌, ◌∙◌, [], ℕ, ap, arith, cond, get_or, length, map, set}
use Rattle.std.specs.Prelude.{◌==◌, vec_items}
use Rattle.std.proofs.lemmas.List.{length-map, map-append, map-set}
use Rattle.fw_columns.proofs.MetFacts.{begun, emptied, one_empty}
use Rattle.fw_columns.proofs.by_sku.begin_list.Goals as goal
use Rattle.fw_columns.proofs.by_sku.begin_list.Goals.{then-which-len+in_ok-push, else-which-len}

pub returns-clause-lists : goal.returns-clause-lists
returns-clause-lists c =
    let old = c.args.lists.now.items in
    let lists = map vec_items old in
    let i = c.args.which in
    let size : length lists ≡ length old = length-map old vec_items in
    let empty : (k : ℕ) → get_or (map vec_items c.if-which-len.lists.items) k [] ≡ cond (k == i) [] (get_or lists k []) =
    elim c.if-which-len.branch [
      | then-which-len+in_ok-push w ↦ λ k.
          rw (w.lists-is, w.in_ok-push.ensures.items, map-append, w.new.ensures.items) (one_empty lists i (omega (arith, size, c.len.ensures, w.if-which-len.true)) k)
      | else-which-len w ↦ λ k.
          rw w.lists-is
          (ap (λ l. get_or l k []) (map-set vec_items old i w.clear.new.self ∙ ap (set lists i) w.clear.ensures.items) ∙ emptied lists i (omega (arith, size, c.requires, c.len.ensures, w.if-which-len.false)) k)
    ] in
    begun lists (map vec_items c.if-which-len.lists.items) (map vec_items c.add_place.new.lists.items) i c.args.place empty c.in_ok-add_place.ensures.lists
