use Rattle.std.proofs.Common.{rules, ◌≡◌, ◌∙◌, ◌<◌, ◌+◌, ◌-◌, ◌++◌, ◌∷◌, [], ap, arith, cond, get_or, length, map, take}
use Rattle.std.specs.Prelude.{◌==◌, slice_index_or, vec_items}
use Rattle.std.proofs.lemmas.List.{length-map, take_all, take_more}
use Rattle.fw_columns.specs.BySku.{each_once}
use Rattle.fw_columns.proofs.MetFacts.{met_lists, met_new, met_none, met_old}
use Rattle.fw_columns.proofs.SkuFacts.{codes_at, places_with}
use Rattle.fw_columns.proofs.by_sku.Met.add_codes.Goals as goal
use Rattle.fw_columns.proofs.by_sku.Met.add_codes.Goals.{then-last-before+in_ok-add_place, else-last-before+in_ok-begin_list+in_ok-push+in_ok-note}

pub loop-place-init : goal.loop-place-init
loop-place-init c =
    met_none c.args.skus.now c.args.codes.now.items c.args.self.now.last.items (map vec_items c.args.self.now.lists.items)
    (λ n. let low = c.requires.earlier n in omega (arith, low, c.args.codes.now.ok.0))

pub loop-place-preserved : goal.loop-place-preserved
loop-place-preserved c =
    let places = c.args.places.now in
    let i = c.loop-place.place-index in
    let skus = c.args.skus.now in
    let base = c.args.codes.now.items in
    let seen = take i places in
    let codes = c.loop-place.codes.items in
    let noted = c.loop-place.self.last.items in
    let lists = map vec_items c.loop-place.self.lists.items in
    let place = c.from.result in
    let code = slice_index_or skus place 0 in
    let inside : i < length places = omega arith in
    let here : get_or places i 0 ≡ place = search rules in
    let more : take (i + 1) places ≡ seen ++ place ∷ [] = take_more places i 0 inside ∙ ap (λ p. seen ++ p ∷ []) here in
    let last : c.last_of-last.result ≡ slice_index_or noted code 0 = c.last_of-last.ensures ∙ ap (λ l. slice_index_or l code 0) c.deref.ensures.value in
    let before : c.len-before.result ≡ length base = omega (arith, c.len-before.ensures) in
    rw more (
    elim c.if-last-before.branch [
      | then-last-before+in_ok-add_place w ↦
          let which : c.last_of-last.result - c.len-before.result - 1 ≡ slice_index_or noted code 0 - length base - 1 = omega (arith, last, before) in
          let size = length-map c.loop-place.self.lists.items vec_items in
          let size' = length-map w.add_place.new.lists.items vec_items in
          rw (w.self-is, w.codes-is)
          (met_old skus base seen codes noted lists c.loop-place.invariant place (map vec_items w.add_place.new.lists.items)
          (omega (arith, last, before, w.if-last-before.true))
          (λ k. w.in_ok-add_place.ensures.lists k ∙ (λ j. cond (k == which j) (get_or lists k [] ++ here j ∷ []) (get_or lists k [])))
          (omega (arith, size, size', w.in_ok-add_place.ensures.len)))
      | else-last-before+in_ok-begin_list+in_ok-push+in_ok-note w ↦
          let which : w.len.result - c.len-before.result ≡ length codes - length base = omega (arith, w.len.ensures, before) in
          let end : w.len-else-last-before.result ≡ length w.push.new.self.items = omega (arith, w.len-else-last-before.ensures) in
          let size = length-map w.begin_list.new.lists.items vec_items in
          rw (w.self-is, w.codes-is)
          (met_new skus base seen codes noted lists c.loop-place.invariant place (map vec_items w.begin_list.new.lists.items) w.push.new.self.items w.note.new.last.items
          (omega (arith, last, before, w.if-last-before.false))
          w.in_ok-push.ensures.items
          (λ n. w.in_ok-note.ensures n ∙ ap (λ m. cond (n == code) m (slice_index_or noted n 0)) end)
          (λ k. w.in_ok-begin_list.ensures.lists k ∙ (λ j. cond (k == which j) (here j ∷ []) (get_or lists k [])))
          (omega (arith, size, which, w.in_ok-begin_list.ensures.some)))
    ]
    )

pub returns-clause-lists : goal.returns-clause-lists
returns-clause-lists c =
    let skus = c.args.skus.now in
    let places = c.args.places.now in
    let base = c.args.codes.now.items in
    let seen = take c.loop-place.place-index places in
    let all : seen ≡ places = take_all c.loop-place.place-index places (omega arith) in
    met_lists skus base seen c.loop-place.codes.items c.loop-place.self.last.items (map vec_items c.loop-place.self.lists.items) c.loop-place.invariant (c.len-2.result - c.len-before.result)
    (omega (arith, c.len-2.ensures, c.len-before.ensures))
    ∙ (λ j. map (λ code. places_with skus code (all j)) (each_once (codes_at skus (all j))))
