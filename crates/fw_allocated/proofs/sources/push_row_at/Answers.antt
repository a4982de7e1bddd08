use Rattle.std.proofs.Common.{◌≡◌, ◌∙◌, ◌++◌, ◌∷◌, [], Bor, None, Some, append-nil, arith, length, map, refl, sym, ap}
use Rattle.std.specs.Prelude.{option_map, option_to_list, slice_get}
use Rattle.std.proofs.lemmas.List.{length-map, map-append}
use Rattle.std.proofs.lemmas.Option.{slice_get-map, slice_get_past, slice_get_read}
use Rattle.fw_charge.specs.Charge.{Charge}
use Rattle.fw_allocated.proofs.sources.push_row_at.Goals as goal

pub returns-in_ok-push : goal.returns-in_ok-push
returns-in_ok-push c =
    let rows = c.args.rows.now in
    let now = λ (r : Bor Charge). r.now in
    let read : slice_get (map now rows) c.args.place ≡ Some c.index-rows-place.result.now =
    slice_get-map now rows c.args.place
    ∙ ap (option_map now) (slice_get_read rows (length rows) c.args.place c.index-rows-place.result refl c.if-place-rows.true c.index-rows-place.is) in
    ap (map now) c.in_ok-push.ensures.items ∙ map-append now c.args.used.now.items (c.index-rows-place.result ∷ [])
    ∙ ap (λ o. map now c.args.used.now.items ++ option_to_list o) (sym read)

pub returns-else-place-rows : goal.returns-else-place-rows
returns-else-place-rows c =
    let rows = c.args.rows.now in
    let now = λ (r : Bor Charge). r.now in
    let past : slice_get (map now rows) c.args.place ≡ None = slice_get_past (map now rows) c.args.place (omega (arith, length-map rows now, c.if-place-rows.false)) in
    sym (append-nil (map now c.args.used.now.items)) ∙ ap (λ o. map now c.args.used.now.items ++ option_to_list o) (sym past)
