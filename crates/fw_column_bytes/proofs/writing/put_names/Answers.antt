use Rattle.std.proofs.Common.{◌≡◌, ◌∙◌, ◌++◌, ℕ, List, [], Some, length, get_or, slice_get, ap, subst, arith}
use Rattle.std.specs.List.{flat_map}
use Rattle.std.proofs.lemmas.List.{take_all}
use Rattle.std.proofs.lemmas.Option.{slice_get_within, get_or_from_slice_get}
use Rattle.fw_bytes.specs.Spelling.{number32, text}
use Rattle.fw_row_table.specs.Texts.{names_of}
use Rattle.fw_fields.proofs.Written.{written_more}
use Rattle.fw_column_bytes.proofs.writing.put_names.Goals as goal

pub text-requires : goal.text-requires
text-requires c =
    let same : length c.names-names.result.now ≡ length (names_of c.args.rows.now) = ap length c.names-names.ensures in
    omega (arith, same, c.loop-place-test.true, c.name_count-count.ensures.count)

pub put_text-requires : goal.put_text-requires
put_text-requires c =
    let names = names_of c.args.rows.now in
    let there : slice_get names c.loop-place.place ≡ Some c.text.result.now = subst (λ (ns : List (List ℕ)). slice_get ns c.loop-place.place ≡ Some c.text.result.now) c.names-names.ensures c.text.ensures in
    let sized = c.name_count-count.ensures.sized c.loop-place.place [] (slice_get_within names c.loop-place.place c.text.result.now there) in
    let same : length (get_or names c.loop-place.place []) ≡ length c.text.result.now = ap length (get_or_from_slice_get names c.loop-place.place c.text.result.now [] there) in
    omega (arith, sized, same)

pub loop-place-preserved : goal.loop-place-preserved
loop-place-preserved c =
    let names = names_of c.args.rows.now in
    let there : slice_get names c.loop-place.place ≡ Some c.text.result.now = subst (λ (ns : List (List ℕ)). slice_get ns c.loop-place.place ≡ Some c.text.result.now) c.names-names.ensures c.text.ensures in
    written_more text c.args.out.now.items (number32 (length names)) names c.loop-place.place c.text.result.now c.loop-place.out.items c.put_text.new.out.items there c.loop-place.invariant c.in_ok-put_text.ensures

pub returns : goal.returns
returns c =
    let names = names_of c.args.rows.now in
    c.loop-place.invariant ∙ ap (λ (ns : List (List ℕ)). c.args.out.now.items ++ (number32 (length names) ++ flat_map text ns)) (take_all c.loop-place.place names (omega (arith, c.loop-place-test.false, c.name_count-count.ensures.count)))
