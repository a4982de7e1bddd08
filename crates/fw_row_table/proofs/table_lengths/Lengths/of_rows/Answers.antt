use Rattle.std.proofs.Common.{◌≡◌, ◌∙◌, ◌+◌, ◌-◌, ◌<◌, [], List, length, take, drop, get_or, sym, ap, arith, length-append}
use Rattle.std.specs.List.{flat_map}
use Rattle.std.proofs.lemmas.List.{flat_map_more, take_more}
use Rattle.std.proofs.lemmas.Grind.{flat_map-append}
use Rattle.std.proofs.Math.Seq.{take-add}
use Rattle.fw_charge.specs.Charge.{Charge}
use Rattle.fw_charge.specs.Spelling.{row}
use Rattle.fw_row_table.specs.Table.{charge_at, rows_of}
use Rattle.fw_row_table.proofs.RowFacts.{has_row}
use Rattle.fw_row_table.proofs.TableFacts.{row-shown}
use Rattle.fw_row_table.proofs.table_lengths.Lengths.of_rows.Goals as goal

pub loop-place-init : goal.loop-place-init
loop-place-init c = record { value = omega arith; few = omega arith }

pub row_len-len-requires-clause-row : goal.row_len-len-requires-clause-row
row_len-len-requires-clause-row c =
    has_row c.args.table.now (rows_of c.args.table.now) c.requires.table c.loop-place.place (omega (arith, c.loop-place-test, c.requires.within))

pub row_len-len-requires-clause-texts : goal.row_len-len-requires-clause-texts
row_len-len-requires-clause-texts c = c.as_slice-texts.ensures.value ∙ c.requires.lengths.texts

pub row_len-len-requires-clause-lists : goal.row_len-len-requires-clause-lists
row_len-len-requires-clause-lists c = c.as_slice-lists.ensures.value ∙ c.requires.lengths.lists

pub overflow_add-len : goal.overflow_add-len
overflow_add-len c = omega (arith, c.loop-place-test, c.requires.within, c.requires.table.few, c.loop-place.invariant.few, c.row_len-len.ensures.few)

pub loop-place-preserved : goal.loop-place-preserved
loop-place-preserved c =
    let t = c.args.table.now in
    let rows = rows_of t in
    let i = c.loop-place.place in
    let one = charge_at t i in
    let within : i < length rows = omega (arith, c.loop-place-test, c.requires.within) in
    let shown : get_or rows i one ≡ one = sym (row-shown t rows c.requires.table i one within) in
    let more : length (flat_map row (take (i + 1) rows)) ≡ length (flat_map row (take i rows)) + length (row one) =
    ap (λ (rs : List Charge). length (flat_map row rs)) (take_more rows i one within)
    ∙ ap length (sym (flat_map_more row [] (take i rows) (get_or rows i one)))
    ∙ length-append (flat_map row (take i rows)) (row (get_or rows i one))
    ∙ ap (λ (c : Charge). length (flat_map row (take i rows)) + length (row c)) shown in
    record {
      value = omega (arith, more, c.loop-place.invariant.value, c.row_len-len.ensures.value);
      few = omega (arith, c.loop-place.invariant.few, c.row_len-len.ensures.few);
    }

pub returns : goal.returns
returns c =
    let rows = rows_of c.args.table.now in
    let first = c.args.first in
    let end = c.args.end in
    let last : c.loop-place.place ≡ end = omega (arith, c.loop-place-test.false, c.requires.order) in
    let whole : end ≡ first + (end - first) = omega (arith, c.requires.order) in
    let both : length (flat_map row (take end rows)) ≡ length (flat_map row (take first rows)) + length (flat_map row (take (end - first) (drop first rows))) =
    ap (λ n. length (flat_map row (take n rows))) whole
    ∙ ap (λ (rs : List Charge). length (flat_map row rs)) (take-add first (end - first) rows)
    ∙ ap length (flat_map-append row (take first rows) (take (end - first) (drop first rows)))
    ∙ length-append (flat_map row (take first rows)) (flat_map row (take (end - first) (drop first rows))) in
    let here : length (flat_map row (take first rows)) + c.loop-place.len ≡ length (flat_map row (take end rows)) =
    c.loop-place.invariant.value ∙ ap (λ n. length (flat_map row (take n rows))) last in
    omega (arith, both, here)
