use Rattle.std.proofs.Common.{◌≡◌, ◌∙◌, ◌+◌, ◌≤◌, ◌∷◌, suc, add-one, ap, subst, sym, arith, drop, length}
use Rattle.std.proofs.Math.Seq.{drop-cons}
use Rattle.std.proofs.lemmas.List.{drop_all}
use Rattle.std.proofs.lemmas.Option.{slice_get_within, get_or_from_slice_get}
use Rattle.fw_row_table.specs.Table.{tags_of}
use Rattle.fw_check.specs.Counts.{text_counts}
use Rattle.fw_check.specs.Known.{AreKnown}
use Rattle.fw_check.specs.Seen.{seen_in, with_rows}
use Rattle.fw_check.proofs.KnownFacts.{tags_listed}
use Rattle.fw_check.proofs.statistics.Statistics.add_all.Goals as goal

pub add-requires-clause-tags : goal.add-requires-clause-tags
add-requires-clause-tags c =
    ap (λ names. tags_of names c.tag_places-list.result.now) c.names-names.ensures
    ∙ tags_listed c.args.rows.now c.loop-place.place c.lent-row.result c.tag_places-list.result.now c.lent-row.ensures c.tag_places-list.ensures.places

pub loop-place-preserved : goal.loop-place-preserved
loop-place-preserved c =
    let rows = c.args.rows.now in
    let place = c.loop-place.place in
    let row = c.lent-row.result in
    let split : drop place rows ≡ row ∷ drop (place + 1) rows =
    drop-cons rows place row (slice_get_within rows place row c.lent-row.ensures)
    ∙ ap (λ r. r ∷ drop (suc place) rows) (get_or_from_slice_get rows place row row c.lent-row.ensures)
    ∙ ap (λ n. row ∷ drop n rows) (sym (add-one place)) in
    record {
      counted = ap (with_rows (drop (place + 1) rows)) c.in_ok-add.ensures.row
          ∙ sym (ap (λ rs. with_rows rs (seen_in c.loop-place.self)) split)
          ∙ c.loop-place.invariant.counted;
      places = subst (λ names. AreKnown names c.add.new.known (text_counts c.add.new.self.tags.keys.entries)) c.names-names.ensures c.in_ok-add.ensures.places;
    }

pub returns : goal.returns
returns c =
    let rows = c.args.rows.now in
    let past : length rows ≤ c.loop-place.place = omega (arith, c.len-place-end.ensures.count, c.loop-place-test.false) in
    sym (ap (λ rs. with_rows rs (seen_in c.loop-place.self)) (drop_all c.loop-place.place rows past))
    ∙ c.loop-place.invariant.counted
