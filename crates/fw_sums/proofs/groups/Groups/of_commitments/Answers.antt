use Rattle.std.proofs.Common.{◌≡◌, ◌∙◌, ◌++◌, [], Bor, ℕ, ap, filter, map, subst, sym}
use Rattle.std.proofs.lemmas.List.Elements.{All-filter}
use Rattle.std.specs.List.{filter_map}
use Rattle.std.specs.Prelude.{slice_index}
use Rattle.fw_charge.specs.Charge.{Charge}
use Rattle.fw_cover.specs.Hour.{hour_cover, left_of}
use Rattle.fw_cover.specs.HourCovers.{IsHourCover}
use Rattle.fw_cover.specs.Offers.{sku_offers}
use Rattle.fw_cover.specs.RosterView.{offers_of_row}
use Rattle.fw_sums.specs.Corrections.{corrections}
use Rattle.fw_sums.specs.Costs.{costs_of}
use Rattle.fw_sums.specs.Hours.{HasRow, lent, row_at, row_places_at}
use Rattle.fw_sums.specs.Listed.{may_be_listed}
use Rattle.fw_sums.specs.Sums.{Counts}
use Rattle.fw_sums.proofs.CoverFacts.{left_in_cover}
use Rattle.fw_sums.proofs.ListedFacts.{all_have_rows, rows_of_row_places, without_unlisted}
use Rattle.fw_sums.proofs.groups.Groups.of_commitments.Goals as goal

pub rows_lent-requires : goal.rows_lent-requires
rows_lent-requires c =
    let segments = lent c.args.segments.now in
    rw (c.as_slice-at.ensures.value, c.in_ok-at.ensures) (All-filter (may_be_listed c.args.listed.now segments) (HasRow segments) (row_places_at segments c.args.places.now) (all_have_rows segments c.args.places.now c.requires.there))

pub offers_at-requires-clause-there : goal.offers_at-requires-clause-there
offers_at-requires-clause-there c =
    let segments = lent c.args.segments.now in
    rw (c.as_slice-at.ensures.value, c.in_ok-at.ensures) (All-filter (may_be_listed c.args.listed.now segments) (HasRow segments) (row_places_at segments c.args.places.now) (all_have_rows segments c.args.places.now c.requires.there))

pub cover_offered-requires-clause-offers : goal.cover_offered-requires-clause-offers
cover_offered-requires-clause-offers c =
    let lent_rows : map (λ (r : Bor Charge). r.now) c.as_slice-each.result.now ≡ c.in_ok-rows.rows.items = ap (map (λ (r : Bor Charge). r.now)) c.as_slice-each.ensures.value ∙ c.in_ok-each.ensures ∙ c.as_slice.ensures.value in
    ap (map sku_offers) c.as_slice-2.ensures.value ∙ c.in_ok-offers.ensures ∙ ap (map (offers_of_row c.args.roster.now)) (sym (lent_rows ∙ c.in_ok-rows.ensures))

pub returns : goal.returns
returns c =
    let cs = c.args.roster.now.commitments in
    let key = c.args.key.now in
    let rows = c.in_ok-rows.rows.items in
    let segments = lent c.args.segments.now in
    let lent_rows : map (λ (r : Bor Charge). r.now) c.as_slice-each.result.now ≡ rows = ap (map (λ (r : Bor Charge). r.now)) c.as_slice-each.ensures.value ∙ c.in_ok-each.ensures ∙ c.as_slice.ensures.value in
    let cover : IsHourCover cs rows c.args.hour c.in_ok-cover.cover = rw lent_rows at c.in_ok-cover.ensures in
    let left : (r : ℕ) → slice_index c.as_slice-5.result.now r ≡ left_of rows (hour_cover cs rows c.args.hour) r =
    (λ r. ap (λ l. slice_index l r) c.as_slice-5.ensures.value ∙ left_in_cover cs rows c.args.hour c.in_ok-cover.cover cover r) in
    let lines : Counts c.add_lines.new.self (costs_of key c.in_ok-own.own.items) = rw c.as_slice-3.ensures.value at (c.in_ok-add_lines.ensures [] c.new-sums.ensures.counts) in
    let corrected : Counts c.correct_rows.new.self (costs_of key c.in_ok-own.own.items ++ corrections key rows (slice_index c.as_slice-5.result.now)) = rw c.as_slice-4.ensures.value at (c.in_ok-correct_rows.ensures _ lines) in
    let found : rows ≡ filter_map (row_at segments) (filter (may_be_listed c.args.listed.now segments) (row_places_at segments c.args.places.now)) = c.in_ok-rows.ensures ∙ ap (filter_map (row_at segments)) (c.as_slice-at.ensures.value ∙ c.in_ok-at.ensures) in
    rw (rows_of_row_places segments c.args.places.now) at (without_unlisted segments c.args.roster.now c.args.listed.now (row_places_at segments c.args.places.now) key c.args.hour c.correct_rows.new.self c.requires.listed c.requires.hour (rw (← found) (record {
      own = c.in_ok-own.own.items;
      are_own = rw lent_rows at c.in_ok-own.ensures;
      counts = subst (λ f. Counts c.correct_rows.new.self (costs_of key c.in_ok-own.own.items ++ corrections key rows f)) (λ j r. left r j) corrected;
    })))
