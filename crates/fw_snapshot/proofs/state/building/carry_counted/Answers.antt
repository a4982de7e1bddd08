use Rattle.std.proofs.Common.{◌≡◌, ◌∙◌, ◌-◌, ◌<◌, ◌≤◌, ◌∷◌, [], length, get_or, nat_lt, ap, sym, subst, false, All, Option, arith}
use Rattle.std.specs.Prelude.{slice_range}
use Rattle.std.specs.Option.{option_map_or}
use Rattle.std.proofs.lemmas.List.Elements.{All-append, All-cons, All-nil}
use Rattle.std.proofs.lemmas.List.Folds.{list_any_none}
use Rattle.std.proofs.lemmas.Option.{get_or_from_slice_get}
use Rattle.fw_charge.specs.Charge.{Charge, DiscountText}
use Rattle.fw_persistent.specs.Counts.{count_of}
use Rattle.fw_row_table.specs.Texts.{names_of}
use Rattle.fw_snapshot.specs.Building.{has_counted_id}
use Rattle.fw_snapshot.proofs.EntryFacts.{any_there, passed_over}
use Rattle.fw_snapshot.proofs.RunFacts.{no_range, range_get, range_long, range_more}
use Rattle.fw_snapshot.proofs.state.building.carry_counted.Goals as goal
use Rattle.fw_snapshot.proofs.state.building.carry_counted.Goals.{then-discounts-place-ne0+else-carries_counted, else-discounts-place-ne0}

pub loop-place-init : goal.loop-place-init
loop-place-init c =
    let Without : Charge → Type 0 = λ r. has_counted_id c.args.counts.now r ≡ false in
    subst (All Without) (sym (no_range c.args.columns.now c.args.run.first)) (All-nil Without)

pub lent-row-requires : goal.lent-row-requires
lent-row-requires c = omega (arith, c.requires.within)

pub returns-then-carries_counted : goal.returns-then-carries_counted
returns-then-carries_counted c =
    let rows = c.args.columns.now in
    let first = c.args.run.first in
    let end = c.args.run.end in
    let i = c.loop-place.place in
    let row = c.lent-row.result in
    let test = has_counted_id c.args.counts.now in
    let size = range_long rows first end c.requires.order c.requires.within in
    let is = range_get rows first end i row (omega arith) (omega arith) ∙ get_or_from_slice_get rows i row row c.lent-row.ensures in
    sym (any_there test (slice_range rows first end) (i - first) row (omega (arith, size)) (ap test is ∙ sym c.carries_counted.ensures ∙ c.if-carries_counted.true))

pub loop-place-preserved : goal.loop-place-preserved
loop-place-preserved c =
    let rows = c.args.columns.now in
    let first = c.args.run.first in
    let i = c.loop-place.place in
    let codes = c.discount_codes-discounts.result.now in
    let within : i < length rows = omega (arith, c.requires.within) in
    let order : first ≤ i = omega arith in
    let Without : Charge → Type 0 = λ r. has_counted_id c.args.counts.now r ≡ false in
    let more = λ (row : Charge) (is : get_or rows i row ≡ row) (none : Without row).
    subst (All Without) (sym (range_more rows first i row order within is)) (All-append Without (slice_range rows first i) (row ∷ []) c.loop-place.invariant (All-cons Without row [] none (All-nil Without))) in
    elim c.if-discounts-place-ne0.branch [
      | then-discounts-place-ne0+else-carries_counted w ↦
          let row = w.lent-row.result in
          more row (get_or_from_slice_get rows i row row w.lent-row.ensures) (sym w.carries_counted.ensures ∙ w.if-carries_counted.false)
      | else-discounts-place-ne0 w ↦
          let over = passed_over (names_of rows) rows codes i 0 c.discount_codes-discounts.ensures within w.if-discounts-place-ne0.false in
          more over.0 over.1.0 (ap (λ (d : Option DiscountText). option_map_or (λ x. nat_lt 0 (count_of x.id c.args.counts.now)) d false) over.1.1)
    ]

pub returns : goal.returns
returns c =
    let rows = c.args.columns.now in
    let first = c.args.run.first in
    let end : c.loop-place.place ≡ c.args.run.end = omega (arith, c.requires.order, c.loop-place-test.false) in
    let Without : Charge → Type 0 = λ r. has_counted_id c.args.counts.now r ≡ false in
    sym (list_any_none (has_counted_id c.args.counts.now) (slice_range rows first c.args.run.end) (subst (λ n. All Without (slice_range rows first n)) end c.loop-place.invariant))
