use Rattle.std.proofs.Common.{◌≡◌, ◌∙◌, ◌<◌, length, ap, sym, subst, true, false, All, List, Option, arith}
use Rattle.std.specs.Option.{option_map_or}
use Rattle.std.proofs.lemmas.List.{take_all}
use Rattle.std.proofs.lemmas.List.Elements.{All-more}
use Rattle.std.proofs.lemmas.List.Folds.{list_any_none}
use Rattle.std.proofs.lemmas.Option.{slice_get_within, get_or_from_slice_get}
use Rattle.fw_charge.specs.Charge.{Charge, DiscountText}
use Rattle.fw_row_table.specs.Texts.{names_of}
use Rattle.fw_snapshot.specs.History.{committed_of}
use Rattle.fw_snapshot.specs.Judging.{carries_any, has_registered_id, is_registered}
use Rattle.fw_snapshot.proofs.EntryFacts.{any_there, coded_all, passed_over}
use Rattle.fw_snapshot.proofs.judging.carry_registered.Goals as goal
use Rattle.fw_snapshot.proofs.judging.carry_registered.Goals.{then-discounts-place-ne0+else-carries_registered, else-discounts-place-ne0}

pub lent-row-requires : goal.lent-row-requires
lent-row-requires c =
    let size = coded_all (names_of c.args.rows.now) c.args.rows.now c.discount_codes-discounts.result.now c.discount_codes-discounts.ensures in
    omega (arith, size)

pub returns-then-carries_registered : goal.returns-then-carries_registered
unfolding carries_any
returns-then-carries_registered c =
    let rows = c.args.rows.now in
    let i = c.loop-place.place in
    let row = c.lent-row.result in
    sym (any_there (has_registered_id (committed_of c.args.state.now.entries)) rows i row (slice_get_within rows i row c.lent-row.ensures)
    (subst (λ r. has_registered_id (committed_of c.args.state.now.entries) r ≡ true) (sym (get_or_from_slice_get rows i row row c.lent-row.ensures)) (sym c.carries_registered.ensures ∙ c.if-carries_registered.true)))

pub loop-place-preserved : goal.loop-place-preserved
loop-place-preserved c =
    let rows = c.args.rows.now in
    let i = c.loop-place.place in
    let codes = c.discount_codes-discounts.result.now in
    let commitments = committed_of c.args.state.now.entries in
    let size = coded_all (names_of rows) rows codes c.discount_codes-discounts.ensures in
    let within : i < length rows = omega (arith, size) in
    let Without : Charge → Type 0 = λ r. has_registered_id commitments r ≡ false in
    elim c.if-discounts-place-ne0.branch [
      | then-discounts-place-ne0+else-carries_registered w ↦
          let row = w.lent-row.result in
          All-more Without rows i row within c.loop-place.invariant
          (subst Without (sym (get_or_from_slice_get rows i row row w.lent-row.ensures)) (sym w.carries_registered.ensures ∙ w.if-carries_registered.false))
      | else-discounts-place-ne0 w ↦
          let over = passed_over (names_of rows) rows codes i 0 c.discount_codes-discounts.ensures within w.if-discounts-place-ne0.false in
          All-more Without rows i over.0 within c.loop-place.invariant
          (subst Without (sym over.1.0) (ap (λ (d : Option DiscountText). option_map_or (λ x. is_registered x.id commitments) d false) over.1.1))
    ]

pub returns : goal.returns
unfolding carries_any
returns c =
    let rows = c.args.rows.now in
    let size = coded_all (names_of rows) rows c.discount_codes-discounts.result.now c.discount_codes-discounts.ensures in
    let Without : Charge → Type 0 = λ r. has_registered_id (committed_of c.args.state.now.entries) r ≡ false in
    sym (list_any_none (has_registered_id (committed_of c.args.state.now.entries)) rows (subst (λ (rs : List Charge). All Without rs) (take_all c.loop-place.place rows (omega (arith, size, c.loop-place-test.false))) c.loop-place.invariant))
