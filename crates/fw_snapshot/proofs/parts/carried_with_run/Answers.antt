use Rattle.std.proofs.Common.{◌≡◌, ◌∙◌, ◌+◌, ◌<◌, ◌≤◌, ◌&&◌, ℕ, false, List, Option, arith, if◌then◌else◌, length, get_or, nat_le, ap, sym}
use Rattle.std.specs.Prelude.{slice_range}
use Rattle.std.specs.Option.{option_map_or}
use Rattle.std.specs.Str.{bytes_eq}
use Rattle.std.proofs.lemmas.Option.{get_or_from_slice_get}
use Rattle.fw_charge.specs.Charge.{Charge, DiscountText}
use Rattle.fw_persistent.specs.Counts.{count_of}
use Rattle.fw_row_table.specs.Texts.{names_of}
use Rattle.fw_snapshot.specs.Judging.{carries, has_id}
use Rattle.fw_snapshot.proofs.EntryFacts.{passed_over}
use Rattle.fw_snapshot.proofs.RunFacts.{no_range, raised_more, range_more}
use Rattle.fw_snapshot.proofs.parts.carried_with_run.Goals as goal
use Rattle.fw_snapshot.proofs.parts.carried_with_run.Goals.{then-discounts-place-ne0+in_ok-next-2, else-discounts-place-ne0}

pub loop-place-init : goal.loop-place-init
unfolding carries
loop-place-init c = λ id.
    let same = ap (count_of id) c.in_ok-next.ensures in
    let none : carries id (slice_range c.args.columns.now c.args.run.first c.args.run.first) ≡ false = ap (carries id) (no_range c.args.columns.now c.args.run.first) in
    let start = count_of id c.args.after.now in
    let before = count_of id c.args.before.now in
    let all : start ≡ start + (if carries id (slice_range c.args.columns.now c.args.run.first c.args.run.first) && nat_le start before then 1 else 0) =
    rw none (omega arith) in
    same ∙ all

pub lent-row-requires : goal.lent-row-requires
lent-row-requires c = omega (arith, c.requires.within)

pub loop-place-preserved : goal.loop-place-preserved
loop-place-preserved c =
    let rows = c.args.columns.now in
    let first = c.args.run.first in
    let i = c.loop-place.place in
    let codes = c.discount_codes-discounts.result.now in
    let within : i < length rows = omega (arith, c.requires.within) in
    let order : first ≤ i = omega arith in
    let last = λ (id : List ℕ) (row : Charge) (is : get_or rows i row ≡ row).
    ap (λ (rs : List Charge). count_of id c.args.after.now + (if carries id rs && nat_le (count_of id c.args.after.now) (count_of id c.args.before.now) then 1 else 0)) (sym (range_more rows first i row order within is)) in
    elim c.if-discounts-place-ne0.branch [
      | then-discounts-place-ne0+in_ok-next-2 w ↦
          let row = w.lent-row.result in
          let is = get_or_from_slice_get rows i row row w.lent-row.ensures in
          λ id. raised_more c.args.before.now c.args.after.now c.loop-place.next c.if-discounts-place-ne0.next (slice_range rows first i) row c.requires.above c.loop-place.invariant
          (λ id. ap (count_of id) w.next-is ∙ w.in_ok-next-2.ensures id) id ∙ last id row is
      | else-discounts-place-ne0 w ↦
          let over = passed_over (names_of rows) rows codes i 0 c.discount_codes-discounts.ensures within w.if-discounts-place-ne0.false in
          let step : (id : List ℕ) → count_of id c.if-discounts-place-ne0.next ≡ count_of id c.loop-place.next + (if has_id id over.0 && nat_le (count_of id c.loop-place.next) (count_of id c.args.before.now) then 1 else 0) =
          λ id.
          let kept = ap (count_of id) w.next-is in
          let none : has_id id over.0 ≡ false = ap (λ (d : Option DiscountText). option_map_or (λ x. bytes_eq id x.id) d false) over.1.1 in
          let without = ap {B = ℕ} (λ b. if b && nat_le (count_of id c.loop-place.next) (count_of id c.args.before.now) then 1 else 0) none in
          omega (arith, kept, without) in
          λ id. raised_more c.args.before.now c.args.after.now c.loop-place.next c.if-discounts-place-ne0.next (slice_range rows first i) over.0 c.requires.above c.loop-place.invariant step id ∙ last id over.0 over.1.0
    ]

pub returns : goal.returns
returns c = λ id.
    let end : c.loop-place.place ≡ c.args.run.end = omega (arith, c.requires.order, c.loop-place-test.false) in
    c.loop-place.invariant id
    ∙ ap (λ n. count_of id c.args.after.now + (if carries id (slice_range c.args.columns.now c.args.run.first n) && nat_le (count_of id c.args.after.now) (count_of id c.args.before.now) then 1 else 0)) end
