use Rattle.std.proofs.Common.{◌≡◌, ◌∙◌, ◌+◌, ◌-◌, ◌<◌, ap, arith, false, get_or, length, refl, sym, true}
use Rattle.fw_amortise.specs.Lines.{rows_in}
use Rattle.fw_sums.specs.ReportCache.{IsFound}
use Rattle.fw_sums.specs.Hours.{all_rows, lent, rows_at}
use Rattle.fw_sums.proofs.TurnFacts.{all_in_turn}
use Rattle.fw_sums.proofs.open_hours.OpenHours.find.Goals as goal

pub returns-in-Ok : goal.returns-in-Ok
unfolding IsFound
returns-in-Ok c =
    let segments = lent c.args.segments.now in
    let rows = all_rows segments in
    let hours = c.args.self.now in
    let are = c.requires.can.are_open in
    let there : c.args.place < length hours.by_hour.items = omega arith in
    let list : c.index.result.now ≡ get_or hours.by_hour.items c.args.place c.index.result.now = c.index.ensures in
    let at : c.args.from + c.args.place - c.args.from ≡ c.args.place = omega arith in
    let mark : get_or hours.marks.items c.args.place false ≡ true = ap (λ l. get_or l c.args.place false) (sym c.deref-then-is_true_at.ensures.value) ∙ sym c.is_true_at-then-is_true_at.ensures ∙ c.if-is_true_at-2.true in
    let marked : get_or hours.marks.items (c.args.from + c.args.place - c.args.from) false ≡ true = rw at mark in
    let here : rows_at segments c.as_slice-places.result.now ≡ rows_in (c.args.from + c.args.place) rows =
    all_in_turn segments rows hours.marks.items hours.by_hour.items c.args.from c.args.place c.index.result.now c.as_slice-places.result.now are.lists_are there list c.as_slice-places.ensures.value (c.args.from + c.args.place) refl marked in
    rw here at c.in-Ok.ensures
