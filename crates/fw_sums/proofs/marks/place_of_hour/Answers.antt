use Rattle.std.proofs.Common.{◌≡◌, ◌≤◌, ◌<◌, ◌+◌, ◌-◌, ◌∙◌, arith, length}
use Rattle.fw_sums.proofs.MarkFacts.{marked_at, marked_before, marked_past}
use Rattle.fw_sums.proofs.marks.place_of_hour.Goals as goal

pub returns-then-hour-from : goal.returns-then-hour-from
returns-then-hour-from c =
    let early : c.args.hour < c.args.from = (let test = c.if-hour-from.true in omega (arith, test)) in
    marked_before c.args.marks.now c.args.from c.args.hour early

pub returns-then-place-marks : goal.returns-then-place-marks
returns-then-place-marks c =
    let late : c.args.from ≤ c.args.hour = (let test = c.if-hour-from.false in omega (arith, test)) in
    let past : length c.args.marks.now ≤ c.args.hour - c.args.from = (let test = c.if-place-marks.true in omega (arith, test)) in
    marked_past c.args.marks.now c.args.from c.args.hour (c.args.hour - c.args.from) (omega (arith, late)) past

pub returns-then-marks-place : goal.returns-then-marks-place
returns-then-marks-place c =
    let late : c.args.from ≤ c.args.hour = (let test = c.if-hour-from.false in omega (arith, test)) in
    let within : c.args.hour - c.args.from < length c.args.marks.now = (let test = c.if-place-marks.false in omega (arith, test)) in
    let place : c.args.hour ≡ c.args.from + (c.args.hour - c.args.from) = omega (arith, late) in
    (within, place, marked_at c.args.marks.now c.args.from c.args.hour (c.args.hour - c.args.from) place ∙ c.if-marks-place.true)

pub returns-else-marks-place : goal.returns-else-marks-place
returns-else-marks-place c =
    let late : c.args.from ≤ c.args.hour = (let test = c.if-hour-from.false in omega (arith, test)) in
    let place : c.args.hour ≡ c.args.from + (c.args.hour - c.args.from) = omega (arith, late) in
    marked_at c.args.marks.now c.args.from c.args.hour (c.args.hour - c.args.from) place ∙ c.if-marks-place.false
