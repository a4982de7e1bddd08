use Rattle.std.proofs.Common.{◌≡◌, ◌+◌, ◌<◌, ◌≤◌, length, take, arith}
use Rattle.fw_snapshot.specs.Building.{rows_before}
use Rattle.fw_posted.specs.Rows.{segment_rows}
use Rattle.fw_snapshot.proofs.BuildingFacts.{after_segment, there_is}
use Rattle.fw_snapshot.proofs.places.next_run.Goals as goal
use Rattle.fw_snapshot.proofs.places.next_run.Goals.{Else-place-len}

pub get-columns-requires : goal.get-columns-requires
get-columns-requires c = there_is c.args.segments.now c.args.place c.requires.some

-- the rows before the next segment are those before the place
at_end : (c : Else-place-len) → length (segment_rows (take (c.args.place.segment + 1) c.args.segments.now)) ≡ rows_before c.args.segments.now c.args.place
at_end c =
    let segments = c.args.segments.now in
    let one = c.get-columns.result.now in
    let more = after_segment segments c.args.place.segment one c.get-columns.ensures in
    let inside : c.args.place.row ≤ length one = c.requires.inside one c.get-columns.ensures in
    omega (arith, more, inside, c.if-place-len.false, c.len-len.ensures.count)

next_is : (c : Else-place-len) → c.args.place.segment + 1 < length c.args.segments.now
next_is c =
    let before = at_end c in
    let some = c.requires.some in
    there_is c.args.segments.now (record { segment = c.args.place.segment + 1; row = 0 }) (omega (arith, before, some))

pub get-columns-requires-2 : goal.get-columns-requires-2
get-columns-requires-2 c = next_is (goal.at.get-columns-requires-2 c).Else-place-len

pub returns-clause-segment : goal.returns-clause-segment
returns-clause-segment c = next_is (goal.at.returns-clause-segment c).Else-place-len

pub returns-clause-place : goal.returns-clause-place
returns-clause-place c =
    let before = at_end (goal.at.returns-clause-place c).Else-place-len in
    omega (arith, before)
