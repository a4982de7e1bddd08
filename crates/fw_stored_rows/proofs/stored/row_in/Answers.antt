use Rattle.std.proofs.Common.{◌-◌, slice_index_or}
use Rattle.fw_stored_rows.proofs.StartFacts.{place_in, run_there}
use Rattle.fw_stored_rows.proofs.stored.row_in.Goals as goal

pub returns-clause-within : goal.returns-clause-within
returns-clause-within c =
    let k = c.segment_of-segment.result in
    (place_in c.args.segments.now k (slice_index_or c.args.starts.now k 0) c.args.place c.get.result.now c.get.ensures
    (c.requires.starts.each k c.segment_of-segment.ensures.within) c.segment_of-segment.ensures.from c.segment_of-segment.ensures.until).1

pub returns-clause-rows : goal.returns-clause-rows
returns-clause-rows c = λ count within.
    let segments = c.args.segments.now in
    let k = c.segment_of-segment.result in
    let start = slice_index_or c.args.starts.now k 0 in
    let place = c.args.place in
    let rows = c.get.result.now in
    let at = place_in segments k start place rows c.get.ensures (c.requires.starts.each k c.segment_of-segment.ensures.within) c.segment_of-segment.ensures.from c.segment_of-segment.ensures.until in
    run_there segments k (place - start) place count rows c.get.ensures at.0 within
