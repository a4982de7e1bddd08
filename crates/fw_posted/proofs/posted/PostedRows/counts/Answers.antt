use Rattle.std.proofs.Common.{◌≡◌, ◌∙◌, ◌+◌, ◌-◌, ◌<◌, ap, arith, get_or, length, subst, sym, []}
use Rattle.std.specs.Prelude.{slice_get}
use Rattle.fw_posted.specs.Parts.{all_marks}
use Rattle.fw_posted.specs.Posted.{PostedValue}
use Rattle.fw_posted.specs.Rows.{rows_before_segment}
use Rattle.fw_posted.proofs.PartFacts.{count_next, mark_at, marks_count, part_at, parts_count, segment_there, start_at}
use Rattle.fw_posted.proofs.posted.PostedRows.counts.Goals as goal
use Rattle.fw_posted.proofs.posted.PostedRows.counts.Goals.{After-start}

pub segment_of-segment-requires-clause-inside : goal.segment_of-segment-requires-clause-inside
segment_of-segment-requires-clause-inside c =
    let one_each = marks_count 0 c.self.inside.parts c.self.inside.segments c.self.invariant.parts in
    let inside = subst (λ (p : PostedValue). c.args.place < length p.counts) (sym c.self.view_is) c.requires in
    omega (arith, one_each, inside)

pub get-part-requires : goal.get-part-requires
get-part-requires c =
    let count = parts_count 0 c.self.inside.parts c.self.inside.segments c.self.invariant.parts in
    omega (arith, count, c.segment_of-segment.ensures.within)

begins : (c : After-start) → c.start.result ≡ rows_before_segment c.self.inside.segments c.segment_of-segment.result
begins c =
    c.start.ensures ∙ start_at c.self.inside.parts c.self.inside.segments c.segment_of-segment.result c.get-part.result.now c.self.invariant.parts c.get-part.ensures

within : (c : After-start) → c.args.place - c.start.result < length c.get-part.result.now.marks
within c =
    let segments = c.self.inside.segments in
    let segment = c.segment_of-segment.result in
    let rows = get_or segments segment [] in
    let there = segment_there segments segment c.segment_of-segment.ensures.within in
    let at = part_at 0 c.self.inside.parts segments segment c.get-part.result.now rows c.self.invariant.parts c.get-part.ensures there in
    let next = count_next segments segment rows there in
    omega (arith, begins c, next, at.of.marks, c.segment_of-segment.ensures.from, c.segment_of-segment.ensures.until)

pub overflow_sub-place : goal.overflow_sub-place
overflow_sub-place c =
    let start = begins ((goal.at.overflow_sub-place c).After-start) in
    omega (arith, start, c.segment_of-segment.ensures.from)

pub counts-requires : goal.counts-requires
counts-requires c = within ((goal.at.counts-requires c).After-start)

pub returns : goal.returns
returns c =
    let at = (goal.at.returns c).After-start in
    let start = begins at in
    let parts = c.self.inside.parts in
    let segments = c.self.inside.segments in
    let segment = c.segment_of-segment.result in
    let row = c.args.place - c.start.result in
    let place : c.args.place ≡ rows_before_segment segments segment + row = omega (arith, start, c.segment_of-segment.ensures.from) in
    sym (ap (λ (p : PostedValue). slice_get p.counts c.args.place) c.self.view_is)
    ∙ ap (slice_get (all_marks parts)) place
    ∙ mark_at 0 parts segments segment row c.get-part.result.now c.self.invariant.parts c.get-part.ensures (within at)
    ∙ c.counts.ensures
