use Rattle.std.proofs.Common.{◌≡◌, ◌∙◌, ◌+◌, ◌-◌, ◌<◌, List, Some, arith, length, subst}
use Rattle.std.specs.Prelude.{slice_get}
use Rattle.fw_charge.specs.Charge.{Charge}
use Rattle.fw_posted.specs.Posted.{PostedValue}
use Rattle.fw_posted.specs.Rows.{rows_before_segment}
use Rattle.fw_posted.proofs.PartFacts.{count_next, parts_count, start_at}
use Rattle.fw_posted.proofs.posted.PostedRows.find.Goals as goal
use Rattle.fw_posted.proofs.posted.PostedRows.find.Goals.{After-start}

begins : (c : After-start) → c.start.result ≡ rows_before_segment c.self.inside.segments c.segment_of-segment.result
begins c =
    c.start.ensures ∙ start_at c.self.inside.parts c.self.inside.segments c.segment_of-segment.result c.get.result.now c.self.invariant.parts c.get.ensures

pub get-requires : goal.get-requires
get-requires c =
    let count = parts_count 0 c.self.inside.parts c.self.inside.segments c.self.invariant.parts in
    omega (arith, count, c.segment_of-segment.ensures.within)

pub overflow_sub-result : goal.overflow_sub-result
overflow_sub-result c =
    let start = begins ((goal.at.overflow_sub-result c).After-start) in
    omega (arith, start, c.segment_of-segment.ensures.from)

pub returns-clause-row : goal.returns-clause-row
returns-clause-row c =
    let start = begins ((goal.at.returns-clause-row c).After-start) in
    let segment = c.segment_of-segment.result in
    subst (λ (p : PostedValue). rows_before_segment p.segments segment + (c.args.row - c.start.result) ≡ c.args.row) c.self.view_is
    (omega (arith, start, c.segment_of-segment.ensures.from))

pub returns-clause-inside : goal.returns-clause-inside
returns-clause-inside c =
    let start = begins ((goal.at.returns-clause-inside c).After-start) in
    let segment = c.segment_of-segment.result in
    subst (λ (p : PostedValue). (rows : List Charge) → slice_get p.segments segment ≡ Some rows → c.args.row - c.start.result < length rows) c.self.view_is
    (λ rows there. let next = count_next c.self.inside.segments segment rows there in omega (arith, start, next, c.segment_of-segment.ensures.from, c.segment_of-segment.ensures.until))
