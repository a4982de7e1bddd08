use Rattle.std.proofs.Common.{◌≡◌, ◌∙◌, ◌+◌, ◌-◌, ap, arith, length}
use Rattle.std.specs.Prelude.{slice_index}
use Rattle.std.specs.List.Sorted.{IsStrictlyIncreasing}
use Rattle.fw_columns.specs.Hours.{hours_of}
use Rattle.fw_sums.proofs.SegmentFacts.{rows_between}
use Rattle.fw_sums.proofs.wholes.hours_between.Goals as goal

pub returns : goal.returns
returns c =
    let rows = c.args.segment.now in
    let are : c.hours-hours.result.now ≡ hours_of rows = c.hours-hours.ensures.hours in
    let rising : IsStrictlyIncreasing (hours_of rows) = rw are at c.hours-hours.ensures.rising in
    let last = length (hours_of rows) - 1 in
    let at : last + 1 ≡ length (hours_of rows) = (let some = c.hours-hours.ensures.some in let long = ap length are in omega (arith, some, long)) in
    let starts : c.from.result ≡ slice_index (hours_of rows) 0 = c.from.ensures ∙ ap (λ l. slice_index l 0) are in
    let ends : c.from-2.result ≡ slice_index (hours_of rows) last = c.from-2.ensures ∙ ap (λ l. slice_index l (length l - 1)) are in
    rows_between rows last c.from.result (c.from-2.result + 1) rising at starts (ap (λ n. n + 1) ends)
