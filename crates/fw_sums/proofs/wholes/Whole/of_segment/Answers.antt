use Rattle.std.proofs.Common.{◌≡◌, ◌∙◌, ◌-◌, [], All, ap, arith, map, replicate, subst, true}
use Rattle.fw_sums.specs.Hours.{row_cost, rows_marked}
use Rattle.fw_sums.specs.Sums.{Counts}
use Rattle.fw_sums.specs.Wholes.{IsBetween}
use Rattle.fw_sums.proofs.WholeFacts.{whole_range}
use Rattle.fw_sums.proofs.wholes.Whole.of_segment.Goals as goal

pub returns-clause-sums : goal.returns-clause-sums
returns-clause-sums c =
    let key = c.args.key.now in
    let rows = c.args.segment.now in
    let from = c.hours_between-from.result.0 in
    let to = c.hours_between-from.result.1 in
    let between : All (IsBetween from to) rows = c.hours_between-from.ensures in
    let marks : c.as_slice.result.now ≡ replicate (to - from) true = c.as_slice.ensures.value ∙ c.in_ok-marks.ensures ∙ ap (λ n. replicate n true) c.saturating_sub-hours.ensures in
    let counted : Counts c.add_segment.new.self (map (row_cost key) (rows_marked c.as_slice.result.now from rows)) = c.in_ok-add_segment.ensures [] c.new-sums.ensures.counts in
    record {
      counts = subst (Counts c.add_segment.new.self) (whole_range key from to from to rows (omega arith) (omega arith) between) (rw marks at counted);
      between = between;
    }
