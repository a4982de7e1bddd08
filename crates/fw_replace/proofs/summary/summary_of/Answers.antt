use Rattle.std.proofs.Common.{◌≡◌, ◌∙◌, ◌+◌, ◌-◌, ◌*◌, ◌≤◌, ◌++◌, ◌∷◌, [], ℕ, take, drop, sym, ap, subst, arith}
use Rattle.std.specs.Prelude.{nat_abs, pos}
use Rattle.fw_money.specs.Amount.{most_nanos}
use Rattle.fw_replace.specs.Summaries.{summary_of, summary_with}
use Rattle.fw_replace.specs.declared.summary.Summary.{Summary}
use Rattle.fw_replace.proofs.ReadFacts.{next_item, no_items}
use Rattle.fw_replace.proofs.SummaryFacts.{small_more, summary_more, summary_none}
use Rattle.fw_replace.proofs.summary.summary_of.Goals as goal

pub loop-place-init : goal.loop-place-init
loop-place-init c = record {
  so_far =
      ap (λ (h : ℕ). let s : Summary = record { first_hour = h; last_hour = 0; billed = pos 0 } in s) c.from.ensures
      ∙ sym summary_none
      ∙ sym (ap summary_of (no_items c.args.rows.now c.range_of-first.result.0));
  small = omega arith;
}

pub loop-place-preserved : goal.loop-place-preserved
loop-place-preserved c =
    let first = c.range_of-first.result.0 in
    let place = c.loop-place.place in
    let before = take (place - first) (drop first c.args.rows.now) in
    let row = c.lent.result in
    let step : take (place + 1 - first) (drop first c.args.rows.now) ≡ before ++ row ∷ [] = next_item c.args.rows.now first place row c.loop-place.auto.place c.lent.ensures in
    let small = small_more c.loop-place.summary.billed row.billed place c.loop-place.invariant.small c.with_row-summary.ensures.amount in
    record {
      so_far =
          c.with_row-summary.ensures.value
          ∙ ap (λ (s : Summary). summary_with s row) c.loop-place.invariant.so_far
          ∙ sym (ap summary_of step ∙ summary_more before row);
      small = subst (λ (s : Summary). nat_abs s.billed ≤ most_nanos * (place + 1)) (sym c.with_row-summary.ensures.value) small;
    }
