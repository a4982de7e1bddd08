use Rattle.std.proofs.Common.{◌≡◌, ◌∙◌, ◌++◌, Bor, ap, map, subst, sym}
use Rattle.fw_charge.specs.Charge.{Charge}
use Rattle.fw_select.specs.Selectors.{costs_of}
use Rattle.fw_select.specs.Table.{AreSums}
use Rattle.fw_figures.proofs.PriceFacts.{costs_of-append, counts_none}
use Rattle.fw_figures.proofs.prices.add_hour.Goals as goal

pub returns-in_default : goal.returns-in_default
returns-in_default c = λ before sums.
    counts_none c.args.counter.now before c.args.selector.now c.args.counted c.args.roster.now.commitments c.args.rows.now c.args.hour c.in_default.ensures sums

pub lines-requires : goal.lines-requires
lines-requires c = rw c.in-Some.ensures c.requires.hour

pub returns : goal.returns
returns c =
    let rows : map (λ (r : Bor Charge). r.now) c.as_slice.result.now ≡ c.args.rows.now = ap (map (λ (r : Bor Charge). r.now)) c.as_slice.ensures.value ∙ c.in_ok-rows.ensures in
    let lines = c.in_ok-lines.lines.items in
    λ before sums. record {
      lines = lines;
      are_lines = rw (rows, c.in-Some.ensures) at c.in_ok-lines.ensures;
      sums =
          subst (AreSums c.add_lines.new.self.table)
          (ap (λ l. costs_of c.args.selector.now before ++ costs_of c.args.selector.now l) c.as_slice-2.ensures.value ∙ sym (costs_of-append c.args.selector.now before lines))
          (c.in_ok-add_lines.ensures (costs_of c.args.selector.now before) sums);
    }
