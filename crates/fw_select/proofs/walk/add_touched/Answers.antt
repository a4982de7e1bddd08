use Rattle.std.proofs.Common.{◌≡◌, ◌∙◌, Bor, ap, map}
use Rattle.fw_charge.specs.Charge.{Charge}
use Rattle.fw_select.proofs.KnownFacts.{count_kept}
use Rattle.fw_select.proofs.walk.add_touched.Goals as goal

pub lines_by_roster-requires-clause-rows : goal.lines_by_roster-requires-clause-rows
lines_by_roster-requires-clause-rows c =
    let rows : map (λ (r : Bor Charge). r.now) c.as_slice.result.now ≡ c.args.rows.now = ap (map (λ (r : Bor Charge). r.now)) c.as_slice.ensures.value ∙ c.in_ok-rows.ensures in
    rw rows c.requires.rows

pub returns-clause-counts : goal.returns-clause-counts
returns-clause-counts c =
    let rows : map (λ (r : Bor Charge). r.now) c.as_slice.result.now ≡ c.args.rows.now = ap (map (λ (r : Bor Charge). r.now)) c.as_slice.ensures.value ∙ c.in_ok-rows.ensures in
    λ before sums. record {
      lines = c.in_ok-lines.lines.items;
      are_lines = rw rows at c.in_ok-lines.ensures;
      sums = rw c.as_slice-2.ensures.value at (c.in_ok-add_lines.ensures.sums before sums);
    }

pub returns-clause-count : goal.returns-clause-count
returns-clause-count c = λ segments is.
    count_kept c.args.selector.now segments c.args.count.now c.add_lines.new.self c.in_ok-add_lines.ensures.kept c.add_lines.ensures.known c.add_lines.ensures.room is
