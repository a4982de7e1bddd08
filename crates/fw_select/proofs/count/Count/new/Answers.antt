use Rattle.std.proofs.Common.{◌≡◌, Bor, List, length, arith}
use Rattle.std.proofs.lemmas.List.{length-map}
use Rattle.fw_charge.specs.Charge.{Charge}
use Rattle.fw_sums.specs.Hours.{lent}
use Rattle.fw_select.proofs.KnownFacts.{count_at_first}
use Rattle.fw_select.proofs.count.Count.new.Goals as goal

pub returns-clause-count : goal.returns-clause-count
returns-clause-count c =
    let many : length (lent c.args.segments.now) ≡ length c.args.segments.now = length-map c.args.segments.now (λ (s : Bor (List Charge)). s.now) in
    let room : length c.in_ok-new.field-0.group.items ≡ length c.args.selector.now.keys.now = let h = c.in_ok-new.ensures in omega arith in
    count_at_first c.args.selector.now (lent c.args.segments.now) _ c.loop-segment._segment-index room c.loop-segment.invariant (omega arith)
