use Rattle.std.proofs.Common.{◌∙◌, ◌++◌, ap, arith, subst, sym, take}
use Rattle.std.proofs.lemmas.List.{append_assoc, take_all, take_more}
use Rattle.fw_views.specs.RowSpan.{AreEnds, HasEnds}
use Rattle.fw_views.proofs.row_span.with_hours.Goals as goal

pub loop-hour-preserved : goal.loop-hour-preserved
loop-hour-preserved c = λ hours ends.
    let more = c.args.more.now in
    let place = c.loop-hour.hour-index in
    let next = ap (λ xs. hours ++ xs) (sym (take_more more place 0 c.loop-hour-test.true)) in
    subst (λ xs. HasEnds xs c.with_hour.result) (append_assoc hours (take place more) _ ∙ next)
    (c.with_hour.ensures (hours ++ take place more) (c.loop-hour.invariant hours ends))

pub returns : goal.returns
returns c = λ hours ends.
    subst (λ xs. AreEnds (hours ++ xs) c.loop-hour.ends)
    (take_all c.loop-hour.hour-index c.args.more.now c.loop-hour-test.false) (c.loop-hour.invariant hours ends)
