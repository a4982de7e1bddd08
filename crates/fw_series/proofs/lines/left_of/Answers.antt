use Rattle.std.proofs.Common.{◌≡◌, ◌∙◌, None, false, not, filter, take, drop, ◌+◌, sym, ap, subst, rules, arith}
use Rattle.fw_series.specs.Lines.{is_left, is_shown}
use Rattle.fw_series.specs.Sums.{IsPast}
use Rattle.fw_series.proofs.PastFacts.{past_of, filter_split}
use Rattle.fw_series.proofs.lines.left_of.Goals as goal

pub returns-in_err-with : goal.returns-in_err-with
returns-in_err-with c =
    let es = c.args.entries.now in
    let i = c.loop-entry.entry-index in
    let names = c.args.names in
    let none : c.from_residual.result ≡ None = search rules in
    let shown : is_shown names c.entry-item.result.group ≡ false = ap (is_shown names) (sym c.group.ensures) ∙ sym c.is_shown.ensures ∙ c.if-not-is_shown.true in
    let split = filter_split (is_left names) es i c.entry-item.result (omega arith) c.entry-item.is (ap not shown) in
    rw none (subst IsPast (sym split) (past_of (filter (is_left names) (take i es)) (filter (is_left names) (drop (i + 1) es)) c.entry-item.result c.loop-entry.left.sums c.loop-entry.invariant.0.sums c.in_err-with.ensures))
