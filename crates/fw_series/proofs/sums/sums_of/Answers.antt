use Rattle.std.proofs.Common.{◌≡◌, None, take, drop, ◌+◌, sym, subst, rules, arith}
use Rattle.fw_series.specs.Sums.{IsPast}
use Rattle.fw_series.proofs.PastFacts.{past_of, split_at}
use Rattle.fw_series.proofs.sums.sums_of.Goals as goal

pub returns-in_err-sums : goal.returns-in_err-sums
returns-in_err-sums c =
    let es = c.args.entries.now in
    let i = c.loop-entry.entry-index in
    let none : c.from_residual.result ≡ None = search rules in
    let split = split_at es i c.entry-item.result (omega arith) c.entry-item.is in
    rw none (subst IsPast (sym split) (past_of (take i es) (drop (i + 1) es) c.entry-item.result c.loop-entry.sums c.loop-entry.invariant c.in_err-sums.ensures))
