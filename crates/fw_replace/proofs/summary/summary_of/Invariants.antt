use Rattle.std.proofs.Common.{◌≡◌, ◌-◌, ◌*◌, ◌≤◌, take, drop}
use Rattle.std.specs.Prelude.{nat_abs}
use Rattle.fw_money.specs.Amount.{most_nanos}
use Rattle.fw_replace.specs.Summaries.{summary_of}
use Rattle.fw_replace.proofs.summary.summary_of.Given as goal

-- what the rows so far come to, which is no larger than so many amounts can make it
abbrev pub invariant-loop-place : goal.invariant-loop-place
invariant-loop-place l = record {
  so_far : l.summary ≡ summary_of (take (l.place - l.first) (drop l.first l.rows));
  small : nat_abs l.summary.billed ≤ most_nanos * l.place;
}
