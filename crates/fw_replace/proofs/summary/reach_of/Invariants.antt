use Rattle.std.proofs.Common.{◌≡◌, ◌-◌, take, drop}
use Rattle.std.specs.List.{list_all, list_any}
use Rattle.fw_replace.specs.Summaries.{begins_in}
use Rattle.fw_replace.proofs.summary.reach_of.Given as goal

-- whether some of the rows so far are in the range, and whether all are
abbrev pub invariant-loop-place : goal.invariant-loop-place
invariant-loop-place l = record {
  some_in : l.some_in ≡ list_any (begins_in l.from l.to) (take (l.place - l.first) (drop l.first l.rows));
  all_in : l.all_in ≡ list_all (begins_in l.from l.to) (take (l.place - l.first) (drop l.first l.rows));
}
