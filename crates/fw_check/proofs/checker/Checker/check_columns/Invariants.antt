-- the faults of the columns so far were counted, and all else stays
use Rattle.std.proofs.Common.{◌≤◌, take}
use Rattle.csv.specs.Records.{fields_of}
use Rattle.fw_check.specs.Checks.{checked}
use Rattle.fw_check.specs.Headers.{HasCounted, OthersStay, kept_faults}
use Rattle.fw_check.proofs.checker.Checker.check_columns.Given as goal

abbrev pub invariant-loop-place : goal.invariant-loop-place
invariant-loop-place l = record {
  counted : HasCounted (kept_faults (fields_of l.header) (take l.place l.keeps)) (checked l.fn.self) (checked l.self);
  others : OthersStay l.fn.self l.self;
  stays : l.fn.self.faults ≤ l.self.faults;
}
