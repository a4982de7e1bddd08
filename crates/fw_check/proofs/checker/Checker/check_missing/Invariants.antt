-- the faults of the columns so far were counted, and all else stays
use Rattle.std.proofs.Common.{◌≤◌, take}
use Rattle.std.specs.List.{flat_map}
use Rattle.csv.specs.Records.{fields_of}
use Rattle.fw_check.specs.Checks.{checked}
use Rattle.fw_check.specs.Headers.{HasCounted, OthersStay, missing_in}
use Rattle.fw_check.proofs.checker.Checker.check_missing.Given as goal

abbrev pub invariant-loop-column : goal.invariant-loop-column
invariant-loop-column l = record {
  counted : HasCounted (flat_map (missing_in (fields_of l.header)) (take l.column-index l.columns)) (checked l.fn.self) (checked l.self);
  others : OthersStay l.fn.self l.self;
  stays : l.fn.self.faults ≤ l.self.faults;
}
