use Rattle.std.proofs.Common.{arith}
use Rattle.csv.specs.Records.{fields_of}
use Rattle.fw_check.specs.Checks.{checked}
use Rattle.fw_check.proofs.HeaderFacts.{kept_more, others_then}
use Rattle.fw_check.proofs.checker.Checker.check_columns.Goals as goal

pub loop-place-preserved : goal.loop-place-preserved
loop-place-preserved c =
    let old = c.args.self.now in
    let mid = c.loop-place.self in
    let new = c.note_column_fault.new.self in
    record {
      counted = kept_more (fields_of c.args.header.now) c.args.keeps.now c.loop-place.place c.index-keeps-place.result c.column-name.result.now c.fault_behind-fault.result (checked old) (checked mid) (checked new)
          (omega (arith, c.loop-place-test.true)) c.index-keeps-place.is c.column-name.ensures c.fault_behind-fault.ensures c.loop-place.invariant.counted c.in_ok-note_column_fault.ensures.counted;
      others = others_then old mid new c.loop-place.invariant.others c.note_column_fault.ensures.others;
      stays = omega (arith, c.loop-place.invariant.stays, c.in_ok-note_column_fault.ensures.stays);
    }
