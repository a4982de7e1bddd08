use Rattle.std.proofs.Common.{arith, get_or}
use Rattle.csv.specs.Records.{fields_of}
use Rattle.fw_rows.specs.Columns.{Record, name_of}
use Rattle.fw_rows.specs.declared.column.Column.{Column}
use Rattle.fw_rows.specs.declared.column.Column.TheVariants as column
use Rattle.fw_check.specs.Checks.{checked}
use Rattle.fw_check.specs.Headers.{double_fault, double_in}
use Rattle.fw_check.proofs.HeaderFacts.{counted_as, counted_more, others_then}
use Rattle.fw_check.proofs.checker.Checker.check_double.Goals as goal

pub loop-column-preserved : goal.loop-column-preserved
loop-column-preserved c =
    let old = c.args.self.now in
    let mid = c.loop-column.self in
    let new = c.note_column_fault.new.self in
    let header : Record = fields_of c.args.header.now in
    let i = c.loop-column.column-index in
    let one : Column = get_or c.args.columns.now i column.BilledCost in
    record {
      counted = counted_more (double_in header) c.args.columns.now i column.BilledCost (checked old) (checked mid) (checked new) c.loop-column-test.true c.loop-column.invariant.counted
          (counted_as c.name.result.now (name_of one) c.double_fault.result (double_fault header one) (checked mid) (checked new) c.name.ensures c.double_fault.ensures
          c.in_ok-note_column_fault.ensures.counted);
      others = others_then old mid new c.loop-column.invariant.others c.note_column_fault.ensures.others;
      stays = omega (arith, c.loop-column.invariant.stays, c.in_ok-note_column_fault.ensures.stays);
    }
