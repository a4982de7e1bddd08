use Rattle.std.proofs.Common.{subst}
use Rattle.std.proofs.lemmas.Result.{on_ok_weaker}
use Rattle.std.specs.List.{flat_map}
use Rattle.csv.specs.Records.{fields_of}
use Rattle.fw_rows.specs.Columns.{Record, columns, required}
use Rattle.fw_check.specs.Checks.{checked}
use Rattle.fw_check.specs.Headers.{HasCounted, double_in, header_faults, missing_in}
use Rattle.fw_check.proofs.HeaderFacts.{counted_then, double_grows, missing_grows}
use Rattle.fw_check.proofs.checker.Checker.check_header.Goals as goal

pub returns-clause-counted : goal.returns-clause-counted
returns-clause-counted c =
    let header : Record = fields_of c.in_ok-header.header in
    let old = checked c.args.self.now in
    let mid = checked c.check_missing.new.self in
    let new = checked c.check_double.new.self in
    on_ok_weaker c.check_double.result
    (λ d. subst (λ (h : Record). HasCounted (header_faults h) old new) c.in_ok-header.ensures
    (counted_then (flat_map (missing_in header) required) (flat_map (double_in header) columns) old mid new c.in_ok-check_missing.ensures.counted d))
    c.check_double.ensures.counted

pub returns-clause-missing : goal.returns-clause-missing
returns-clause-missing c =
    on_ok_weaker c.check_double.result
    (λ h column reads. missing_grows c.args.self.now.currency c.args.header.now column (checked c.args.self.now) (checked c.check_double.new.self) reads h)
    (returns-clause-counted c)

pub returns-clause-double : goal.returns-clause-double
returns-clause-double c =
    on_ok_weaker c.check_double.result
    (λ h column reads. double_grows c.args.self.now.currency c.args.header.now column (checked c.args.self.now) (checked c.check_double.new.self) reads h)
    (returns-clause-counted c)
