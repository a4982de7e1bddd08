use Rattle.std.proofs.Common.{◌∙◌, Bool, not, ap, arith}
use Rattle.csv.specs.Records.{fields_of}
use Rattle.fw_check.specs.Headers.{fault_if}
use Rattle.fw_check.specs.declared.columns.HeaderFault.TheVariants as fault
use Rattle.fw_check.proofs.HeaderFacts.{kept_many_there, kept_none_there, kept_one_there}
use Rattle.fw_check.proofs.columns.kept_fault.Goals as goal

pub returns-then-times-eq0 : goal.returns-then-times-eq0
returns-then-times-eq0 c =
    c.fault_if.ensures
    ∙ ap (λ (b : Bool). fault_if (not b) fault.Missing) c.is_required_name.ensures
    ∙ kept_none_there (fields_of c.args.header.now) c.args.name.now c.times_in-times.result c.times_in-times.ensures c.if-times-eq0.true

pub returns-then-times-gt1 : goal.returns-then-times-gt1
returns-then-times-gt1 c =
    c.fault_if-then-times-gt1.ensures
    ∙ ap (λ (b : Bool). fault_if (not b) fault.Double) c.is_read.ensures
    ∙ kept_many_there (fields_of c.args.header.now) c.args.name.now c.times_in-times.result c.times_in-times.ensures c.if-times-gt1.true

pub returns : goal.returns
returns c =
    kept_one_there (fields_of c.args.header.now) c.args.name.now c.times_in-times.result c.times_in-times.ensures
    (omega (arith, c.if-times-eq0.false, c.if-times-gt1.false))
