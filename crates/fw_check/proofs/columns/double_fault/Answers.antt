use Rattle.std.proofs.Common.{◌∙◌, ℕ, List, ap, nat_lt}
use Rattle.csv.specs.Records.{fields_of}
use Rattle.fw_check.specs.Headers.{fault_if, times_named}
use Rattle.fw_check.specs.declared.columns.HeaderFault.TheVariants as fault
use Rattle.fw_check.proofs.HeaderFacts.{times_is}
use Rattle.fw_check.proofs.columns.double_fault.Goals as goal

pub returns : goal.returns
returns c =
    let header = fields_of c.args.header.now in
    c.fault_if.ensures
    ∙ ap (λ (n : ℕ). fault_if (nat_lt 1 n) fault.Double)
    (c.times_in.ensures ∙ ap (λ (name : List ℕ). times_named header name) c.name.ensures ∙ times_is header c.args.column)
