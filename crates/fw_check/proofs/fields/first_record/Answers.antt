use Rattle.std.proofs.Common.{◌∙◌}
use Rattle.csv.specs.Reading.{strip_bom}
use Rattle.csv.specs.Records.{fields_of}
use Rattle.csv.specs.declared.parser.State.TheVariants as st
use Rattle.fw_check.proofs.HeaderFacts.{header_is, header_none}
use Rattle.fw_check.proofs.fields.first_record.Goals as goal

pub returns-then-not-found : goal.returns-then-not-found
returns-then-not-found c =
    let none = c.in_ok-found.ensures st.StartRecord (strip_bom c.args.text.now) c.records_of-reader.ensures in
    c.new.ensures.fields ∙ header_none c.args.text.now (rw c.if-not-found.true at none)

pub returns : goal.returns
returns c =
    let next = c.in_ok-found.ensures st.StartRecord (strip_bom c.args.text.now) c.records_of-reader.ensures in
    let is = rw c.if-not-found.false at next in
    header_is c.args.text.now (fields_of c.has_next.new.fields) is.0 is.1 is.3
