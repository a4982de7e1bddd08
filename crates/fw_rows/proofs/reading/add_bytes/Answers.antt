use Rattle.std.proofs.Common.{◌∙◌, refl, inl, inr}
use Rattle.csv.specs.Records.{fields_of}
use Rattle.fw_rules.specs.Table.{FirstBroken}
use Rattle.fw_rows.specs.Rules.{rules_of, form_rules}
use Rattle.fw_rows.specs.Sinks.{AddsRow}
use Rattle.fw_rows.proofs.MakingFacts.{record_judged}
use Rattle.fw_rows.proofs.reading.add_bytes.Goals as goal

pub returns-in-None-clause-row : goal.returns-in-None-clause-row
unfolding FirstBroken rules_of form_rules
returns-in-None-clause-row g c = λ header are.
    let as_long = c.requires.as_long ∙ are.fields in
    inr ((λ other. other as_long), inl (c.in-None.ensures header are, refl))

pub returns-in-Some-clause-row : goal.returns-in-Some-clause-row
returns-in-Some-clause-row g c = λ header are.
    let as_long = c.requires.as_long ∙ are.fields in
    let old = g.S.RowSink.rows c.args.sink.now in
    let new = g.S.RowSink.rows c.add.new.self in
    record_judged (λ at _. AddsRow at old new) c.args.currency header (fields_of c.args.fields.now) c.in-Some.cells c.add.result as_long (c.in-Some.ensures header are) c.add.ensures.row
