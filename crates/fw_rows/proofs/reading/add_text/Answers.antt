use Rattle.std.proofs.Common.{◌∙◌}
use Rattle.csv.specs.Records.{fields_of}
use Rattle.fw_rows.specs.Sinks.{AddsRow}
use Rattle.fw_rows.proofs.MakingFacts.{record_judged}
use Rattle.fw_rows.proofs.reading.add_text.Goals as goal

pub returns-clause-row : goal.returns-clause-row
returns-clause-row g c = λ header are.
    let as_long = c.requires.as_long ∙ are.fields in
    let old = g.S.RowSink.rows c.args.sink.now in
    let new = g.S.RowSink.rows c.add.new.self in
    record_judged (λ at _. AddsRow at old new) c.args.currency header (fields_of c.args.fields.now) c.of_text.result c.add.result as_long (c.of_text.ensures header are) c.add.ensures.row
