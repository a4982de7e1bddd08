use Rattle.csv.specs.Records.{fields_of}
use Rattle.fw_rows.proofs.FieldFacts.{is_some-field_at}
use Rattle.fw_rows.proofs.records.field.Goals as goal

pub unwrap-requires : goal.unwrap-requires
unwrap-requires c = is_some-field_at (fields_of c.args.fields.now) c.args.place c.get.result c.requires c.get.ensures.value
