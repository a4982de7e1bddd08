use Rattle.std.proofs.Common.{[], refl}
use Rattle.csv.specs.Records.{fields_of}
use Rattle.fw_rows.proofs.FieldFacts.{get_or-field_at}
use Rattle.fw_rows.proofs.kept_places.is_name_at.Goals as goal

pub returns : goal.returns
returns c =
    let at = get_or-field_at (fields_of c.args.header.now) c.args.place [] c.field.result.now c.requires c.field.ensures in
    rw (at, c.eq.ensures, c.as_bytes.ensures.value) refl
