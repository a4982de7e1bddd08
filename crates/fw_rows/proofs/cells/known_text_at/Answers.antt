use Rattle.csv.specs.Records.{fields_of}
use Rattle.fw_rows.proofs.CellFacts.{text_somewhere}
use Rattle.fw_rows.proofs.cells.known_text_at.Goals as goal

pub from_utf8_unchecked-requires : goal.from_utf8_unchecked-requires
from_utf8_unchecked-requires c = rw c.field_at-field.ensures (text_somewhere (fields_of c.args.fields.now) c.args.place c.requires)
