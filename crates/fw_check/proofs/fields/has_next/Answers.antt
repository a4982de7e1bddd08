use Rattle.csv.specs.Records.{fields_of}
use Rattle.fw_check.proofs.HeaderFacts.{found_next}
use Rattle.fw_check.proofs.fields.has_next.Goals as goal

pub returns : goal.returns
returns c = λ s y at.
    found_next c.args.reader.now c.read_byte_record.new.self c.in-Ok.found (fields_of c.read_byte_record.new.row) s y at (c.in-Ok.ensures.ready at.trim) (c.in-Ok.ensures.reads at.trim at.ready)
