use Rattle.fw_rows.proofs.RecordFacts.{finds}
use Rattle.csv.specs.Records.{fields_of}
use Rattle.fw_rows.proofs.records.ReaderRefSliceU8Records.advance.Goals as goal

pub returns : goal.returns
returns c = λ s y at.
    finds c.args.self.now c.read_byte_record.new.self c.in-Ok.found (fields_of c.read_byte_record.new.row) s y at (c.in-Ok.ensures.ready at.trim) (c.in-Ok.ensures.reads at.trim at.ready)
