use Rattle.fw_query.proofs.WriterFacts.{HasWritten-more}
use Rattle.fw_selections.proofs.csv_text.write_record.Goals as goal

pub returns : goal.returns
returns c = λ text has. HasWritten-more _ _ text _ has c.in-Ok.ensures.bytes c.in-Ok.ensures.ended c.in-Ok.ensures.clean c.in-Ok.ensures.setup
