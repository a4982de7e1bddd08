use Rattle.fw_rows.proofs.WordFacts.{amount_from}
use Rattle.fw_rows.proofs.values.amount_of.Goals as goal

pub returns : goal.returns
returns c = amount_from c.args.text.now c.parse.result c.ok.result (rw c.as_bytes.ensures.value at c.parse.ensures) c.ok.ensures.value
