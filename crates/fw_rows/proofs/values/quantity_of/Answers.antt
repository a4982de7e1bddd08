use Rattle.fw_rows.proofs.WordFacts.{no_quantity, some-from_length}
use Rattle.fw_rows.proofs.values.quantity_of.Goals as goal

pub returns-else-eq : goal.returns-else-eq
returns-else-eq c =
    no_quantity c.args.text.now c.in-Err.fault (rw c.as_bytes.ensures.value at c.in-Err.ensures) (λ same. let yes_ = rw same at c.eq.ensures in let not_ = c.if-eq.false in cc) (some-from_length c.args.text.now _ c.is_empty.ensures c.if-is_empty.false)
