use Rattle.fw_row_table.proofs.SpelledFacts.{tags_fit}
use Rattle.fw_row_table.proofs.lending.LentRow.has_spelling.Goals as goal

pub returns : goal.returns
returns c = record {
  charge = c.start-start.ensures.valid;
  billed = rw c.billed.ensures at c.nanos_has_spelling.ensures;
  effective = rw c.effective.ensures at c.nanos_has_spelling-2.ensures;
  quantity = rw c.quantity.ensures at c.optional_nanos_has_spelling.ensures;
  discount = c.discount_len-discount.ensures.valid;
  unit = rw c.unit.ensures at c.optional_text_has_spelling.ensures;
  sku = rw c.sku.ensures at c.optional_text_has_spelling-2.ensures;
  sub_account = rw c.sub_account.ensures at c.optional_text_has_spelling-3.ensures;
  tags = tags_fit c.args.self.now c.start-start.ensures.valid c.requires;
}
