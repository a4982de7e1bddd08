use Rattle.std.proofs.Common.{◌∙◌, sym, refl, inl}
use Rattle.fw_rules.specs.Table.{FirstBroken}
use Rattle.fw_rows.specs.Rules.{rules_of, form_rules}
use Rattle.fw_rows.proofs.CellFacts.{ascii_is_text}
use Rattle.fw_rows.proofs.reading.add_record.Goals as goal

pub returns-then-len-places-clause-row : goal.returns-then-len-places-clause-row
unfolding FirstBroken rules_of form_rules
returns-then-len-places-clause-row g c = λ header are. inl ((λ same. c.if-len-places.true (c.len.ensures ∙ (same ∙ sym are.fields))), refl)

-- a record of ASCII is one of text
pub add_text-requires-clause-text : goal.add_text-requires-clause-text
add_text-requires-clause-text g c = ascii_is_text 0 _ _ (rw c.as_slice.ensures at c.if-is_ascii.ensures refl)
