use Rattle.std.proofs.Common.{List, ◌++◌}
use Rattle.std.proofs.lemmas.Result.{err_from_is_err_and}
use Rattle.fw_charge.specs.Tags.{TagText}
use Rattle.fw_rows.specs.declared.details.Details.{Details}
use Rattle.fw_rows.specs.Parts.{texts_of, detail_rules, discount_rules}
use Rattle.fw_rows.specs.Rules.{quantity_rules, length_rules}
use Rattle.fw_rows.proofs.JudgedFacts.{first-front, first-back, none-both, within-back}
use Rattle.fw_rows.proofs.cells.Cells.details.Goals as goal

pub returns-in_err-discount : goal.returns-in_err-discount
unfolding detail_rules
returns-in_err-discount c =
    let at = texts_of c.args.self.now in
    let p = err_from_is_err_and c.from_residual.result c.from_residual.ensures.1 in
    rw (p.1, p.2) (first-front (discount_rules at) (quantity_rules at ++ length_rules at) c.in_err-discount.field-0.0 c.in_err-discount.ensures)

pub returns-in_err-quantity : goal.returns-in_err-quantity
unfolding detail_rules
returns-in_err-quantity c =
    let at = texts_of c.args.self.now in
    let f = c.in_err-quantity.field-0.0 in
    let p = err_from_is_err_and c.from_residual-in_err-quantity.result c.from_residual-in_err-quantity.ensures.1 in
    rw (p.1, p.2) (first-back (discount_rules at) (quantity_rules at ++ length_rules at) f c.in_ok-discount.ensures.0 (first-front (quantity_rules at) (length_rules at) f c.in_err-quantity.ensures))

pub returns-in_err-tags : goal.returns-in_err-tags
unfolding detail_rules
returns-in_err-tags c =
    let at = texts_of c.args.self.now in
    let f = c.in_err-tags.field-0.0 in
    let p = err_from_is_err_and c.from_residual-in_err-tags.result c.from_residual-in_err-tags.ensures.1 in
    rw (p.1, p.2) (within-back {A = List TagText} {B = Details} (discount_rules at) (quantity_rules at ++ length_rules at) (λ _. ⊥) (λ _. ⊥) f c.in_ok-discount.ensures.0 (within-back {A = List TagText} {B = List TagText} (quantity_rules at) (length_rules at) (λ _. ⊥) (λ _. ⊥) f c.in_ok-quantity.ensures.0 c.in_err-tags.ensures))

pub returns : goal.returns
unfolding detail_rules
returns c =
    let at = texts_of c.args.self.now in (
      none-both (discount_rules at) (quantity_rules at ++ length_rules at) c.in_ok-discount.ensures.0 (none-both (quantity_rules at) (length_rules at) c.in_ok-quantity.ensures.0 c.in_ok-tags.ensures.0),
      record { discount = c.in_ok-discount.ensures.1; quantity = c.in_ok-quantity.ensures.1; tags = c.in_ok-tags.ensures.1.0; short = c.in_ok-tags.ensures.1.1; kept = c.in_ok-tags.ensures.1.2 },
    )
