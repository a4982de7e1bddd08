use Rattle.std.proofs.Common.{◌∙◌, ◌++◌, ap}
use Rattle.std.proofs.lemmas.Result.{err_from_is_err_and}
use Rattle.fw_rows.specs.Parts.{texts_of, charged_rules, discount_rules}
use Rattle.fw_rows.specs.Rules.{not_null, quantity_rules}
use Rattle.fw_rows.proofs.JudgedFacts.{first-front, first-back, none-both}
use Rattle.fw_column_rows.specs.Views.{view_rules}
use Rattle.fw_column_rows.proofs.ViewFacts.{named_stands}
use Rattle.fw_column_rows.proofs.view.view_of.Goals as goal

pub returns-in_err-charged : goal.returns-in_err-charged
unfolding view_rules
returns-in_err-charged c =
    let at = texts_of c.args.cells.now in
    let p = err_from_is_err_and c.from_residual.result c.from_residual.ensures.1 in
    rw (p.1, p.2) (first-front (charged_rules c.args.currency at) (discount_rules at ++ quantity_rules at) c.in_err-charged.field-0.0 c.in_err-charged.ensures)

pub returns-in_err-discount : goal.returns-in_err-discount
unfolding view_rules
returns-in_err-discount c =
    let at = texts_of c.args.cells.now in
    let f = c.in_err-discount.field-0.0 in
    let p = err_from_is_err_and c.from_residual-in_err-discount.result c.from_residual-in_err-discount.ensures.1 in
    rw (p.1, p.2) (first-back (charged_rules c.args.currency at) (discount_rules at ++ quantity_rules at) f c.in_ok-charged.ensures.0 (first-front (discount_rules at) (quantity_rules at) f c.in_err-discount.ensures))

pub returns-in_err-quantity : goal.returns-in_err-quantity
unfolding view_rules
returns-in_err-quantity c =
    let at = texts_of c.args.cells.now in
    let f = c.in_err-quantity.field-0.0 in
    let p = err_from_is_err_and c.from_residual-in_err-quantity.result c.from_residual-in_err-quantity.ensures.1 in
    rw (p.1, p.2) (first-back (charged_rules c.args.currency at) (discount_rules at ++ quantity_rules at) f c.in_ok-charged.ensures.0 (first-back (discount_rules at) (quantity_rules at) f c.in_ok-discount.ensures.0 c.in_err-quantity.ensures))

pub returns : goal.returns
unfolding view_rules
returns c =
    let at = texts_of c.args.cells.now in
    let charged = c.in_ok-charged.ensures.1 in (
      none-both (charged_rules c.args.currency at) (discount_rules at ++ quantity_rules at) c.in_ok-charged.ensures.0 (none-both (discount_rules at) (quantity_rules at) c.in_ok-discount.ensures.0 c.in_ok-quantity.ensures.0),
      record {
        billed = charged.costs.billed;
        effective = charged.costs.effective;
        category = charged.words.category;
        class = charged.words.class;
        start = charged.period.start;
        end = charged.period.end;
        ordered = charged.period.ordered;
        dated = charged.period.dated;
        discount = named_stands at c.in_ok-discount.discount _ c.discount_parts-kind.ensures c.in_ok-discount.ensures.1;
        quantity = c.in_ok-quantity.ensures.1;
        unit = c.text_or_null.ensures ∙ ap not_null c.text.ensures;
        sku = c.text_or_null-2.ensures ∙ ap not_null c.text-2.ensures;
        sub_account = c.text_or_null-3.ensures ∙ ap not_null c.text-3.ensures;
      },
    )
