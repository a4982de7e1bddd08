use Rattle.fw_rows.specs.Parts.{texts_of}
use Rattle.fw_rows.specs.declared.column.Column.TheVariants as column
use Rattle.fw_rows.proofs.MakingFacts.{discount_kept, short_or_null}
use Rattle.fw_rows.proofs.cells.Cells.made.Goals as goal

pub of_fields-requires : goal.of_fields-requires
of_fields-requires c =
    let at = texts_of c.args.self.now in
    let charged = c.requires.charged in
    let details = c.requires.details in
    record {
      ordered = charged.period.ordered;
      dated = charged.period.dated;
      discount = discount_kept at c.args.charged.words.category c.args.details.discount c.in_ok-discount.discount c.in_ok-discount.ensures charged.words.category details.short.id details.discount;
      unit = short_or_null (at column.ConsumedUnit) _ (rw c.text.ensures at c.in_ok-unit.ensures) details.short.unit;
      sku = short_or_null (at column.SkuId) _ (rw c.text-2.ensures at c.in_ok-sku.ensures) details.short.sku;
      sub_account = short_or_null (at column.SubAccountId) _ (rw c.text-3.ensures at c.in_ok-sub_account.ensures) details.short.sub_account;
      tags = details.kept;
    }
