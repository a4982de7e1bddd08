use Rattle.std.proofs.Common.{◌≡◌, ◌∙◌, IfOk, subst, sym}
use Rattle.std.proofs.lemmas.Result.{IfOk-weaker}
use Rattle.fw_select.specs.Rows.{AgreeOn}
use Rattle.fw_select.specs.declared.key.Column.TheVariants as column
use Rattle.fw_select.specs.declared.key.Source.TheVariants as source
use Rattle.fw_select.proofs.RowFacts.{accounts_agree, categories_agree, discounts_agree, skus_agree, statuses_agree}
use Rattle.fw_select.proofs.codes.codes_of_column.Goals as goal

pub returns-in-SkuId : goal.returns-in-SkuId
returns-in-SkuId c =
    let rows = c.args.segment.now in
    subst (λ col. IfOk c.copied.result (λ codes. AgreeOn (source.Column col) rows codes.items)) (sym c.in-SkuId.is)
    (IfOk-weaker c.copied.result (λ codes. codes.items ≡ c.skus.result.now) (λ codes. AgreeOn (source.Column column.SkuId) rows codes.items) (λ codes is. skus_agree rows codes.items (is ∙ c.skus.ensures)) c.copied.ensures)

pub returns-in-SubAccountId : goal.returns-in-SubAccountId
returns-in-SubAccountId c =
    let rows = c.args.segment.now in
    subst (λ col. IfOk c.copied-in-SubAccountId.result (λ codes. AgreeOn (source.Column col) rows codes.items)) (sym c.in-SubAccountId.is)
    (IfOk-weaker c.copied-in-SubAccountId.result (λ codes. codes.items ≡ c.sub_accounts.result.now) (λ codes. AgreeOn (source.Column column.SubAccountId) rows codes.items) (λ codes is. accounts_agree rows codes.items (is ∙ c.sub_accounts.ensures)) c.copied-in-SubAccountId.ensures)

pub returns-in-ChargeCategory : goal.returns-in-ChargeCategory
returns-in-ChargeCategory c =
    let rows = c.args.segment.now in
    subst (λ col. IfOk c.widened.result (λ codes. AgreeOn (source.Column col) rows codes.items)) (sym c.in-ChargeCategory.is)
    (IfOk-weaker c.widened.result (λ codes. codes.items ≡ c.categories.result.now) (λ codes. AgreeOn (source.Column column.ChargeCategory) rows codes.items) (λ codes is. categories_agree rows codes.items (is ∙ c.categories.ensures)) c.widened.ensures)

pub returns-in-CommitmentDiscountId : goal.returns-in-CommitmentDiscountId
returns-in-CommitmentDiscountId c =
    let rows = c.args.segment.now in
    subst (λ col. IfOk c.copied-in-CommitmentDiscountId.result (λ codes. AgreeOn (source.Column col) rows codes.items)) (sym c.in-CommitmentDiscountId.is)
    (IfOk-weaker c.copied-in-CommitmentDiscountId.result (λ codes. codes.items ≡ c.discount_codes.result.now) (λ codes. AgreeOn (source.Column column.CommitmentDiscountId) rows codes.items) (λ codes is. discounts_agree rows codes.items (is ∙ c.discount_codes.ensures)) c.copied-in-CommitmentDiscountId.ensures)

pub returns-in-CommitmentDiscountStatus : goal.returns-in-CommitmentDiscountStatus
returns-in-CommitmentDiscountStatus c =
    let rows = c.args.segment.now in
    subst (λ col. IfOk c.widened-in-CommitmentDiscountStatus.result (λ codes. AgreeOn (source.Column col) rows codes.items)) (sym c.in-CommitmentDiscountStatus.is)
    (IfOk-weaker c.widened-in-CommitmentDiscountStatus.result (λ codes. codes.items ≡ c.statuses.result.now) (λ codes. AgreeOn (source.Column column.CommitmentDiscountStatus) rows codes.items) (λ codes is. statuses_agree rows codes.items (is ∙ c.statuses.ensures)) c.widened-in-CommitmentDiscountStatus.ensures)
