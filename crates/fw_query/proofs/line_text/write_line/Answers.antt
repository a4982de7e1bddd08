use Rattle.std.proofs.Common.{◌≡◌, ◌∙◌, List, ℕ, ap}
use Rattle.std.specs.Fmt.{decimal}
use Rattle.fw_charge.specs.Codes.{category_word}
use Rattle.fw_money.specs.Writing.{text_of}
use Rattle.fw_query.specs.Texts.{id_text, kind_text, line_fields, or_empty, status_text}
use Rattle.fw_query.proofs.line_text.write_line.Goals as goal

pub returns : goal.returns
unfolding line_fields
returns c =
    let charge = c.of-charge.ensures in
    let measure = c.of-measure.ensures in
    let hour : c.of-charge.result.hour.now ≡ decimal c.args.line.now.hour = charge.hour_is ∙ c.format.ensures.text ∙ ap decimal c.hour.ensures in
    let category : c.of-charge.result.category.now ≡ category_word c.args.line.now.category = charge.category_is ∙ c.word.ensures ∙ ap category_word c.category.ensures in
    let id : c.of-charge.result.id.now ≡ id_text c.args.line.now.commitment = charge.id_is ∙ c.id_of.ensures ∙ ap id_text c.commitment-commitment.ensures in
    let kind : c.of-charge.result.kind.now ≡ kind_text c.args.line.now.commitment = charge.kind_is ∙ c.kind_of.ensures ∙ ap kind_text c.commitment-commitment.ensures in
    let status : c.of-charge.result.status.now ≡ status_text c.args.line.now.commitment = charge.status_is ∙ c.status_of.ensures ∙ ap status_text c.commitment-commitment.ensures in
    let billed : c.of-measure.result.billed.now ≡ text_of c.args.line.now.billed = measure.billed_is ∙ c.as_str.ensures.value ∙ c.in_ok-billed.ensures ∙ ap text_of c.billed.ensures in
    let effective : c.of-measure.result.effective.now ≡ text_of c.args.line.now.effective = measure.effective_is ∙ c.as_str-2.ensures.value ∙ c.in_ok-effective.ensures ∙ ap text_of c.effective.ensures in
    let quantity : c.of-measure.result.quantity.now ≡ or_empty text_of c.args.line.now.quantity
    = measure.quantity_is ∙ c.as_str-3.ensures.value ∙ c.in_ok-quantity.ensures ∙ ap (or_empty text_of) c.quantity.ensures in
    let sku : c.of-measure.result.sku.now ≡ or_empty (λ (t : List ℕ). t) c.args.line.now.sku = measure.sku_is ∙ c.or_empty.ensures ∙ ap (or_empty (λ (t : List ℕ). t)) c.sku.ensures in
    let account : c.of-measure.result.sub_account.now ≡ or_empty (λ (t : List ℕ). t) c.args.line.now.sub_account
    = measure.sub_account_is ∙ c.or_empty-2.ensures ∙ ap (or_empty (λ (t : List ℕ). t)) c.sub_account.ensures in
    rw (hour, category, id, kind, status, billed, effective, quantity, sku, account) at c.write_texts.ensures
