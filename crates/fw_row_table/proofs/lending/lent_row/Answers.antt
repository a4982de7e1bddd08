use Rattle.std.proofs.Common.{◌≡◌, ◌∙◌, ap, sym, subst, get_or, ℕ, List, false}
use Rattle.std.specs.Prelude.{ℤ, pos, nat_abs, option_copied, unwrap_or}
use Rattle.std.proofs.lemmas.List.{get_or_read}
use Rattle.fw_charge.proofs.ChargeFacts.{equal_fields}
use Rattle.fw_charge.specs.Charge.{Charge, IsCharge}
use Rattle.fw_charge.specs.Codes.{kind_of, status_of}
use Rattle.fw_charge.specs.declared.discount.DiscountKind.TheVariants as kinds
use Rattle.fw_row_table.specs.Lending.{discount_with, tags_lent}
use Rattle.fw_row_table.specs.Table.{charge_at, category_at, class_at, text_of, quantity_of, list_at}
use Rattle.fw_row_table.proofs.LendingFacts.{discount_kept}
use Rattle.fw_row_table.proofs.lending.lent_row.Goals as goal

-- the charge that the values show
given : goal.After-values-1 → Charge
given c = record {
  billed = c.amount_at.result;
  effective = c.amount_at-2.result;
  category = c.category_at.result;
  is_correction = c.class_at.result;
  start = c.second_at.result;
  end = c.index.result.now;
  discount = discount_with c.text_lent.result c.unwrap_or.result c.from_code-2.result;
  quantity = c.quantity_of.result;
  unit = option_copied c.text_lent-2.result;
  sku = option_copied c.text_lent-3.result;
  sub_account = option_copied c.text_lent-4.result;
  tags = tags_lent c.args.tags;
}

shown : (c : goal.After-values-1) → given c ≡ charge_at c.args.table.now c.args.place
unfolding given charge_at list_at
shown c =
    let t = c.args.table.now in
    let i = c.args.place in
    let there = λ (xs : List ℤ). get_or xs i (pos 0) in
    let e1 = c.amount_at.ensures ∙ ap there c.as_slice.ensures.value in
    let e2 = c.amount_at-2.ensures ∙ ap there c.as_slice-2.ensures.value in
    let e3 = c.category_at.ensures ∙ ap (λ (codes : List ℕ). category_at (get_or codes i 0)) c.as_slice-3.ensures.value in
    let e4 = c.class_at.ensures ∙ ap (λ (codes : List ℕ). class_at (get_or codes i 0)) c.as_slice-4.ensures.value in
    let e5 = c.second_at.ensures ∙ ap nat_abs (ap there c.as_slice-5.ensures.value) in
    let e6 = get_or_read t.ends.items i _ c.requires.row.ends c.index.ensures 0 in
    let id = c.text_lent.ensures ∙ ap (text_of t.names) (get_or_read t.discounts.items i _ c.requires.row.discounts c.index-2.ensures 0) in
    let kind = c.unwrap_or.ensures ∙ ap (λ k. unwrap_or k kinds.Usage) (c.from_code.ensures ∙ ap kind_of (get_or_read t.kinds.items i _ c.requires.row.kinds c.index-3.ensures 0)) in
    let status = c.from_code-2.ensures ∙ ap status_of (get_or_read t.statuses.items i _ c.requires.row.statuses c.index-4.ensures 0) in
    let is_there = get_or_read t.has_quantity.items i _ c.requires.row.has_quantity c.index-5.ensures false in
    let count = c.amount_at-3.ensures ∙ ap there c.as_slice-6.ensures.value in
    let e7 = discount_kept c.text_lent.result c.unwrap_or.result c.from_code-2.result _ (get_or t.kinds.items i 0) (get_or t.statuses.items i 0) id kind status in
    let e8 = c.quantity_of.ensures ∙ (λ j. quantity_of (is_there j) (count j)) in
    let e9 = c.text_lent-2.ensures ∙ ap (text_of t.names) (get_or_read t.units.items i _ c.requires.row.units c.index-6.ensures 0) in
    let e10 = c.text_lent-3.ensures ∙ ap (text_of t.names) (get_or_read t.skus.items i _ c.requires.row.skus c.index-7.ensures 0) in
    let e11 = c.text_lent-4.ensures ∙ ap (text_of t.names) (get_or_read t.sub_accounts.items i _ c.requires.row.sub_accounts c.index-8.ensures 0) in
    let e12 = c.requires.tags in
    equal_fields _ _ e1 e2 e3 e4 e5 e6 e7 e8 e9 e10 e11 e12

pub of_parts-requires : goal.of_parts-requires
unfolding given
of_parts-requires c = subst IsCharge (sym (shown c)) c.requires.charge

pub returns : goal.returns
unfolding given
returns c = c.of_parts.ensures ∙ shown c.before
