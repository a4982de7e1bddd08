use Rattle.std.proofs.Common.{◌≤◌, ℤ, refl, subst, rules}
use Rattle.std.specs.Prelude.{nat_abs}
use Rattle.fw_money.specs.Amount.{most_nanos}
use Rattle.fw_row_table.specs.Table.{quantity_kept}
use Rattle.fw_columns.proofs.AddFacts.{last_is}
use Rattle.fw_columns.proofs.adding.push_values.Goals as goal

pub returns : goal.returns
returns c =
    let InRange : ℤ → Type 0 = λ n. nat_abs n ≤ most_nanos in
    record {
      names = refl;
      lists = refl;
      billed = last_is _ _ _ c.args.row.now.billed c.in_ok-push.ensures.items (search rules);
      effective = last_is _ _ _ c.args.row.now.effective c.in_ok-push-2.ensures.items (search rules);
      billed_range = subst InRange c.count.ensures.value c.count.ensures.in_range;
      effective_range = subst InRange c.count-2.ensures.value c.count-2.ensures.in_range;
      categories = last_is _ _ _ _ c.in_ok-push-3.ensures.items c.code.ensures;
      classes = last_is _ _ _ _ c.in_ok-push-4.ensures.items c.class_code.ensures;
      starts = last_is _ _ _ _ c.in_ok-push-5.ensures.items (search rules);
      ends = c.in_ok-push-6.ensures.items;
      discounts = c.in_ok-push-7.ensures.items;
      kinds = last_is _ _ _ _ c.in_ok-push-8.ensures.items (c.kind_kept.ensures c.args.row.now.status);
      statuses = last_is _ _ _ _ c.in_ok-push-9.ensures.items (c.status_kept.ensures c.args.row.now.kind);
      quantities = last_is _ _ _ (quantity_kept c.args.row.now.quantity) c.in_ok-push-10.ensures.items (search rules);
      quantity_range = subst InRange c.quantity_kept.ensures.value c.quantity_kept.ensures.in_range;
      has_quantity = last_is _ _ _ _ c.in_ok-push-11.ensures.items c.is_some.ensures;
      units = c.in_ok-push-12.ensures.items;
      skus = c.in_ok-push-13.ensures.items;
      sub_accounts = c.in_ok-push-14.ensures.items;
      tags = c.in_ok-push-15.ensures.items;
    }
