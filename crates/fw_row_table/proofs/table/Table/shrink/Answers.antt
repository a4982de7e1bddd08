use Rattle.std.proofs.Common.{◌∙◌, ◌≤◌}
use Rattle.std.specs.Prelude.{nat_abs}
use Rattle.std.proofs.lemmas.List.Elements.{All-same}
use Rattle.fw_money.specs.Amount.{most_nanos}
use Rattle.fw_row_table.proofs.table.Table.shrink.Goals as goal

pub returns : goal.returns
returns c = λ rows columns. record {
  few = columns.few;
  charges = columns.charges;
  names = c.shrink.ensures ∙ columns.names;
  names_few = rw c.shrink.ensures columns.names_few;
  lists = rw c.shrink.ensures (c.shrink-2.ensures ∙ columns.lists);
  lists_few = rw c.shrink-2.ensures columns.lists_few;
  billed = c.shrink_to_fit.ensures.items ∙ columns.billed;
  effective = c.shrink_to_fit-2.ensures.items ∙ columns.effective;
  billed_range = All-same (λ n. nat_abs n ≤ most_nanos) _ _ c.shrink_to_fit.ensures.items columns.billed_range;
  effective_range = All-same (λ n. nat_abs n ≤ most_nanos) _ _ c.shrink_to_fit-2.ensures.items columns.effective_range;
  categories = c.shrink_to_fit-3.ensures.items ∙ columns.categories;
  classes = c.shrink_to_fit-4.ensures.items ∙ columns.classes;
  starts = c.shrink_to_fit-5.ensures.items ∙ columns.starts;
  ends = c.shrink_to_fit-6.ensures.items ∙ columns.ends;
  discounts = rw c.shrink.ensures (c.shrink_to_fit-7.ensures.items ∙ columns.discounts);
  kinds = c.shrink_to_fit-8.ensures.items ∙ columns.kinds;
  statuses = c.shrink_to_fit-9.ensures.items ∙ columns.statuses;
  quantities = c.shrink_to_fit-10.ensures.items ∙ columns.quantities;
  quantities_range = All-same (λ n. nat_abs n ≤ most_nanos) _ _ c.shrink_to_fit-10.ensures.items columns.quantities_range;
  has_quantity = c.shrink_to_fit-11.ensures.items ∙ columns.has_quantity;
  units = rw c.shrink.ensures (c.shrink_to_fit-12.ensures.items ∙ columns.units);
  skus = rw c.shrink.ensures (c.shrink_to_fit-13.ensures.items ∙ columns.skus);
  sub_accounts = rw c.shrink.ensures (c.shrink_to_fit-14.ensures.items ∙ columns.sub_accounts);
  tags = rw (c.shrink.ensures, c.shrink-2.ensures) (c.shrink_to_fit-15.ensures.items ∙ columns.tags);
}
