use Rattle.std.proofs.Common.{◌≤◌, [], arith}
use Rattle.std.specs.Prelude.{nat_abs}
use Rattle.std.proofs.lemmas.List.Elements.{All-nil}
use Rattle.fw_charge.specs.Charge.{IsCharge}
use Rattle.fw_money.specs.Amount.{most_nanos}
use Rattle.fw_row_table.specs.Lists.{lists_of}
use Rattle.fw_row_table.specs.Texts.{names_of, with_texts}
use Rattle.fw_row_table.proofs.TableFacts.{shown}
use Rattle.fw_row_table.proofs.table.Table.empty.Goals as goal

pub returns-clause-columns : goal.returns-clause-columns
unfolding names_of with_texts lists_of
returns-clause-columns c = record {
  few = omega arith;
  charges = All-nil IsCharge;
  names = c.new.ensures;
  names_few = rw c.new.ensures (omega arith);
  lists = c.new-2.ensures;
  lists_few = rw c.new-2.ensures (omega arith);
  billed = c.new-3.ensures.items;
  effective = c.new-4.ensures.items;
  billed_range = rw c.new-3.ensures.items (All-nil (λ n. nat_abs n ≤ most_nanos));
  effective_range = rw c.new-4.ensures.items (All-nil (λ n. nat_abs n ≤ most_nanos));
  categories = c.new-5.ensures.items;
  classes = c.new-6.ensures.items;
  starts = c.new-7.ensures.items;
  ends = c.new-8.ensures.items;
  discounts = c.new-9.ensures.items;
  kinds = c.new-10.ensures.items;
  statuses = c.new-11.ensures.items;
  quantities = c.new-12.ensures.items;
  quantities_range = rw c.new-12.ensures.items (All-nil (λ n. nat_abs n ≤ most_nanos));
  has_quantity = c.new-13.ensures.items;
  units = c.new-14.ensures.items;
  skus = c.new-15.ensures.items;
  sub_accounts = c.new-16.ensures.items;
  tags = c.new-17.ensures.items;
}

pub returns-clause-none : goal.returns-clause-none
returns-clause-none c = shown _ [] (returns-clause-columns c)
