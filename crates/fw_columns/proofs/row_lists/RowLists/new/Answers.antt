use Rattle.std.proofs.Common.{refl, arith}
use Rattle.fw_row_table.specs.Texts.{with_texts}
use Rattle.fw_columns.proofs.row_lists.RowLists.new.Goals as goal

pub invariant_of-result : goal.invariant_of-result
unfolding with_texts
invariant_of-result c = rw (c.new.ensures, c.new-2.ensures.items) (omega arith, record { seen = refl; places = refl })
