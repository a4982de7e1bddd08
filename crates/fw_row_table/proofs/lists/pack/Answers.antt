use Rattle.std.proofs.Common.{◌∙◌, ap}
use Rattle.std.specs.Prelude.{vec_items}
use Rattle.fw_row_table.proofs.NameFacts.{one_more}
use Rattle.fw_row_table.proofs.lists.pack.Goals as goal

pub loop-list-preserved : goal.loop-list-preserved
loop-list-preserved c =
    one_more vec_items c.args.packed.now c.args.lists.now c.loop-list.list-index c.list-item.result c.as_slice.result.now _ _ c.loop-list-test.true c.list-item.is
    (c.as_slice.ensures.value ∙ ap vec_items c.value.ensures) c.loop-list.invariant c.in_ok-all-2.ensures
