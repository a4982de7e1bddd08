use Rattle.std.proofs.Common.{[], option_map, refl, string_bytes}
use Rattle.std.specs.BTreeMap.{get_by_text}
use Rattle.fw_selections.proofs.MapFacts.{Lent, beside-more}
use Rattle.fw_selections.proofs.map_file.table_of_pairs.Goals as goal

pub loop-old-init : goal.loop-old-init
loop-old-init c = λ text. rw c.new-values.ensures.empty refl

pub loop-old-preserved : goal.loop-old-preserved
loop-old-preserved c = λ text.
    let none : Lent = (record { ref_ptr = (0, 0); now = [] }, record { ref_ptr = (0, 0); now = [] }) in
    beside-more text c.args.pairs.now c.loop-old.old-index none (option_map string_bytes (get_by_text c.loop-old.values text)) (option_map string_bytes (get_by_text c.put_pair.new.values text))
    c.loop-old-test.true (c.loop-old.invariant text) (c.in_ok-put_pair.ensures text)
