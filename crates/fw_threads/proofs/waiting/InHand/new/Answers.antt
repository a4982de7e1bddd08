use Rattle.fw_threads.proofs.Posts.{nothing_kept}
use Rattle.fw_threads.proofs.waiting.InHand.new.Goals as goal

pub invariant_of-result : goal.invariant_of-result
invariant_of-result g c = nothing_kept c.new-2.result.items c.new.result c.new-2.ensures.items c.new.ensures
