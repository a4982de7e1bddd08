use Rattle.fw_threads.proofs.Posts.{nothing_kept}
use Rattle.fw_threads.proofs.waiting.InHand.clear.Goals as goal

pub invariant_of-self : goal.invariant_of-self
invariant_of-self g c = nothing_kept c.clear-2.new.self.items c.clear.new.self c.clear-2.ensures.items c.clear.ensures
