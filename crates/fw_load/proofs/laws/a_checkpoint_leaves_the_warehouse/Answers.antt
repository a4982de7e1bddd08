use Rattle.std.proofs.Common.{[], inl, refl}
use Rattle.fw_load.proofs.LeftFacts.{left_of}
use Rattle.fw_load.proofs.laws.a_checkpoint_leaves_the_warehouse.Goals as goal

pub returns-clause-moment : goal.returns-clause-moment
returns-clause-moment g c result image told works published made left =
    left_of c.args.before.now.store.history [] image (inl ((made.any_moment told works refl).each image left))

pub returns-clause-behind : goal.returns-clause-behind
returns-clause-behind g c result image told works published made may =
    left_of c.args.before.now.store.history [] image (inl (made.each told works refl image may))
