use Rattle.fw_serve.proofs.RecoveryFacts.{ends_since, stops_behind, stops_within}
use Rattle.fw_serve.proofs.laws.a_served_script_may_stop_anywhere.Goals as goal

pub returns-clause-any_image : goal.returns-clause-any_image
returns-clause-any_image g c = λ commands answers image told works each runs moment.
    ends_since g.V.Volume.tells g.V.Volume.view c.args.begun.now c.args.ended.now commands answers image g.met.V.Volume.only_now told works each runs moment

pub returns-clause-within : goal.returns-clause-within
returns-clause-within g c = λ commands answers place command answer image works each at moment.
    stops_within g.V.Volume.tells g.V.Volume.view c.args.begun.now c.args.ended.now commands answers place command answer image g.met.V.Volume.only_now works each at moment

pub returns-clause-behind : goal.returns-clause-behind
returns-clause-behind g c = λ commands answers image works each runs now.
    stops_behind g.V.Volume.tells g.V.Volume.view c.args.begun.now c.args.ended.now commands answers image works each runs now
