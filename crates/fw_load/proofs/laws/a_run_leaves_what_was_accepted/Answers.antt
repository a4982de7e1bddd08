use Rattle.fw_load.proofs.LeftFacts.{run_accepted, run_held, run_left}
use Rattle.fw_load.proofs.laws.a_run_leaves_what_was_accepted.Goals as goal

pub returns-clause-left : goal.returns-clause-left
returns-clause-left g c s events answers image run may = run_left g.V.Volume.view c.args.house.now s events answers c.args.ended.now run image may

pub returns-clause-held : goal.returns-clause-held
returns-clause-held g c s events answers image found run may stands =
    run_held g.V.Volume.view c.args.house.now s events answers c.args.ended.now run image may found stands

pub returns-clause-accepted : goal.returns-clause-accepted
returns-clause-accepted g c s events answers image found event place receipt run may stands is =
    run_accepted g.V.Volume.view c.args.house.now s events answers c.args.ended.now run image may found event place receipt stands is
