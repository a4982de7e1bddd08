use Rattle.fw_serve.proofs.FlightFacts.{turn_at, turn_opened}
use Rattle.fw_serve.proofs.laws.commands_are_run_in_turn.Goals as goal

pub returns-clause-turn : goal.returns-clause-turn
returns-clause-turn g c = λ commands answers place command answer run asked answered.
    turn_at g.V.Volume.tells g.V.Volume.view commands c.args.before.now c.args.after.now answers place command answer run asked answered

pub returns-clause-opened : goal.returns-clause-opened
returns-clause-opened g c = λ commands answers place command answer image found told works asked answered at now stands.
    turn_opened g.V.Volume.tells g.V.Volume.view commands c.args.before.now c.args.after.now answers place command answer image found told works asked answered at now stands

pub returns-clause-any_moment : goal.returns-clause-any_moment
returns-clause-any_moment g c = λ result bytes held holds one told works.
    record {
      commands = one.commands;
      answers = one.answers;
      run = one.run;
      any_moment = one.any_moment told works;
      once_failed = one.once_failed told works;
    }

pub returns-clause-each_command : goal.returns-clause-each_command
returns-clause-each_command g c =
    λ result bytes held holds one. record {
      commands = one.commands;
      answers = one.answers;
      run = one.run;
      in_turn = one.in_turn;
    }
