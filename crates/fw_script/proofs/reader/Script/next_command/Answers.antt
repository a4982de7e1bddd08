use Rattle.fw_script.proofs.CommandsLaws.{FirstCommand-shorter}
use Rattle.fw_script.proofs.reader.Script.next_command.Goals as goal

pub returns-clause-shorter : goal.returns-clause-shorter
returns-clause-shorter c =
    FirstCommand-shorter c.args.self.now _ c.read_command.result.1.now (record {
      line = c.in_ok-line.line.now;
      following = c.in_ok-line.following.now;
      begins = rw (← c.self.view_is) c.in_ok-line.ensures;
      reads = c.read_command.ensures;
    })
