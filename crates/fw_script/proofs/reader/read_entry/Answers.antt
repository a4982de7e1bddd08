use Rattle.std.proofs.Common.{refl}
use Rattle.fw_script.specs.Commands.{IsCommand}
use Rattle.fw_script.proofs.reader.read_entry.Goals as goal

pub returns-in-Some : goal.returns-in-Some
unfolding IsCommand
returns-in-Some c = record {
  last = c.args.entry.last.now;
  count = c.args.entry.count;
  taken = c.in-Some.taken.now;
  asked = c.requires;
  given = c.in-Some.ensures;
  brought = c.content_of.ensures;
}

pub returns-in-None : goal.returns-in-None
unfolding IsCommand
returns-in-None c = (
  record {
    kind = c.args.entry.kind;
    origin = c.args.entry.origin.now;
    sequence = c.args.entry.sequence.now;
    last = c.args.entry.last.now;
    count = c.args.entry.count;
    asked = c.requires;
    too_few = c.in-None.ensures;
  },
  refl,
)
