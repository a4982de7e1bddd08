-- Commands as plain values.
use Rattle.std.specs.Prelude.{ℕ, List}
use Rattle.fw_script.specs.declared.commands.Command.{Command}
use Rattle.fw_script.specs.declared.commands.Command.TheVariants.{Entry, Report, Lines, State, Checkpoint, BadCommand, BadEnd}
use Rattle.fw_script.specs.declared.commands.EntryKind.{EntryKind}

-- a command: the kind of an entry with what its line and the lines after it hold, the key and the hours of a report, the hours of
-- lines, a call for the state, one for a checkpoint, a line that is no command, or an entry whose lines are cut short
pub data PlainCommand : Type 0 where
  entry : (kind : EntryKind) (origin sequence content : List ℕ) → PlainCommand
  report : (key : List ℕ) (from to : ℕ) → PlainCommand
  lines : (from to : ℕ) → PlainCommand
  state : PlainCommand
  checkpoint : PlainCommand
  bad_command : PlainCommand
  bad_end : PlainCommand

abbrev pub plain_command : Command → PlainCommand
plain_command (Entry kind origin sequence content) = entry kind origin.now sequence.now content.now
plain_command (Report key from to) = report key.now from to
plain_command (Lines from to) = lines from to
plain_command State = state
plain_command Checkpoint = checkpoint
plain_command BadCommand = bad_command
plain_command BadEnd = bad_end
