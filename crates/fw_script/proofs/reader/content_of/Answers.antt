use Rattle.fw_script.specs.Commands.{entry_content}
use Rattle.fw_script.proofs.CommandsLaws.{content_is_lines}
use Rattle.fw_script.proofs.reader.content_of.Goals as goal

pub returns-in-Post : goal.returns-in-Post
returns-in-Post c = content_is_lines c.args.kind c.args.last.now c.args.taken.now c.in-Post.is

pub returns-in-Withdraw : goal.returns-in-Withdraw
unfolding entry_content
returns-in-Withdraw c = rw c.in-Withdraw.is search
