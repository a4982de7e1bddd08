use Rattle.std.proofs.Common.{refl}
use Rattle.fw_script.specs.Commands.{TakesLines}
use Rattle.fw_script.proofs.CommandsLaws.{takes_lines}
use Rattle.fw_script.proofs.reader.lines_taken.Goals as goal

pub returns-in-Post : goal.returns-in-Post
returns-in-Post c = takes_lines c.args.kind c.args.last.now c.line_count.result c.in-Post.is c.line_count.ensures

pub returns-in_err-sequence_number-in-Withdraw : goal.returns-in_err-sequence_number-in-Withdraw
unfolding TakesLines
returns-in_err-sequence_number-in-Withdraw c = rw c.from_residual.ensures (rw c.in-Withdraw.is (λ count takes. c.in_err-sequence_number-in-Withdraw.ensures takes.0.0 takes.0.1))

pub returns-in_ok-sequence_number-in-Withdraw : goal.returns-in_ok-sequence_number-in-Withdraw
unfolding TakesLines
returns-in_ok-sequence_number-in-Withdraw c = rw c.in-Withdraw.is ((_, c.in_ok-sequence_number-in-Withdraw.ensures), refl)
