use Rattle.std.proofs.Common.{append-nil, sym}
use Rattle.std.specs.Prelude.{string_bytes}
use Rattle.fw_selections.proofs.json.push_sum.Goals as goal

pub returns-in-Some : goal.returns-in-Some
returns-in-Some c = rw c.in-Some.is c.push_sum_of.ensures

pub returns-in-None : goal.returns-in-None
returns-in-None c = rw c.in-None.is (sym (append-nil (string_bytes c.args.text.now)))
