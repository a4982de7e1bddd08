use Rattle.std.proofs.Common.{[], append-nil, refl, sym}
use Rattle.std.specs.Prelude.{string_bytes}
use Rattle.fw_selections.proofs.json.push_periods.Goals as goal

pub returns-in-Some : goal.returns-in-Some
returns-in-Some c = rw c.in-Some.is c.push_cut.ensures

pub returns-in-None : goal.returns-in-None
returns-in-None c = record { members = []; are_periods = rw c.in-None.is refl; wrote = sym (append-nil (string_bytes c.args.text.now)) }
