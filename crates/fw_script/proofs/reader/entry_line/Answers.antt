use Rattle.std.proofs.Common.{ℕ, List}
use Rattle.fw_script.specs.Commands.{IsEntryLine}
use Rattle.fw_script.proofs.CommandsLaws.{every_kind}
use Rattle.fw_script.proofs.reader.entry_line.Goals as goal

pub returns : goal.returns
returns c =
    every_kind (λ k. (origin sequence last : List ℕ) (count : ℕ) → ¬ IsEntryLine k c.args.line.now origin sequence last count)
    c.in_default.ensures c.in_default-entry_of_kind.ensures c.in_default-entry_of_kind-2.ensures
    c.in_default-entry_of_kind-3.ensures c.in_default-entry_of_kind-4.ensures
