use Rattle.std.proofs.Common.{sym, ◌∙◌, length}
use Rattle.std.proofs.lemmas.Bool.{eqb-true}
use Rattle.fw_selections.proofs.MapFacts.{key-empty, key-none}
use Rattle.fw_selections.proofs.map_file.key_of.Goals as goal

pub returns-in_err-key : goal.returns-in_err-key
returns-in_err-key c = rw c.from_residual.ensures (key-none _ c.in_err-key.ensures)

pub returns-then-is_empty : goal.returns-then-is_empty
returns-then-is_empty c = key-empty _ c.in_ok-key.key.now c.in_ok-key.ensures (eqb-true (length c.in_ok-key.key.now) 0 (sym c.is_empty.ensures ∙ c.if-is_empty.true))
