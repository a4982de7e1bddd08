use Rattle.std.proofs.Common.{codes, refl}
use Rattle.std.proofs.lemmas.Result.{IfOk-weaker}
use Rattle.toml.specs.View.{view}
use Rattle.fw_toml.proofs.Readings.{absent}
use Rattle.fw_toml.specs.Tree.{at, stated}
use Rattle.fw_selections.proofs.MapFacts.{values-there}
use Rattle.fw_selections.proofs.map_file.values_of.Goals as goal

pub returns-in-Some : goal.returns-in-Some
returns-in-Some c = IfOk-weaker c.renames_of.result _ _ (λ found. values-there (at (stated c.args.table.now) (codes "values")) (view c.in-Some.value.now) found c.in-Some.ensures) c.renames_of.ensures

pub returns-in-None : goal.returns-in-None
returns-in-None c = (λ text. rw (c.new.ensures.empty, c.in-None.ensures) refl, absent _ _ c.in-None.ensures)
