use Rattle.fw_selections.proofs.MapFacts.{fold-absent, fold-is}
use Rattle.fw_selections.proofs.map_file.fold_of.Goals as goal

pub returns-in-Some : goal.returns-in-Some
returns-in-Some c = fold-is _ _ c.as_bool.result c.in-Some.ensures c.as_bool.ensures

pub returns-in-None : goal.returns-in-None
returns-in-None c = fold-absent _ c.in-None.ensures
