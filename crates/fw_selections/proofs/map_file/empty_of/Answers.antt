use Rattle.fw_selections.proofs.MapFacts.{empty-absent, empty-is}
use Rattle.fw_selections.proofs.map_file.empty_of.Goals as goal

pub returns-in-Some : goal.returns-in-Some
returns-in-Some c = empty-is _ _ c.as_text.result c.in-Some.ensures c.as_text.ensures

pub returns-in-None : goal.returns-in-None
returns-in-None c = empty-absent _ c.in-None.ensures
