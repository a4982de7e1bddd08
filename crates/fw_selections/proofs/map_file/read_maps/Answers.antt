use Rattle.fw_toml.specs.Tree.{stated}
use Rattle.fw_selections.proofs.MapFacts.{text-reads}
use Rattle.fw_selections.proofs.map_file.read_maps.Goals as goal

pub returns-in-Ok : goal.returns-in-Ok
returns-in-Ok c = text-reads c.args.text.now (stated c.in-Ok.table) c.maps_of.result c.in-Ok.ensures c.maps_of.ensures
