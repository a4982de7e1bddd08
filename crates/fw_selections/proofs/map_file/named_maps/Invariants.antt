use Rattle.std.proofs.Common.{map, take}
use Rattle.fw_toml.specs.Tree.{stated}
use Rattle.fw_selections.specs.Maps.{StateMaps}
use Rattle.fw_selections.proofs.map_file.named_maps.Given as goal

-- the maps so far are those of the tables so far
abbrev pub invariant-loop-place : goal.invariant-loop-place
invariant-loop-place l = StateMaps (take l.place (map (λ t. stated t.now) l.found)) l.maps.items
