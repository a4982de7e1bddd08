use Rattle.std.proofs.Common.{◌≡◌, ◌<◌, ℕ, Some, slice_get}
use Rattle.fw_selections.specs.Sources.{IsOfAnother}
use Rattle.fw_selections.specs.declared.map_file.NamedMap.{NamedMap}
use Rattle.fw_selections.proofs.map_file.map_of.Given as goal

-- the maps so far are those of other sources
abbrev pub invariant-loop-named : goal.invariant-loop-named
invariant-loop-named l = (place : ℕ) (named : NamedMap) → place < l.named-index → slice_get l.maps place ≡ Some named → IsOfAnother named l.source
