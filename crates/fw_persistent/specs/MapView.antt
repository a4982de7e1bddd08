-- What a map is seen as, and what is true of each.
use Rattle.fw_persistent.specs.declared.map.Map.TheInside.{Inside}
use Rattle.fw_persistent.specs.Branches.{branch_values}
use Rattle.fw_persistent.specs.Values.{Values, IsRising}

-- its values, by rising texts
abbrev pub map_values : {V : Type 0} → Inside V → Values V
map_values m = branch_values m.root

-- the texts rise
abbrev pub KeepsMap : {V : Type 0} → Inside V → Type 0
KeepsMap m = IsRising (branch_values m.root)
