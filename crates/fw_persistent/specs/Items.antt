-- The items that a row of trees holds, and what is true of each row.
use Rattle.std.specs.Prelude.{◌≡◌, List, [], ◌∷◌, ◌++◌, length}
use Rattle.fw_persistent.specs.declared.items.Tree.{Tree}
use Rattle.fw_persistent.specs.declared.items.Tree.TheVariants.{Leaf, Fork'}
use Rattle.fw_persistent.specs.declared.items.Row.{Row}
use Rattle.fw_persistent.specs.declared.items.Row.TheVariants.{Empty, More'}

-- the items of a tree, oldest first
abbrev pub tree_items : {T : Type 0} → Tree T → List T
tree_items (Leaf x) = x ∷ []
tree_items (Fork' p older q newer x) = tree_items older ++ tree_items newer ++ x ∷ []

-- at each fork both sides have as many items
abbrev pub IsEven : {T : Type 0} → Tree T → Type 0
IsEven (Leaf x) = Unit {0}
IsEven (Fork' p older q newer x) = IsEven older × IsEven newer × (length (tree_items older) ≡ length (tree_items newer))

-- the items of a row, oldest first
abbrev pub row_items : {T : Type 0} → Row T → List T
row_items Empty = []
row_items (More' p older size newest) = row_items older ++ tree_items newest.value

-- each size is the number of its tree's items, and each tree is even
abbrev pub IsRow : {T : Type 0} → Row T → Type 0
IsRow Empty = Unit {0}
IsRow (More' p older size newest) = IsRow older × (size ≡ length (tree_items newest.value)) × IsEven newest.value
