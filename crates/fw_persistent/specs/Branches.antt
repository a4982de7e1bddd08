-- The values that a search tree holds.
use Rattle.std.specs.Prelude.{◌≡◌, ℕ, List, [], ◌∷◌, ◌++◌, Some, string_bytes}
use Rattle.fw_persistent.specs.declared.branches.Entry.{Entry}
use Rattle.fw_persistent.specs.declared.branches.Node.{Node}
use Rattle.fw_persistent.specs.declared.branches.Branch.{Branch}
use Rattle.fw_persistent.specs.declared.branches.Branch.TheVariants.{Empty, Fork'}
use Rattle.fw_persistent.specs.Values.{Values, value_at}

-- a text with its value
abbrev pub entry_pair : {V : Type 0} → Entry V → List ℕ × V
entry_pair entry = (string_bytes entry.text.value, entry.value)

-- the values of a branch, from first to last
abbrev pub branch_values : {V : Type 0} → Branch V → Values V
branch_values Empty = []
branch_values (Fork' p before entry height after) = branch_values before ++ entry_pair entry ∷ branch_values after

-- the values of a node, from first to last
abbrev pub node_values : {V : Type 0} → Node V → Values V
node_values node = branch_values node.before ++ entry_pair node.entry ∷ branch_values node.after

-- the entry has the text, and the value at it
abbrev pub IsEntry : {V : Type 0} → List ℕ → Values V → Entry V → Type 0
IsEntry text values entry = (string_bytes entry.text.value ≡ text) × (value_at text values ≡ Some entry.value)
