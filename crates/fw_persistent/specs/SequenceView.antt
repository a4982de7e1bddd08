-- What a sequence is seen as, and what is true of each.
use Rattle.std.specs.Prelude.{◌≡◌, List, length}
use Rattle.fw_persistent.specs.declared.sequence.Sequence.TheInside.{Inside}
use Rattle.fw_persistent.specs.Items.{row_items, IsRow}

-- its items, oldest first
abbrev pub sequence_items : {T : Type 0} → Inside T → List T
sequence_items s = row_items s.row

-- its length is the number of its items
abbrev pub KeepsSequence : {T : Type 0} → Inside T → Type 0
KeepsSequence s = (s.len ≡ length (row_items s.row)) × IsRow s.row
