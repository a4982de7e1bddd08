-- How many waiting items make the next group.
use Rattle.std.specs.Prelude.{◌≡◌, ℕ, ◌+◌, ◌≤◌, ◌<◌, List, length, take}
use Rattle.fw_segment.specs.Groups.{group}
use Rattle.fw_group.specs.declared.inbox.Item.{Item}
use Rattle.fw_group.specs.Items.{entries_of}

-- as many and as long as a group may be: 64 entries, of 8,388,608 bytes when they are written as one group
abbrev pub Fits : List Item → Type 0
Fits items = (length items ≤ 64) × (length (group (entries_of items)) ≤ 8388608)

-- the first n of them fit, and no more of them do
pub record IsLongest (waiting : List Item) (n : ℕ) : Type 0 where
  pub within : n ≤ length waiting
  pub fits : Fits (take n waiting)
  pub no_more : n < length waiting → Fits (take (n + 1) waiting) → ⊥
