-- What an import keeps from one part to the next.
use Rattle.std.specs.Prelude.{◌≡◌, ℕ, List, Option, IfSome}
use Rattle.fw_charge.specs.Charge.{Charge}
use Rattle.fw_entry.specs.Entry.{EntryValue}
use Rattle.fw_replace.specs.Own.{OwnValue, own_value, HasNumbered}
use Rattle.fw_replace.specs.Posts.{posts_of}
use Rattle.fw_snapshot.specs.History.{rows_posted}

-- the origin, and its posts where they are kept
pub record ImporterValue : Type 0 where
  pub origin : List ℕ
  pub posts : Option OwnValue

-- where posts are kept, they are those of the origin in a warehouse that has accepted these entries
abbrev pub Knows : ImporterValue → List EntryValue → Type 0
Knows i entries = IfSome i.posts (λ own. own ≡ own_value i.origin entries)

-- a post of the origin that counts has this number and the rows of this part
abbrev pub HasPart : List EntryValue → List ℕ → ℕ → List Charge → Type 0
HasPart entries origin number part =
    HasNumbered (rows_posted entries) number part (posts_of origin entries)
