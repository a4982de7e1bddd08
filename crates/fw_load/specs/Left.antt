-- What is promised of two files in which a group was being added to a warehouse.
use Rattle.std.specs.Prelude.{◌≡◌, ◌⊎◌, List}
use Rattle.fw_disk.specs.Volume.{Image}
use Rattle.fw_entry.specs.Entry.{EntryValue}
use Rattle.fw_recover.specs.Stands.{StandsFor}
use Rattle.fw_snapshot.specs.History.{History}
use Rattle.fw_snapshot.specs.Verdicts.{with_more}
use Rattle.fw_serve.specs.Sessions.{Opens}
use Rattle.fw_serve.specs.Whole.{IsWhole, ReportsAddUp}

-- They can be opened. What is opened is the warehouse as it was, or with the whole group. Each
-- entry of it was accepted after those before it, and reports on it add up.
pub record IsLeftOf (held : History) (group : List EntryValue) (image : Image) : Type 0 where
  pub opens : (found : History) × Opens found image
  pub none_or_all : (found : History) → StandsFor found image
      → (found ≡ held) ⊎ (found ≡ with_more held group)
  pub whole : (found : History) → StandsFor found image → IsWhole found.entries
  pub adds_up : (found : History) → StandsFor found image → ReportsAddUp found.entries
