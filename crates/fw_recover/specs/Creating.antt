-- Creating a warehouse.
use Rattle.std.specs.Prelude.{◌≡◌, ◌⊎◌, ℕ, List, []}
use Rattle.fw_disk.specs.Volume.{Image}
use Rattle.fw_snapshot.specs.History.{History}
use Rattle.fw_recover.specs.declared.fault.StoreFault.{StoreFault}
use Rattle.fw_recover.specs.declared.fault.StoreFault.TheVariants.{Device, TooLarge, Exists, NoMemory}
use Rattle.fw_recover.specs.Stands.{StandsFor, StandsForNone}

-- the warehouse of this currency that has accepted nothing
abbrev pub empty : List ℕ → History
empty currency = record { currency = currency; entries = [] }

-- two files that stand for no warehouse yet, or for this one
abbrev pub StandsForNoneOr : History → Image → Type 0
StandsForNoneOr h c = StandsForNone c ⊎ StandsFor h c

-- the faults of creating a warehouse
abbrev pub IsCreateFault : StoreFault → Type 0
IsCreateFault fault = (fault ≡ Exists) ⊎ ((fault ≡ Device) ⊎ ((fault ≡ TooLarge) ⊎ (fault ≡ NoMemory)))
