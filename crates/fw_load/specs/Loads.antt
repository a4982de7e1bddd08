-- What a load leaves of a store.
use Rattle.std.specs.Prelude.{◌≡◌, ◌⊎◌, Bool, IsTrue, Option, None}
use Rattle.fw_disk.specs.Volume.{Image, View, LeavesOnly}
use Rattle.fw_snapshot.specs.History.{History}
use Rattle.fw_group.specs.Laws.{Begins}
use Rattle.fw_recover.specs.Stands.{StandsFor}
use Rattle.fw_recover.specs.Store.{StoreState}
use Rattle.fw_threads.specs.Flushed.{Flushed}
use Rattle.fw_load.specs.declared.fault.LoadFault.{LoadFault}

-- the files stand for a warehouse that has all that this one has, and perhaps more
abbrev pub StandsForMore : History → Image → Type 0
StandsForMore h c = (k : History) × Begins h k × StandsFor k c

-- what readers take is what is stored
abbrev pub IsShown : {V : Type 0} → Flushed V → Type 0
IsShown f = f.published ≡ f.store.history

module _ {V : Type 0} (tells : Bool) (view : V → View) where
  -- nothing happened to the store; or a crash at any moment since leaves a warehouse that has all that this one had
  abbrev pub LeavesMore : StoreState V → StoreState V → Type 0
  LeavesMore s t = (t ≡ s) ⊎ (IsTrue tells → LeavesOnly (view s.volume) (view t.volume) (StandsForMore s.history))

  -- the store has all that it had, and perhaps more, and so has what a crash meanwhile leaves
  abbrev pub GrowsOnly : StoreState V → StoreState V → Type 0
  GrowsOnly s t = Begins s.history t.history × LeavesMore s t

  -- a flusher whose store grew, and didn't fail meanwhile
  abbrev pub GoesOn : Flushed V → Flushed V → Type 0
  GoesOn f g = IsShown f → GrowsOnly f.store g.store × (g.store.failed ≡ f.store.failed) × IsShown g

  -- a flusher whose store grew, and may have failed
  abbrev pub Stops : Flushed V → Flushed V → Type 0
  Stops f g = IsShown f → GrowsOnly f.store g.store

  -- the store grew; where it failed meanwhile there is a fault
  abbrev pub Loads : StoreState V → StoreState V → Option LoadFault → Type 0
  Loads s t fault = GrowsOnly s t × (fault ≡ None → t.failed ≡ s.failed)

  -- the same of a flusher
  abbrev pub Flushes : Flushed V → Flushed V → Option LoadFault → Type 0
  Flushes f g fault = IsShown f → Loads f.store g.store fault
