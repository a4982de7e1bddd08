-- What a flusher has, and what its commits do.
use Rattle.std.specs.Prelude.{◌≡◌, ◌⊎◌, ◌↔◌, ◌-◌, ◌^◌, ℕ, ◌≤◌, ◌<◌, Bool, true, false, IsErrOf, IsTrue, List, [], OnErr, OnOk, length, Option, Result, Some, None}
use Rattle.std.specs.Vec.{vec_capacity}
use Rattle.fw_disk.specs.declared.volume.Side.{Side}
use Rattle.fw_disk.specs.Volume.{View, LeavesOnly, Rose}
use Rattle.fw_entry.specs.Entry.{EntryValue}
use Rattle.fw_snapshot.specs.History.{History}
use Rattle.fw_snapshot.specs.Verdicts.{accepted_of, with_more}
use Rattle.fw_recover.specs.Checkpoints.{HasNoRoomFor, IsCheckpointed}
use Rattle.fw_recover.specs.Stands.{EachStandsFor, StandsFor, StandsForEither}
use Rattle.fw_recover.specs.Store.{StoreState}
use Rattle.fw_recover.specs.Committing.{HasNoRoom, Committed, Lost}
use Rattle.fw_recover.specs.declared.fault.StoreFault.{StoreFault}
use Rattle.fw_recover.specs.declared.fault.StoreFault.TheVariants as fault
use Rattle.fw_group.specs.declared.inbox.Item.{Item}
use Rattle.fw_group.specs.Items.{entries_of}
use Rattle.fw_group.specs.Turns.{AreOfForm, IsJudged}
use Rattle.fw_threads.specs.declared.flusher.Taken.{Taken}
use Rattle.fw_threads.specs.declared.flusher.Taken.TheVariants.{Took, Over}
use Rattle.fw_threads.specs.declared.publisher.CommitFault.{CommitFault}
use Rattle.fw_threads.specs.declared.publisher.CommitFault.TheVariants as commit
use Rattle.fw_threads.specs.declared.publisher.Ready.{Ready}

-- how many importers and analysts a store can be taken apart into
abbrev pub AreCounts : ℕ → ℕ → Type 0
AreCounts importers analysts = (0 < importers) × (importers ≤ 64) × (0 < analysts) × (analysts ≤ 64)

-- a store, what readers take of it, and whether a group was stored and could not be published
pub record PublisherState (V : Type 0) : Type 0 where
  pub published : History
  pub store : StoreState V
  pub unpublished : Bool

-- the same, and what is in hand
pub record Flushed (V : Type 0) : Type 0 where
  pub published : History
  pub store : StoreState V
  pub unpublished : Bool
  pub hand : List Item

abbrev pub state_of : {V : Type 0} → Flushed V → PublisherState V
state_of f = record { published = f.published; store = f.store; unpublished = f.unpublished }

-- what is added to a warehouse where these items are committed
abbrev pub group_on : History → List Item → List EntryValue
group_on h items = accepted_of h.entries (entries_of items)

-- what a take moved into the hand
abbrev pub IsTaken : List Item → Taken → List Item → Type 0
IsTaken before (Took n) after = ((before ≡ []) × (length after ≡ n)) ⊎ ((before ≡ [] → ⊥) × (n ≡ 0) × (after ≡ before))
IsTaken before Over after = (before ≡ []) × (after ≡ [])

-- what is in hand after a commit that failed: where the form of the side in use doesn't have the group, or there is no room for it, the group stays; else
-- each item was answered
abbrev pub StaysInHand : CommitFault → List Item → List Item → Type 0
StaysInHand (commit.Store fault.OldSide) before after = after ≡ before
StaysInHand (commit.Store fault.TooLarge) before after = after ≡ before
StaysInHand why before after = after ≡ []

-- the fault by which each item in hand is answered where a commit failed so: all are answered `Unknown` where the device failed in it or the stored group
-- could not be published, `Closed` where the store had failed before, and that memory ran out; or none is answered, and they stay in hand
abbrev pub answered_by : CommitFault → Option StoreFault
answered_by (commit.Store fault.OldSide) = None
answered_by (commit.Store fault.TooLarge) = None
answered_by (commit.Store fault.Device) = Some fault.Device
answered_by (commit.Store fault.Failed) = Some fault.Failed
answered_by (commit.Store why) = Some fault.NoMemory
answered_by commit.Unpublished = Some fault.Device

-- the inbox is closed where a commit, or a checkpoint, failed so
abbrev pub closes_inbox : CommitFault → Bool
closes_inbox (commit.Store fault.Device) = true
closes_inbox (commit.Store why) = false
closes_inbox commit.Unpublished = true

module _ {V : Type 0} (view : V → View) where
  -- a group that was judged, with a snapshot to publish, and room for fronts and answers
  pub record IsReady {J : Type 0} (s : StoreState V) (items : List Item) (r : Ready J) : Type 0 where
    pub judged : IsJudged view s items r.group
    pub page : r.page ≡ with_more s.history (group_on s.history items)
    pub fronts : (r.fronts.items ≡ []) × (length items ≤ vec_capacity r.fronts)
    pub answers : (r.answers.items ≡ []) × (length items ≤ vec_capacity r.answers)

module _ {V : Type 0} (tells : Bool) (view : V → View) where
  -- at each moment a crash leaves the warehouse as it was, or with the whole group
  abbrev pub IsWhole : StoreState V → List Item → StoreState V → Type 0
  IsWhole s items t = IsTrue tells → LeavesOnly (view s.volume) (view t.volume) (StandsForEither s.history (group_on s.history items))

  -- what became of the store where a group that was judged wasn't published
  abbrev pub FailsBetween : StoreState V → List Item → CommitFault → StoreState V → Type 0
  FailsBetween s items (commit.Store fault.Device) t = Lost s t × Rose (view s.volume).failures (view t.volume).failures × (0 < length (group_on s.history items))
  FailsBetween s items (commit.Store fault.NoMemory) t = t ≡ s
  FailsBetween s items commit.Unpublished t = Committed tells view s t (group_on s.history items)
  FailsBetween s items fault t = ⊥

  -- the group is stored and published
  pub record Publishes (p : PublisherState V) (items : List Item) (accepted : ℕ) (q : PublisherState V) : Type 0 where
    pub went_on : p.unpublished ≡ false
    pub of_form : AreOfForm p.store items
    pub committed : Committed tells view p.store q.store (group_on p.published items)
    pub moment : IsTrue tells → LeavesOnly (view p.store.volume) (view q.store.volume) (StandsForEither p.published (group_on p.published items))
    pub published : q.published ≡ with_more p.published (group_on p.published items)
    pub count : accepted ≡ length (group_on p.published items)
    pub goes_on : q.unpublished ≡ false

  -- Nothing is published, and why: the store failed in the call; or it had failed before, or a group was stored and couldn't be published, which is looked at first; the form of the side in use doesn't have an accepted one of the items; it
  -- has them all, and there is no room for the group; memory ran out; or the group is stored and could not be published.
  abbrev pub Fails : PublisherState V → List Item → CommitFault → PublisherState V → Type 0
  Fails p items (commit.Store fault.Device) q =
      (p.unpublished ≡ false) × (q ≡ record p { store = q.store }) × Lost p.store q.store × Rose (view p.store.volume).failures (view q.store.volume).failures
      × (0 < length (group_on p.published items)) × AreOfForm p.store items × IsWhole p.store items q.store × (p.store.failed ≡ false)
  Fails p items (commit.Store fault.Failed) q = ((p.store.failed ≡ true) ⊎ (p.unpublished ≡ true)) × (q ≡ p)
  Fails p items (commit.Store fault.OldSide) q = (p.store.failed ≡ false) × (p.unpublished ≡ false) × (AreOfForm p.store items → ⊥) × (q ≡ p)
  Fails p items (commit.Store fault.TooLarge) q =
      (p.store.failed ≡ false) × (p.unpublished ≡ false) × AreOfForm p.store items
      × HasNoRoom (view p.store.volume).limit p.store (group_on p.store.history items) × (q ≡ p)
  Fails p items (commit.Store fault.NoMemory) q = (p.store.failed ≡ false) × (p.unpublished ≡ false) × (q ≡ p)
  Fails p items commit.Unpublished q =
      (p.unpublished ≡ false) × (q ≡ record p { store = q.store; unpublished = true }) × Committed tells view p.store q.store (group_on p.published items)
      × AreOfForm p.store items × IsWhole p.store items q.store
  Fails p items fault q = ⊥

  -- A commit that was answered a number. Nothing happened where nothing was in hand.
  abbrev pub Commits : Flushed V → ℕ → Flushed V → Type 0
  Commits f n g = ((f.hand ≡ []) × (n ≡ 0) × (g ≡ f)) ⊎ ((f.hand ≡ [] → ⊥) × Publishes (state_of f) f.hand n (state_of g) × (g.hand ≡ []))

  -- a commit that failed
  abbrev pub CommitFails : Flushed V → CommitFault → Flushed V → Type 0
  CommitFails f why g = (f.hand ≡ [] → ⊥) × Fails (state_of f) f.hand why (state_of g) × StaysInHand why f.hand g.hand

  -- A checkpoint of the store that was answered so, where `unpublished` says that a group was stored and couldn't be published. It keeps the warehouse, at each
  -- moment. A failed store, or such a group, is looked at first; then whether there is a greater generation, and whether there is room. But for a failed
  -- device a fault changes nothing.
  pub record Checkpoints (unpublished : Bool) (result : Result (Unit {0}) StoreFault) (s t : StoreState V) : Type 0 where
    pub done : OnOk result (IsCheckpointed tells view s t)
    pub history : t.history ≡ s.history
    pub unchanged : OnErr result (IsErrOf result fault.Device ⊎ (t ≡ s))
    pub any_moment : IsTrue tells → s.failed ≡ false → unpublished ≡ false → LeavesOnly (view s.volume) (view t.volume) (StandsFor s.history)
    pub each : IsTrue tells → s.failed ≡ false → unpublished ≡ false → EachStandsFor s.history (view t.volume)
    pub failed : IsErrOf result fault.Failed ↔ ((s.failed ≡ true) ⊎ (unpublished ≡ true))
    pub generations : IsErrOf result fault.Generations ↔ ((unpublished ≡ false) × (s.failed ≡ false) × (s.generation ≡ 2 ^ 64 - 1))
    pub too_large : IsErrOf result fault.TooLarge → HasNoRoomFor (view s.volume).limit s.history
    pub not_no_house : IsErrOf result fault.NoHouse → ⊥
    pub not_corrupt : (side : Side) (at : ℕ) → IsErrOf result (fault.Corrupt side at) → ⊥
    pub not_exists : IsErrOf result fault.Exists → ⊥
    pub not_old_side : IsErrOf result fault.OldSide → ⊥
    pub device : IsErrOf result fault.Device
        → (t ≡ record s { volume = t.volume; failed = true }) × Rose (view s.volume).failures (view t.volume).failures
    pub later : (view s.volume).failures ≤ (view t.volume).failures
    pub limit : (view t.volume).limit ≡ (view s.volume).limit
