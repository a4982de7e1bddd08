-- Runs of events on a house: each step is one of the running system, what it does to the store and its device is told and each fault has its
-- cause, and whatever a crash leaves at any moment stands for what was published, or for it with the group that was in flight.
use Rattle.std.specs.Prelude.{◌≡◌, ◌⊎◌, ⊤, ℕ, ◌-◌, ◌^◌, ◌<◌, Bool, true, false, List, [], ◌∷◌, ◌++◌, length, take, replicate}
use Rattle.fw_disk.specs.Volume.{Image, View, LeavesOnly, Calm, Rose}
use Rattle.fw_entry.specs.Entry.{EntryValue}
use Rattle.fw_entry_bytes.specs.Forms.{IsOfForm}
use Rattle.fw_snapshot.specs.History.{History}
use Rattle.fw_snapshot.specs.Verdicts.{with_more}
use Rattle.fw_recover.specs.declared.fault.StoreFault.TheVariants as fault
use Rattle.fw_recover.specs.Stands.{StandsFor, StandsForEither}
use Rattle.fw_recover.specs.Store.{StoreState}
use Rattle.fw_recover.specs.Committing.{HasNoRoom, Committed, Lost}
use Rattle.fw_recover.specs.Checkpoints.{HasNoRoomFor, IsCheckpointed}
use Rattle.fw_group.specs.declared.event.Event.{Event}
use Rattle.fw_group.specs.declared.event.Event.TheVariants as on
use Rattle.fw_group.specs.declared.event.EventAnswer.{EventAnswer}
use Rattle.fw_group.specs.declared.event.EventAnswer.TheVariants as said
use Rattle.fw_group.specs.declared.event.House.{House}
use Rattle.fw_group.specs.declared.event.House.TheVariants as house
use Rattle.fw_group.specs.declared.run.Desk.{Desk}
use Rattle.fw_group.specs.Steps.{State, in_hand, Does}
use Rattle.fw_group.specs.Turns.{IsStopped, Stays}

-- The state of a house: of an open one its store's warehouse is what is published. What else is told is not in the house.
abbrev pub state_of : {V : Type 0} → House V → Desk → History → List EntryValue → Bool → List (List EntryValue) → State
state_of (house.Open store) d published group failed seen = record {
  waiting = d.inbox.waiting;
  hand = d.hand;
  published = store.history;
  group = group;
  failed = store.failed;
  stopped = false;
  seen = seen;
  importers = d.importers;
}
state_of (house.Stopped volume) d published group failed seen = record {
  waiting = d.inbox.waiting;
  hand = d.hand;
  published = published;
  group = group;
  failed = failed;
  stopped = true;
  seen = seen;
  importers = d.importers;
}

-- nothing waits and nothing is in hand
abbrev pub empty_desk : ℕ → ℕ → Desk
empty_desk importers analysts = record { inbox = record { waiting = []; closed = false }; hand = []; importers = importers; analysts = analysts }

-- A house before the first event: of an open one its store's warehouse is published, of a stopped one what its user says. Each analyst has
-- seen that.
abbrev pub start : {V : Type 0} → House V → History → List EntryValue → Bool → ℕ → ℕ → State
start (house.Open store) published group failed importers analysts = state_of (house.Open store) (empty_desk importers analysts) published group failed (replicate analysts store.history.entries)
start (house.Stopped volume) published group failed importers analysts = state_of (house.Stopped volume) (empty_desk importers analysts) published group failed (replicate analysts published.entries)

abbrev pub volume_of : {V : Type 0} → House V → V
volume_of (house.Open store) = store.volume
volume_of (house.Stopped volume) = volume

abbrev pub is_stopped : {V : Type 0} → House V → Bool
is_stopped (house.Open store) = false
is_stopped (house.Stopped volume) = true

-- while an event happens: an image stands for what is published, or for it with the group that may be stored. In a commit that writes it may
-- also stand for what is published with the accepted entries in hand
abbrev pub MayStand : State → Event → Image → Type 0
MayStand s on.Commit c = StandsForEither s.published s.group c ⊎ ((s.failed ≡ false) × StandsFor (with_more s.published (in_hand s)) c)
MayStand s event c = StandsForEither s.published s.group c

-- the house shows what the state says of it
abbrev pub Shows : {V : Type 0} → House V → State → Type 0
Shows (house.Open store) s = (s.stopped ≡ false) × (store.history ≡ s.published) × (store.failed ≡ s.failed)
Shows (house.Stopped volume) s = s.stopped ≡ true

module _ {V : Type 0} (view : V → View) where
  -- the house shows the state, and whatever a crash leaves stands for what is published, or for it with the group that may be stored
  pub record Stands (h : House V) (s : State) : Type 0 where
    pub shows : Shows h s
    pub each : (c : Image) → (view (volume_of h)).may_leave c → StandsForEither s.published s.group c

  -- at each moment of an event. A stop is the crash itself
  abbrev pub Between : House V → State → Event → House V → Type 0
  Between h s on.Stop m = ⊤
  Between h s event m = LeavesOnly (view (volume_of h)) (view (volume_of m)) (MayStand s event)

  -- the volume's count of failures rose between the two
  abbrev pub DeviceFailed : House V → House V → Type 0
  DeviceFailed h m = Rose (view (volume_of h)).failures (view (volume_of m)).failures

  -- A commit whose items were answered. Nothing happened where nothing was in hand, or the device had failed before. Else the form of the side in use
  -- has the accepted ones, and they are in the log; or there were accepted ones, and the device failed while they were written.
  pub record GroupLed (store : StoreState V) (s : State) (t : StoreState V) (u : State) : Type 0 where
    pub nothing : (s.hand ≡ []) ⊎ (s.failed ≡ true) → t ≡ store
    pub of_form : (s.hand ≡ [] → ⊥) → s.failed ≡ false → IsOfForm store.form (in_hand s)
    pub done : (s.hand ≡ [] → ⊥) → s.failed ≡ false → u.failed ≡ false → Committed true view store t (in_hand s)
    pub lost : s.failed ≡ false → u.failed ≡ true → (0 < length (in_hand s)) × DeviceFailed (house.Open store) (house.Open t) × Lost store t

  -- What an event did to the store and its device, and why it was answered so, where the states alone don't tell. A fault of the device comes only
  -- where the count of failures rose. `OldSide` comes only where the form of the side in use doesn't have an accepted entry in hand, and `TooLarge` only
  -- where there is no room: of a commit, only where the form has all accepted entries in hand. `Generations` comes only where there is no greater
  -- generation. What isn't listed changes nothing.
  abbrev pub Led : House V → State → Event → EventAnswer → House V → State → Type 0
  Led (house.Open store) s on.Commit (said.Committed answers) (house.Open t) u = GroupLed store s t u
  Led (house.Open store) s on.Commit (said.Failed fault.OldSide) (house.Open t) u = (IsOfForm store.form (in_hand s) → ⊥) × (t ≡ store)
  Led (house.Open store) s on.Commit (said.Failed fault.TooLarge) (house.Open t) u = IsOfForm store.form (in_hand s) × HasNoRoom (view store.volume).limit store (in_hand s) × (t ≡ store)
  Led (house.Open store) s on.Checkpoint said.Checkpointed (house.Open t) u = (store.generation ≡ 2 ^ 64 - 1 → ⊥) × IsCheckpointed true view store t
  Led (house.Open store) s on.Checkpoint (said.Failed fault.Generations) (house.Open t) u = (store.generation ≡ 2 ^ 64 - 1) × (t ≡ store)
  Led (house.Open store) s on.Checkpoint (said.Failed fault.TooLarge) (house.Open t) u =
      (store.generation ≡ 2 ^ 64 - 1 → ⊥) × HasNoRoomFor (view store.volume).limit store.history × (t ≡ store)
  Led (house.Open store) s on.Checkpoint (said.Failed fault.Device) (house.Open t) u =
      (store.generation ≡ 2 ^ 64 - 1 → ⊥) × DeviceFailed (house.Open store) (house.Open t) × (t ≡ record store { volume = t.volume; failed = true })
  Led (house.Open store) s on.Stop said.Stopped (house.Stopped w) u = IsStopped true view store.volume w
  Led (house.Stopped v) s on.Reopen (said.Reopened found) (house.Open t) u = StandsFor found (view v).seen × Calm (view v) (view t.volume)
  Led (house.Stopped v) s on.Reopen (said.Failed fault.Device) (house.Stopped w) u = DeviceFailed (house.Stopped v) (house.Stopped w) × Calm (view v) (view w)
  Led h s e a m u = m ≡ h

  -- The events lead from one house and state to others, and the answers from `before` to `after`, one for each event.
  abbrev pub Runs : House V → State → List EventAnswer → List Event → House V → State → List EventAnswer → Type 0
  Runs h s before [] k t after = (k ≡ h) × (t ≡ s) × (after ≡ before)
  Runs h s before (e ∷ es) k t after =
      (m : House V) × (u : State) × (a : EventAnswer) × Does s before e a u × Stands m u × Between h s e m × Led h s e a m u × Runs m u (before ++ a ∷ []) es k t after

  -- the events ran, and left this house: the one after the last event, and nothing was done to it since, but that a stopped volume which couldn't be
  -- opened may have been read and synced
  pub record HasRun (h : House V) (s : State) (es : List Event) (answers : List EventAnswer) (left : House V) : Type 0 where
    pub last : House V
    pub state : State
    pub run : Runs h s [] es last state answers
    pub rests : Stays true view last left
    pub stands : Stands left state
    pub since : Between last state on.Reopen left
