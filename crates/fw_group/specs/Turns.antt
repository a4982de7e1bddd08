-- What the code of each event does to an open store, to what waits and is in hand, and to a volume that was stopped.
use Rattle.std.specs.Prelude.{◌≡◌, ◌⊎◌, ⊤, ℕ, ◌+◌, ◌-◌, ◌^◌, ◌<◌, Bool, true, false, IsTrue, List, [], ◌∷◌, ◌++◌, length, take, drop, All, Option, Some, None, IsSome, slice_get}
use Rattle.fw_disk.specs.declared.volume.Side.{Side}
use Rattle.fw_disk.specs.Volume.{Image, View, LeavesOnly, Calm, Rose}
use Rattle.fw_entry.specs.Entry.{EntryValue}
use Rattle.fw_entry_bytes.specs.Forms.{IsOfForm}
use Rattle.fw_snapshot.specs.History.{History}
use Rattle.fw_snapshot.specs.Verdicts.{accepted_of, verdicts_on, with_more}
use Rattle.fw_recover.specs.declared.fault.StoreFault.{StoreFault}
use Rattle.fw_recover.specs.declared.fault.StoreFault.TheVariants as fault
use Rattle.fw_recover.specs.Stands.{StandsFor, StandsForNone, StandsForEither, EachStandsFor}
use Rattle.fw_recover.specs.Corrupt.{CorruptAt}
use Rattle.fw_recover.specs.Store.{StoreState}
use Rattle.fw_recover.specs.Committing.{prepared_on, HasNoRoom, Committed, Lost}
use Rattle.fw_recover.specs.Checkpoints.{HasNoRoomFor, IsCheckpointed}
use Rattle.fw_group.specs.declared.answer.Answer.{Answer}
use Rattle.fw_group.specs.declared.answer.Answer.TheVariants as answer
use Rattle.fw_group.specs.declared.event.Event.{Event}
use Rattle.fw_group.specs.declared.event.Event.TheVariants as on
use Rattle.fw_group.specs.declared.event.EventAnswer.{EventAnswer}
use Rattle.fw_group.specs.declared.event.EventAnswer.TheVariants as said
use Rattle.fw_group.specs.declared.event.House.{House}
use Rattle.fw_group.specs.declared.event.House.TheVariants as house
use Rattle.fw_group.specs.declared.inbox.Item.{Item}
use Rattle.fw_group.specs.declared.run.Desk.{Desk}
use Rattle.fw_group.specs.declared.run.Judged.{Judged}
use Rattle.fw_group.specs.Items.{entries_of, IsFree}
use Rattle.fw_group.specs.Limits.{Fits, IsLongest}
use Rattle.fw_group.specs.Answers.{answers_on, for_each}
use Rattle.fw_group.specs.Steps.{receipt_at}

-- ---- what waits and what is in hand

abbrev pub item_of : ℕ → EntryValue → Item
item_of importer entry = record { importer = importer; entry = entry }

-- there is such an importer, and no item of it waits or is in hand
abbrev pub MayPost : Desk → ℕ → Type 0
MayPost d importer = (importer < d.importers) × IsFree importer d.inbox.waiting × IsFree importer d.hand

abbrev pub Posts : Desk → ℕ → EntryValue → EventAnswer → Desk → Type 0
Posts d importer entry said.Posted e = MayPost d importer × (e ≡ record d { inbox = record d.inbox { waiting = d.inbox.waiting ++ item_of importer entry ∷ [] } })
Posts d importer entry said.Ignored e = (MayPost d importer → ⊥) × (e ≡ d)
Posts d importer entry a e = ⊥

abbrev pub Takes : Desk → EventAnswer → Desk → Type 0
Takes d (said.Took n) e =
    ((d.hand ≡ []) × IsLongest d.inbox.waiting n × (e ≡ record d { inbox = record d.inbox { waiting = drop n d.inbox.waiting }; hand = take n d.inbox.waiting }))
    ⊎ ((d.hand ≡ [] → ⊥) × (n ≡ 0) × (e ≡ d))
Takes d a e = ⊥

-- the inbox is open, and what is in hand can be a group
pub record IsDesk (d : Desk) : Type 0 where
  pub takes_items : d.inbox.closed ≡ false
  pub fits : Fits d.hand

-- ---- what is looked at

abbrev pub Views : History → ℕ → ℕ → EventAnswer → Type 0
Views h analysts analyst (said.Viewed found) = (analyst < analysts) × (found ≡ h)
Views h analysts analyst said.Ignored = (analyst < analysts) → ⊥
Views h analysts analyst a = ⊥

abbrev pub MayLearn : List EventAnswer → ℕ → ℕ → ℕ → ℕ → Type 0
MayLearn answers analysts analyst event place = (analyst < analysts) × IsSome (receipt_at (slice_get answers event) place)

abbrev pub Learns : List EventAnswer → ℕ → ℕ → ℕ → ℕ → EventAnswer → Type 0
Learns answers analysts analyst event place said.Learned = MayLearn answers analysts analyst event place
Learns answers analysts analyst event place said.Ignored = MayLearn answers analysts analyst event place → ⊥
Learns answers analysts analyst event place a = ⊥

-- ---- commits

-- the form of the side in use has the accepted ones of the items
abbrev pub AreOfForm : {V : Type 0} → StoreState V → List Item → Type 0
AreOfForm s items = IsOfForm s.form (accepted_of s.history.entries (entries_of items))

module _ {V : Type 0} (view : V → View) where
  -- a group that was judged: what is ready to be written, the warehouse with it, and a copy of this for each item
  pub record IsJudged (s : StoreState V) (items : List Item) (g : Judged) : Type 0 where
    pub went_on : s.failed ≡ false
    pub prepared : g.prepared ≡ prepared_on s.history (entries_of items)
    pub of_form : AreOfForm s items
    pub room : HasNoRoom (view s.volume).limit s (accepted_of s.history.entries (entries_of items)) → ⊥
    pub next : g.next ≡ with_more s.history (accepted_of s.history.entries (entries_of items))
    pub count : length g.fronts.items ≡ length items
    pub same : All (λ front. front ≡ g.next) g.fronts.items

  -- why a group wasn't judged
  abbrev pub IsRefused : StoreState V → List Item → StoreFault → Type 0
  IsRefused s items fault.Failed = s.failed ≡ true
  IsRefused s items fault.OldSide = (s.failed ≡ false) × (AreOfForm s items → ⊥)
  IsRefused s items fault.TooLarge = (s.failed ≡ false) × AreOfForm s items × HasNoRoom (view s.volume).limit s (accepted_of s.history.entries (entries_of items))
  IsRefused s items fault.NoMemory = s.failed ≡ false
  IsRefused s items fault = ⊥

module _ {V : Type 0} (tells : Bool) (view : V → View) where
  -- the accepted ones of the items are stored, and each item is answered by its verdict
  pub record IsDone (s : StoreState V) (items : List Item) (answers : List (Answer History)) (t : StoreState V) : Type 0 where
    pub of_form : AreOfForm s items
    pub committed : Committed tells view s t (accepted_of s.history.entries (entries_of items))
    pub moment : IsTrue tells → LeavesOnly (view s.volume) (view t.volume) (StandsForEither s.history (accepted_of s.history.entries (entries_of items)))
    pub answered : answers ≡ answers_on t.history s.history.entries (entries_of items)

  -- the device failed while they were written: they are stored or not, and no item knows
  pub record IsLost (s : StoreState V) (items : List Item) (answers : List (Answer History)) (t : StoreState V) : Type 0 where
    pub went_on : s.failed ≡ false
    pub of_form : AreOfForm s items
    pub lost : Lost s t
    pub some : 0 < length (accepted_of s.history.entries (entries_of items))
    pub cause : Rose (view s.volume).failures (view t.volume).failures
    pub moment : IsTrue tells → LeavesOnly (view s.volume) (view t.volume) (StandsForEither s.history (accepted_of s.history.entries (entries_of items)))
    pub answered : answers ≡ for_each answer.Unknown items

  abbrev pub Stores : StoreState V → List Item → List (Answer History) → StoreState V → Type 0
  Stores s items answers t = IsDone s items answers t ⊎ IsLost s items answers t

  -- the device had failed before
  pub record IsShut (s : StoreState V) (items : List Item) (answers : List (Answer History)) (t : StoreState V) : Type 0 where
    pub had_failed : s.failed ≡ true
    pub same : t ≡ s
    pub answered : answers ≡ for_each answer.Closed items

  abbrev pub Commits : StoreState V → List Item → EventAnswer → StoreState V → List Item → Type 0
  Commits s items (said.Committed answers) t rest =
      (rest ≡ []) × (((items ≡ []) × (answers.items ≡ []) × (t ≡ s)) ⊎ ((items ≡ [] → ⊥) × (Stores s items answers.items t ⊎ IsShut s items answers.items t)))
  Commits s items (said.Failed fault.OldSide) t rest = (items ≡ [] → ⊥) × (s.failed ≡ false) × (AreOfForm s items → ⊥) × (t ≡ s) × (rest ≡ items)
  Commits s items (said.Failed fault.TooLarge) t rest =
      (items ≡ [] → ⊥) × (s.failed ≡ false) × AreOfForm s items × HasNoRoom (view s.volume).limit s (accepted_of s.history.entries (entries_of items)) × (t ≡ s) × (rest ≡ items)
  Commits s items a t rest = ⊥

  -- ---- checkpoints

  -- at each moment each image stands for the warehouse
  pub record IsCalledOn (s t : StoreState V) : Type 0 where
    pub moment : IsTrue tells → LeavesOnly (view s.volume) (view t.volume) (StandsFor s.history)
    pub each : IsTrue tells → EachStandsFor s.history (view t.volume)

  abbrev pub Checkpoints : StoreState V → EventAnswer → StoreState V → Type 0
  Checkpoints s said.Checkpointed t = (s.failed ≡ false) × IsCheckpointed tells view s t × (t.history ≡ s.history) × IsCalledOn s t × (s.generation ≡ 2 ^ 64 - 1 → ⊥)
  Checkpoints s (said.Failed fault.Device) t = (s.failed ≡ false) × (t ≡ record s { volume = t.volume; failed = true }) × Rose (view s.volume).failures (view t.volume).failures × IsCalledOn s t × (s.generation ≡ 2 ^ 64 - 1 → ⊥)
  Checkpoints s (said.Failed fault.Failed) t = (s.failed ≡ true) × (t ≡ s)
  Checkpoints s (said.Failed fault.Generations) t = (s.failed ≡ false) × (s.generation ≡ 2 ^ 64 - 1) × (t ≡ s)
  Checkpoints s (said.Failed fault.TooLarge) t = (s.failed ≡ false) × HasNoRoomFor (view s.volume).limit s.history × (t ≡ s) × (s.generation ≡ 2 ^ 64 - 1 → ⊥)
  Checkpoints s a t = ⊥

  -- ---- stops, and the way back

  abbrev pub Reopens : V → EventAnswer → House V → Type 0
  Reopens v (said.Reopened found) (house.Open t) =
      (t.failed ≡ false) × (found ≡ t.history)
      × (IsTrue tells → StandsFor t.history (view v).seen) × (IsTrue tells → Calm (view v) (view t.volume)) × (IsTrue tells → EachStandsFor t.history (view t.volume))
  Reopens v (said.Failed fault.NoHouse) (house.Stopped w) = (IsTrue tells → StandsForNone (view v).seen) × (IsTrue tells → Calm (view v) (view w))
  Reopens v (said.Failed (fault.Corrupt side at)) (house.Stopped w) = (IsTrue tells → CorruptAt (view v).seen side at) × (IsTrue tells → Calm (view v) (view w))
  Reopens v (said.Failed fault.Device) (house.Stopped w) = Rose (view v).failures (view w).failures × (IsTrue tells → Calm (view v) (view w))
  Reopens v a h = ⊥

  -- nothing changes, but that a volume which couldn't be opened may have been read and synced
  abbrev pub Stays : House V → House V → Type 0
  Stays (house.Open s) (house.Open t) = t ≡ s
  Stays (house.Stopped v) (house.Stopped w) = (w ≡ v) ⊎ (IsTrue tells → Calm (view v) (view w))
  Stays (house.Open s) (house.Stopped w) = ⊥
  Stays (house.Stopped v) (house.Open t) = ⊥

  -- the volume was stopped: it reads as one of the images that a crash could leave
  pub record IsStopped (v w : V) : Type 0 where
    pub image : IsTrue tells → (view v).may_leave (view w).seen
    pub settled : IsTrue tells → (c : Image) → (view w).may_leave c → (side : Side) → c side ≡ (view w).seen side

  -- ---- events

  abbrev pub WhileOpen : StoreState V → Desk → List EventAnswer → Event → EventAnswer → StoreState V → Desk → Type 0
  WhileOpen s d answers (on.Post importer entry) a t e = Posts d importer entry a e × (t ≡ s)
  WhileOpen s d answers on.Take a t e = Takes d a e × (t ≡ s)
  WhileOpen s d answers on.Commit a t e = Commits s d.hand a t e.hand × (e ≡ record d { hand = e.hand })
  WhileOpen s d answers on.Checkpoint a t e = Checkpoints s a t × (e ≡ d)
  WhileOpen s d answers (on.View analyst) a t e = Views s.history d.analysts analyst a × (t ≡ s) × (e ≡ d)
  WhileOpen s d answers (on.Learn analyst event place) a t e = Learns answers d.analysts analyst event place a × (t ≡ s) × (e ≡ d)
  WhileOpen s d answers on.Stop a t e = (a ≡ said.Ignored) × (t ≡ s) × (e ≡ d)
  WhileOpen s d answers on.Reopen a t e = (a ≡ said.Ignored) × (t ≡ s) × (e ≡ d)

  abbrev pub Acts : House V → Desk → List EventAnswer → Event → EventAnswer → House V → Desk → Type 0
  Acts (house.Open s) d answers on.Stop a (house.Stopped w) e = (a ≡ said.Stopped) × IsStopped s.volume w × (e ≡ record d { inbox = record { waiting = []; closed = false }; hand = [] })
  Acts (house.Open s) d answers on.Stop a (house.Open t) e = ⊥
  Acts (house.Open s) d answers event a (house.Open t) e = WhileOpen s d answers event a t e
  Acts (house.Open s) d answers event a (house.Stopped w) e = ⊥
  Acts (house.Stopped v) d answers on.Reopen a h e = Reopens v a h × (e ≡ d)
  Acts (house.Stopped v) d answers event a (house.Stopped w) e = (a ≡ said.Ignored) × (w ≡ v) × (e ≡ d)
  Acts (house.Stopped v) d answers event a (house.Open t) e = ⊥
