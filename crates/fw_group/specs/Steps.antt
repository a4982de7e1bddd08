-- The running system as a relation: what each event answers, and what it leaves. When a fault comes is the volume's choice, and so is
-- what a stop leaves of a group whose answer was Unknown.
use Rattle.std.specs.Prelude.{◌≡◌, ◌⊎◌, ℕ, ◌+◌, ◌<◌, Bool, true, false, if◌then◌else◌, List, [], ◌∷◌, ◌++◌, length, take, drop, nat_lt, get_or, Option, Some, None, slice_get, slice_set}
use Rattle.fw_entry.specs.Entry.{EntryValue}
use Rattle.fw_snapshot.specs.History.{History}
use Rattle.fw_snapshot.specs.Verdicts.{accepted_of, with_more}
use Rattle.fw_recover.specs.declared.fault.StoreFault.TheVariants as fault
use Rattle.fw_group.specs.declared.answer.Answer.{Answer}
use Rattle.fw_group.specs.declared.answer.Answer.TheVariants as answer
use Rattle.fw_group.specs.declared.answer.Receipt.{Receipt}
use Rattle.fw_group.specs.declared.event.Event.{Event}
use Rattle.fw_group.specs.declared.event.Event.TheVariants as on
use Rattle.fw_group.specs.declared.event.EventAnswer.{EventAnswer}
use Rattle.fw_group.specs.declared.event.EventAnswer.TheVariants as said
use Rattle.fw_group.specs.declared.inbox.Item.{Item}
use Rattle.fw_group.specs.Items.{entries_of, IsFree}
use Rattle.fw_group.specs.Limits.{IsLongest}
use Rattle.fw_group.specs.Answers.{answers_on, for_each}

pub record State : Type 0 where
  -- what was posted, and not yet taken
  pub waiting : List Item
  -- what was taken, and not yet answered
  pub hand : List Item
  -- what analysts see
  pub published : History
  -- entries that may be stored behind it
  pub group : List EntryValue
  -- whether the device has failed in a call that writes
  pub failed : Bool
  pub stopped : Bool
  -- the longest list that each analyst has viewed or learned
  pub seen : List (List EntryValue)
  pub importers : ℕ

-- the entries of what is in hand that are accepted behind the published ones
abbrev pub in_hand : State → List EntryValue
in_hand s = accepted_of s.published.entries (entries_of s.hand)

-- ---- posts

pub record MayPost (s : State) (importer : ℕ) : Type 0 where
  pub runs : s.stopped ≡ false
  pub one_of_them : importer < s.importers
  pub none_waits : IsFree importer s.waiting
  pub none_in_hand : IsFree importer s.hand

abbrev pub Posts : State → Item → EventAnswer → State → Type 0
Posts s item said.Posted t = MayPost s item.importer × (t ≡ record s { waiting = s.waiting ++ item ∷ [] })
Posts s item said.Ignored t = (MayPost s item.importer → ⊥) × (t ≡ s)
Posts s item a t = ⊥

-- ---- takes

abbrev pub Takes : State → EventAnswer → State → Type 0
Takes s (said.Took n) t =
    (s.stopped ≡ false)
    × (((s.hand ≡ []) × IsLongest s.waiting n × (t ≡ record s { waiting = drop n s.waiting; hand = take n s.waiting }))
    ⊎ ((s.hand ≡ [] → ⊥) × (n ≡ 0) × (t ≡ s)))
Takes s said.Ignored t = (s.stopped ≡ true) × (t ≡ s)
Takes s a t = ⊥

-- ---- commits

-- nothing is in hand
abbrev pub Nothing : State → List (Answer History) → State → Type 0
Nothing s answers t = (s.hand ≡ []) × (answers ≡ []) × (t ≡ s)

-- the accepted ones are published, and each item is answered by its verdict behind the published ones and the accepted ones before it
abbrev pub Done : State → List (Answer History) → State → Type 0
Done s answers t =
    (s.failed ≡ false) × (answers ≡ answers_on (with_more s.published (in_hand s)) s.published.entries (entries_of s.hand))
    × (t ≡ record s { published = with_more s.published (in_hand s); hand = [] })

-- the accepted ones may be stored, and no item knows
abbrev pub Lost : State → List (Answer History) → State → Type 0
Lost s answers t = (s.failed ≡ false) × (answers ≡ for_each answer.Unknown s.hand) × (t ≡ record s { group = in_hand s; failed = true; hand = [] })

-- nothing is stored
abbrev pub Shut : State → List (Answer History) → State → Type 0
Shut s answers t = (s.failed ≡ true) × (answers ≡ for_each answer.Closed s.hand) × (t ≡ record s { hand = [] })

abbrev pub Commits : State → EventAnswer → State → Type 0
Commits s (said.Committed answers) t =
    (s.stopped ≡ false) × (Nothing s answers.items t ⊎ ((s.hand ≡ [] → ⊥) × (Done s answers.items t ⊎ (Lost s answers.items t ⊎ Shut s answers.items t))))
Commits s (said.Failed fault.OldSide) t = (s.stopped ≡ false) × (s.hand ≡ [] → ⊥) × (s.failed ≡ false) × (t ≡ s)
Commits s (said.Failed fault.TooLarge) t = (s.stopped ≡ false) × (s.hand ≡ [] → ⊥) × (s.failed ≡ false) × (t ≡ s)
Commits s said.Ignored t = (s.stopped ≡ true) × (t ≡ s)
Commits s a t = ⊥

-- ---- checkpoints

abbrev pub Checkpoints : State → EventAnswer → State → Type 0
Checkpoints s said.Checkpointed t = (s.stopped ≡ false) × (s.failed ≡ false) × (t ≡ s)
Checkpoints s (said.Failed fault.Device) t = (s.stopped ≡ false) × (s.failed ≡ false) × (t ≡ record s { failed = true })
Checkpoints s (said.Failed fault.Failed) t = (s.stopped ≡ false) × (s.failed ≡ true) × (t ≡ s)
Checkpoints s (said.Failed fault.Generations) t = (s.stopped ≡ false) × (s.failed ≡ false) × (t ≡ s)
Checkpoints s (said.Failed fault.TooLarge) t = (s.stopped ≡ false) × (s.failed ≡ false) × (t ≡ s)
Checkpoints s said.Ignored t = (s.stopped ≡ true) × (t ≡ s)
Checkpoints s a t = ⊥

-- ---- analysts

abbrev pub MayView : State → ℕ → Type 0
MayView s analyst = (s.stopped ≡ false) × (analyst < length s.seen)

abbrev pub Views : State → ℕ → EventAnswer → State → Type 0
Views s analyst (said.Viewed found) t = MayView s analyst × (found ≡ s.published) × (t ≡ record s { seen = slice_set s.seen analyst s.published.entries })
Views s analyst said.Ignored t = (MayView s analyst → ⊥) × (t ≡ s)
Views s analyst a t = ⊥

-- the receipt of an answer, if it has one
abbrev pub receipt_in : Option (Answer History) → Option (Receipt History)
receipt_in (Some (answer.Accepted receipt)) = Some receipt
receipt_in a = None

-- the receipt at a place of what an event answered, if there is one
abbrev pub receipt_at : Option EventAnswer → ℕ → Option (Receipt History)
receipt_at (Some (said.Committed answers)) place = receipt_in (slice_get answers.items place)
receipt_at a place = None

abbrev pub longer : List EntryValue → List EntryValue → List EntryValue
longer one other = if nat_lt (length one) (length other) then other else one

-- the analyst was told of this receipt
pub record IsTold (s : State) (answers : List EventAnswer) (analyst event place : ℕ) : Type 0 where
  pub may : MayView s analyst
  pub receipt : Receipt History
  pub is : receipt_at (slice_get answers event) place ≡ Some receipt

abbrev pub Learns : State → List EventAnswer → ℕ → ℕ → ℕ → EventAnswer → State → Type 0
Learns s answers analyst event place said.Learned t =
    (told : IsTold s answers analyst event place) × (t ≡ record s { seen = slice_set s.seen analyst (longer (get_or s.seen analyst []) told.receipt.front.entries) })
Learns s answers analyst event place said.Ignored t = (IsTold s answers analyst event place → ⊥) × (t ≡ s)
Learns s answers analyst event place a t = ⊥

-- ---- stops, and the way back

abbrev pub Stops : State → EventAnswer → State → Type 0
Stops s said.Stopped t = (s.stopped ≡ false) × (t ≡ record s { waiting = []; hand = []; stopped = true })
Stops s said.Ignored t = (s.stopped ≡ true) × (t ≡ s)
Stops s a t = ⊥

-- what was published is found, or it with the group that may be stored
abbrev pub Reopens : State → EventAnswer → State → Type 0
Reopens s (said.Reopened found) t =
    (s.stopped ≡ true) × ((found ≡ s.published) ⊎ (found ≡ with_more s.published s.group)) × (t ≡ record s { published = found; group = []; failed = false; stopped = false })
Reopens s (said.Failed fault.Device) t = (s.stopped ≡ true) × (t ≡ s)
Reopens s said.Ignored t = (s.stopped ≡ false) × (t ≡ s)
Reopens s a t = ⊥

-- ---- events

-- what an event answers in a state, after these answers, and the state that it leaves
abbrev pub Does : State → List EventAnswer → Event → EventAnswer → State → Type 0
Does s answers (on.Post importer entry) a t = Posts s (record { importer = importer; entry = entry }) a t
Does s answers on.Take a t = Takes s a t
Does s answers on.Commit a t = Commits s a t
Does s answers on.Checkpoint a t = Checkpoints s a t
Does s answers (on.View analyst) a t = Views s analyst a t
Does s answers (on.Learn analyst event place) a t = Learns s answers analyst event place a t
Does s answers on.Stop a t = Stops s a t
Does s answers on.Reopen a t = Reopens s a t
