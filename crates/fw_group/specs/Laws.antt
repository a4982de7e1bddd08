-- What runs of events show of the entries that they accepted.
use Rattle.std.specs.Prelude.{◌≡◌, ◌<◌, ℕ, ◌-◌, List, Option, Some, None, slice_get}
use Rattle.fw_entry.specs.Entry.{EntryValue}
use Rattle.fw_snapshot.specs.History.{History}
use Rattle.fw_snapshot.specs.Verdicts.{with_more}
use Rattle.fw_group.specs.declared.answer.Receipt.{Receipt}
use Rattle.fw_group.specs.declared.event.Event.{Event}
use Rattle.fw_group.specs.declared.event.Event.TheVariants as on
use Rattle.fw_group.specs.declared.event.EventAnswer.{EventAnswer}
use Rattle.fw_group.specs.declared.event.EventAnswer.TheVariants as said
use Rattle.fw_group.specs.Items.{entries_of}
use Rattle.fw_group.specs.Steps.{State}

-- the one has the entries of the other, and perhaps more behind them
abbrev pub Begins : History → History → Type 0
Begins h k = (more : List EntryValue) × (k ≡ with_more h more)

-- the list that an event showed, if it did
abbrev pub shown_in : Option EventAnswer → Option History
shown_in (Some (said.Viewed found)) = Some found
shown_in (Some (said.Reopened found)) = Some found
shown_in a = None

-- an event before the one at a place posted this entry, and was answered so
abbrev pub WasPosted : List Event → List EventAnswer → ℕ → EntryValue → Type 0
WasPosted events answers place e =
    (earlier : ℕ) × (importer : ℕ) × (earlier < place) × (slice_get events earlier ≡ Some (on.Post importer e)) × (slice_get answers earlier ≡ Some said.Posted)

-- this list begins with the front of a receipt that the event at a place answered, and at the receipt's number stands an entry that was posted before
abbrev pub IsShown : List Event → List EventAnswer → ℕ → Receipt History → History → Type 0
IsShown events answers place r list = Begins r.front list × ((e : EntryValue) × (slice_get r.front.entries (r.number - 1) ≡ Some e) × WasPosted events answers place e)

-- the receipt is that of the item at a place in hand: its front is what is published then, and has the item's entry at the receipt's number
abbrev pub IsAccepted : State → ℕ → Receipt History → State → Type 0
IsAccepted s place r t = (r.front ≡ t.published) × ((e : EntryValue) × (slice_get (entries_of s.hand) place ≡ Some e) × (slice_get r.front.entries (r.number - 1) ≡ Some e))
