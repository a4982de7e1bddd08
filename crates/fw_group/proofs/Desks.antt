-- What the code of an event keeps of what waits and is in hand.
use Rattle.std.specs.Prelude.{Result, Ok, Err, OnOk, OnErr}
use Rattle.std.proofs.Common.{◌≡◌, ◌⊎◌, inl, inr, ℕ, ◌+◌, zero, suc, ◌≤◌, Bool, true, false, List, [], ◌∷◌, ◌++◌, length, take, drop, refl, sym, ap, subst, ◌∙◌, arith}
use Rattle.fw_disk.specs.Volume.{View}
use Rattle.fw_entry.specs.Entry.{EntryValue}
use Rattle.fw_recover.specs.declared.fault.StoreFault.TheVariants as fault
use Rattle.fw_recover.specs.Store.{StoreState}
use Rattle.fw_group.specs.declared.event.Event.{Event}
use Rattle.fw_group.specs.declared.event.Event.TheVariants as on
use Rattle.fw_group.specs.declared.event.EventAnswer.{EventAnswer}
use Rattle.fw_group.specs.declared.event.EventAnswer.TheVariants as said
use Rattle.fw_group.specs.declared.event.House.{House}
use Rattle.fw_group.specs.declared.event.House.TheVariants as house
use Rattle.fw_group.specs.declared.inbox.Item.{Item}
use Rattle.fw_group.specs.declared.run.Desk.{Desk}
use Rattle.fw_group.specs.Limits.{Fits}
use Rattle.fw_group.specs.Turns.{IsDesk, Acts, Posts, Takes, Commits}
use Rattle.fw_group.proofs.Items.{group_none}

pub none_fit : Fits []
none_fit = (omega arith, omega (arith, group_none))

pub desk_posts : (d : Desk) (importer : ℕ) (entry : EntryValue) (a : EventAnswer) (e : Desk) → IsDesk d → Posts d importer entry a e → IsDesk e
desk_posts d importer entry said.Posted e was h = subst IsDesk (sym h.1) (record { takes_items = was.takes_items; fits = was.fits })
desk_posts d importer entry said.Ignored e was h = subst IsDesk (sym h.1) was
desk_posts d importer entry (said.Took n) e was h = absurd h
desk_posts d importer entry (said.Committed answered) e was h = absurd h
desk_posts d importer entry said.Checkpointed e was h = absurd h
desk_posts d importer entry (said.Failed fault) e was h = absurd h
desk_posts d importer entry (said.Viewed found) e was h = absurd h
desk_posts d importer entry said.Learned e was h = absurd h
desk_posts d importer entry said.Stopped e was h = absurd h
desk_posts d importer entry (said.Reopened found) e was h = absurd h

pub desk_takes : (d : Desk) (a : EventAnswer) (e : Desk) → IsDesk d → Takes d a e → IsDesk e
desk_takes d (said.Took n) e was (inl h) = subst IsDesk (sym h.2) (record { takes_items = was.takes_items; fits = h.1.fits })
desk_takes d (said.Took n) e was (inr h) = subst IsDesk (sym h.2) was
desk_takes d said.Posted e was h = absurd h
desk_takes d (said.Committed answered) e was h = absurd h
desk_takes d said.Checkpointed e was h = absurd h
desk_takes d (said.Failed fault) e was h = absurd h
desk_takes d (said.Viewed found) e was h = absurd h
desk_takes d said.Learned e was h = absurd h
desk_takes d said.Stopped e was h = absurd h
desk_takes d (said.Reopened found) e was h = absurd h
desk_takes d said.Ignored e was h = absurd h

module _ {V : Type 0} (tells : Bool) (view : V → View) where
  hand_commits : (s : StoreState V) (items : List Item) (a : EventAnswer) (t : StoreState V) (rest : List Item) → Fits items → Commits tells view s items a t rest → Fits rest
  hand_commits s items (said.Committed answers) t rest was h = subst Fits (sym h.0) none_fit
  hand_commits s items (said.Failed fault.OldSide) t rest was h = subst Fits (sym h.4) was
  hand_commits s items (said.Failed fault.TooLarge) t rest was h = subst Fits (sym h.5) was
  hand_commits s items said.Posted t rest was h = absurd h
  hand_commits s items (said.Took n) t rest was h = absurd h
  hand_commits s items said.Checkpointed t rest was h = absurd h
  hand_commits s items (said.Viewed found) t rest was h = absurd h
  hand_commits s items said.Learned t rest was h = absurd h
  hand_commits s items said.Stopped t rest was h = absurd h
  hand_commits s items (said.Reopened found) t rest was h = absurd h
  hand_commits s items said.Ignored t rest was h = absurd h
  hand_commits s items (said.Failed fault.NoHouse) t rest was h = absurd h
  hand_commits s items (said.Failed (fault.Corrupt side at)) t rest was h = absurd h
  hand_commits s items (said.Failed fault.Device) t rest was h = absurd h
  hand_commits s items (said.Failed fault.Failed) t rest was h = absurd h
  hand_commits s items (said.Failed fault.Generations) t rest was h = absurd h
  hand_commits s items (said.Failed fault.Exists) t rest was h = absurd h
  hand_commits s items (said.Failed fault.NoMemory) t rest was h = absurd h

  pub desk_acts : (h : House V) (d : Desk) (answers : List EventAnswer) (event : Event) (a : EventAnswer) (k : House V) (e : Desk) → IsDesk d → Acts tells view h d answers event a k e → IsDesk e
  desk_acts (house.Open s) d answers (on.Post importer entry) a (house.Open t) e was h = desk_posts d importer entry a e was h.0
  desk_acts (house.Open s) d answers on.Take a (house.Open t) e was h = desk_takes d a e was h.0
  desk_acts (house.Open s) d answers on.Commit a (house.Open t) e was h =
      subst IsDesk (sym h.1) (record { takes_items = was.takes_items; fits = hand_commits s d.hand a t e.hand was.fits h.0 })
  desk_acts (house.Open s) d answers on.Checkpoint a (house.Open t) e was h = subst IsDesk (sym h.1) was
  desk_acts (house.Open s) d answers (on.View analyst) a (house.Open t) e was h = subst IsDesk (sym h.2) was
  desk_acts (house.Open s) d answers (on.Learn analyst event place) a (house.Open t) e was h = subst IsDesk (sym h.2) was
  desk_acts (house.Open s) d answers on.Stop a (house.Open t) e was h = absurd h
  desk_acts (house.Open s) d answers on.Reopen a (house.Open t) e was h = subst IsDesk (sym h.2) was
  desk_acts (house.Open s) d answers on.Stop a (house.Stopped w) e was h = subst IsDesk (sym h.2) (record { takes_items = refl; fits = none_fit })
  desk_acts (house.Open s) d answers (on.Post importer entry) a (house.Stopped w) e was h = absurd h
  desk_acts (house.Open s) d answers on.Take a (house.Stopped w) e was h = absurd h
  desk_acts (house.Open s) d answers on.Commit a (house.Stopped w) e was h = absurd h
  desk_acts (house.Open s) d answers on.Checkpoint a (house.Stopped w) e was h = absurd h
  desk_acts (house.Open s) d answers (on.View analyst) a (house.Stopped w) e was h = absurd h
  desk_acts (house.Open s) d answers (on.Learn analyst event place) a (house.Stopped w) e was h = absurd h
  desk_acts (house.Open s) d answers on.Reopen a (house.Stopped w) e was h = absurd h
  desk_acts (house.Stopped v) d answers (on.Post importer entry) a (house.Stopped w) e was h = subst IsDesk (sym h.2) was
  desk_acts (house.Stopped v) d answers (on.Post importer entry) a (house.Open t) e was h = absurd h
  desk_acts (house.Stopped v) d answers on.Take a (house.Stopped w) e was h = subst IsDesk (sym h.2) was
  desk_acts (house.Stopped v) d answers on.Take a (house.Open t) e was h = absurd h
  desk_acts (house.Stopped v) d answers on.Commit a (house.Stopped w) e was h = subst IsDesk (sym h.2) was
  desk_acts (house.Stopped v) d answers on.Commit a (house.Open t) e was h = absurd h
  desk_acts (house.Stopped v) d answers on.Checkpoint a (house.Stopped w) e was h = subst IsDesk (sym h.2) was
  desk_acts (house.Stopped v) d answers on.Checkpoint a (house.Open t) e was h = absurd h
  desk_acts (house.Stopped v) d answers (on.View analyst) a (house.Stopped w) e was h = subst IsDesk (sym h.2) was
  desk_acts (house.Stopped v) d answers (on.View analyst) a (house.Open t) e was h = absurd h
  desk_acts (house.Stopped v) d answers (on.Learn analyst event place) a (house.Stopped w) e was h = subst IsDesk (sym h.2) was
  desk_acts (house.Stopped v) d answers (on.Learn analyst event place) a (house.Open t) e was h = absurd h
  desk_acts (house.Stopped v) d answers on.Stop a (house.Stopped w) e was h = subst IsDesk (sym h.2) was
  desk_acts (house.Stopped v) d answers on.Stop a (house.Open t) e was h = absurd h
  desk_acts (house.Stopped v) d answers on.Reopen a k e was h = subst IsDesk (sym h.1) was

-- ---- the events that are left

next_one : (all : List Event) (k : ℕ) (e : Event) (rest : List Event) → drop k all ≡ e ∷ rest → (take (suc k) all ≡ take k all ++ e ∷ []) × (drop (suc k) all ≡ rest)
next_one [] zero e rest is = absurd (cc)
next_one [] (suc k) e rest is = absurd (cc)
next_one (x ∷ all) zero e rest is =
    let same : x ≡ e = cc in
    let others : all ≡ rest = cc in
    (ap (λ (y : Event). y ∷ []) same, others)
next_one (x ∷ all) (suc k) e rest is =
    let more = next_one all k e rest is in
    (ap (λ (l : List Event). x ∷ l) more.0, more.1)

pub next_event : (all : List Event) (k n : ℕ) (e : Event) (rest : List Event) → n ≡ k + 1 → drop k all ≡ e ∷ rest → (take n all ≡ take k all ++ e ∷ []) × (drop n all ≡ rest)
next_event all k n e rest next is =
    let one = next_one all k e rest is in
    let same : n ≡ suc k = omega (arith, next) in
    (ap (λ (m : ℕ). take m all) same ∙ one.0, ap (λ (m : ℕ). drop m all) same ∙ one.1)

pub on_ok : {T E : Type 0} (X : Type 0) (r : Result T E) (v : T) → r ≡ Ok v → OnOk r X → X
on_ok X r v is h = subst (λ q. OnOk q X) is h

pub on_err : {T E : Type 0} (X : Type 0) (r : Result T E) (e : E) → r ≡ Err e → OnErr r X → X
on_err X r e is h = subst (λ q. OnErr q X) is h
