-- What waits and what is in hand was posted.
use Rattle.std.proofs.Common.{◌≡◌, ◌⊎◌, inl, inr, ℕ, ◌+◌, ◌-◌, ◌<◌, ◌≤◌, zero, suc, List, [], ◌∷◌, ◌++◌, length, refl, sym, ap, subst, ◌∙◌, arith, append_assoc, length-append}
use Rattle.std.specs.Prelude.{All, Option, Some, slice_get}
use Rattle.std.proofs.lemmas.Bool.{cases_eq}
use Rattle.std.proofs.lemmas.List.Elements.{All-drop, All-head, All-nil, All-push, All-tail, All-take, All-weaker}
use Rattle.fw_disk.specs.Volume.{View}
use Rattle.fw_entry.specs.Entry.{EntryValue}
use Rattle.fw_snapshot.specs.History.{History}
use Rattle.fw_recover.specs.declared.fault.StoreFault.TheVariants as fault
use Rattle.fw_group.specs.declared.answer.Receipt.{Receipt}
use Rattle.fw_group.specs.declared.event.Event.{Event}
use Rattle.fw_group.specs.declared.event.Event.TheVariants as on
use Rattle.fw_group.specs.declared.event.EventAnswer.{EventAnswer}
use Rattle.fw_group.specs.declared.event.EventAnswer.TheVariants as said
use Rattle.fw_group.specs.declared.event.House.{House}
use Rattle.fw_group.specs.declared.inbox.Item.{Item}
use Rattle.fw_group.specs.Items.{entries_of}
use Rattle.fw_group.specs.Laws.{IsShown, WasPosted, shown_in}
use Rattle.fw_group.specs.Runs.{Runs}
use Rattle.fw_group.specs.Steps.{State, receipt_at, Does, Posts, Takes, Commits, Checkpoints, Views, Learns, Stops, Reopens}
use Rattle.fw_group.proofs.Grown.{accepted_shown, accepts, here_is, no_receipt_behind}

-- all items of a state keep a rule
record AllKeep (P : Item → Type 0) (s : State) : Type 0 where
  waiting : All P s.waiting
  hand : All P s.hand

-- they are the same ones, or fewer
kept_same : (P : Item → Type 0) (s t u : State) → t ≡ u → u.waiting ≡ s.waiting → u.hand ≡ s.hand → AllKeep P s → AllKeep P t
kept_same P s t u is waiting hand all = subst (AllKeep P) (sym is) (record { waiting = subst (All P) (sym waiting) all.waiting; hand = subst (All P) (sym hand) all.hand })

kept_none : (P : Item → Type 0) (s t u : State) → t ≡ u → u.waiting ≡ s.waiting → u.hand ≡ [] → AllKeep P s → AllKeep P t
kept_none P s t u is waiting hand all = subst (AllKeep P) (sym is) (record { waiting = subst (All P) (sym waiting) all.waiting; hand = subst (All P) (sym hand) (All-nil P) })

kept_stopped : (P : Item → Type 0) (t u : State) → t ≡ u → u.waiting ≡ [] → u.hand ≡ [] → AllKeep P t
kept_stopped P t u is waiting hand = subst (AllKeep P) (sym is) (record { waiting = subst (All P) (sym waiting) (All-nil P); hand = subst (All P) (sym hand) (All-nil P) })

kept_posts : (P : Item → Type 0) (s : State) (item : Item) (a : EventAnswer) (t : State) → Posts s item a t → (a ≡ said.Posted → P item) → AllKeep P s → AllKeep P t
kept_posts P s item said.Posted t h new all = subst (AllKeep P) (sym h.1) (record { waiting = All-push P s.waiting item all.waiting (new refl); hand = all.hand })
kept_posts P s item (said.Took n) t h new all = absurd h
kept_posts P s item (said.Committed answered) t h new all = absurd h
kept_posts P s item said.Checkpointed t h new all = absurd h
kept_posts P s item (said.Failed fault) t h new all = absurd h
kept_posts P s item (said.Viewed found) t h new all = absurd h
kept_posts P s item said.Learned t h new all = absurd h
kept_posts P s item said.Stopped t h new all = absurd h
kept_posts P s item (said.Reopened found) t h new all = absurd h
kept_posts P s item said.Ignored t h new all = kept_same P s t _ h.1 refl refl all

kept_takes : (P : Item → Type 0) (s : State) (a : EventAnswer) (t : State) → Takes s a t → AllKeep P s → AllKeep P t
kept_takes P s said.Posted t h all = absurd h
kept_takes P s (said.Took n) t (runs, inl h) all = subst (AllKeep P) (sym h.2) (record { waiting = All-drop P n s.waiting all.waiting; hand = All-take P n s.waiting all.waiting })
kept_takes P s (said.Took n) t (runs, inr h) all = kept_same P s t _ h.2 refl refl all
kept_takes P s (said.Committed answered) t h all = absurd h
kept_takes P s said.Checkpointed t h all = absurd h
kept_takes P s (said.Failed fault) t h all = absurd h
kept_takes P s (said.Viewed found) t h all = absurd h
kept_takes P s said.Learned t h all = absurd h
kept_takes P s said.Stopped t h all = absurd h
kept_takes P s (said.Reopened found) t h all = absurd h
kept_takes P s said.Ignored t h all = kept_same P s t _ h.1 refl refl all

kept_commits : (P : Item → Type 0) (s : State) (a : EventAnswer) (t : State) → Commits s a t → AllKeep P s → AllKeep P t
kept_commits P s said.Posted t h all = absurd h
kept_commits P s (said.Took n) t h all = absurd h
kept_commits P s (said.Committed answered) t (runs, inl h) all = kept_same P s t _ h.2 refl refl all
kept_commits P s (said.Committed answered) t (runs, inr (some, inl h)) all = kept_none P s t _ h.2 refl refl all
kept_commits P s (said.Committed answered) t (runs, inr (some, inr (inl h))) all = kept_none P s t _ h.2 refl refl all
kept_commits P s (said.Committed answered) t (runs, inr (some, inr (inr h))) all = kept_none P s t _ h.2 refl refl all
kept_commits P s said.Checkpointed t h all = absurd h
kept_commits P s (said.Failed fault.NoHouse) t h all = absurd h
kept_commits P s (said.Failed (fault.Corrupt side at)) t h all = absurd h
kept_commits P s (said.Failed fault.Device) t h all = absurd h
kept_commits P s (said.Failed fault.Failed) t h all = absurd h
kept_commits P s (said.Failed fault.Generations) t h all = absurd h
kept_commits P s (said.Failed fault.TooLarge) t h all = kept_same P s t _ h.3 refl refl all
kept_commits P s (said.Failed fault.Exists) t h all = absurd h
kept_commits P s (said.Failed fault.OldSide) t h all = kept_same P s t _ h.3 refl refl all
kept_commits P s (said.Failed fault.NoMemory) t h all = absurd h
kept_commits P s (said.Viewed found) t h all = absurd h
kept_commits P s said.Learned t h all = absurd h
kept_commits P s said.Stopped t h all = absurd h
kept_commits P s (said.Reopened found) t h all = absurd h
kept_commits P s said.Ignored t h all = kept_same P s t _ h.1 refl refl all

kept_checkpoints : (P : Item → Type 0) (s : State) (a : EventAnswer) (t : State) → Checkpoints s a t → AllKeep P s → AllKeep P t
kept_checkpoints P s said.Posted t h all = absurd h
kept_checkpoints P s (said.Took n) t h all = absurd h
kept_checkpoints P s (said.Committed answered) t h all = absurd h
kept_checkpoints P s said.Checkpointed t h all = kept_same P s t _ h.2 refl refl all
kept_checkpoints P s (said.Failed fault.NoHouse) t h all = absurd h
kept_checkpoints P s (said.Failed (fault.Corrupt side at)) t h all = absurd h
kept_checkpoints P s (said.Failed fault.Device) t h all = kept_same P s t _ h.2 refl refl all
kept_checkpoints P s (said.Failed fault.Failed) t h all = kept_same P s t _ h.2 refl refl all
kept_checkpoints P s (said.Failed fault.Generations) t h all = kept_same P s t _ h.2 refl refl all
kept_checkpoints P s (said.Failed fault.TooLarge) t h all = kept_same P s t _ h.2 refl refl all
kept_checkpoints P s (said.Failed fault.Exists) t h all = absurd h
kept_checkpoints P s (said.Failed fault.OldSide) t h all = absurd h
kept_checkpoints P s (said.Failed fault.NoMemory) t h all = absurd h
kept_checkpoints P s (said.Viewed found) t h all = absurd h
kept_checkpoints P s said.Learned t h all = absurd h
kept_checkpoints P s said.Stopped t h all = absurd h
kept_checkpoints P s (said.Reopened found) t h all = absurd h
kept_checkpoints P s said.Ignored t h all = kept_same P s t _ h.1 refl refl all

kept_views : (P : Item → Type 0) (s : State) (analyst : ℕ) (a : EventAnswer) (t : State) → Views s analyst a t → AllKeep P s → AllKeep P t
kept_views P s analyst said.Posted t h all = absurd h
kept_views P s analyst (said.Took n) t h all = absurd h
kept_views P s analyst (said.Committed answered) t h all = absurd h
kept_views P s analyst said.Checkpointed t h all = absurd h
kept_views P s analyst (said.Failed fault) t h all = absurd h
kept_views P s analyst (said.Viewed found) t h all = kept_same P s t _ h.2 refl refl all
kept_views P s analyst said.Learned t h all = absurd h
kept_views P s analyst said.Stopped t h all = absurd h
kept_views P s analyst (said.Reopened found) t h all = absurd h
kept_views P s analyst said.Ignored t h all = kept_same P s t _ h.1 refl refl all

kept_learns : (P : Item → Type 0) (s : State) (answers : List EventAnswer) (analyst event place : ℕ) (a : EventAnswer) (t : State) → Learns s answers analyst event place a t → AllKeep P s → AllKeep P t
kept_learns P s answers analyst event place said.Posted t h all = absurd h
kept_learns P s answers analyst event place (said.Took n) t h all = absurd h
kept_learns P s answers analyst event place (said.Committed answered) t h all = absurd h
kept_learns P s answers analyst event place said.Checkpointed t h all = absurd h
kept_learns P s answers analyst event place (said.Failed fault) t h all = absurd h
kept_learns P s answers analyst event place (said.Viewed found) t h all = absurd h
kept_learns P s answers analyst event place said.Learned t h all = kept_same P s t _ h.1 refl refl all
kept_learns P s answers analyst event place said.Stopped t h all = absurd h
kept_learns P s answers analyst event place (said.Reopened found) t h all = absurd h
kept_learns P s answers analyst event place said.Ignored t h all = kept_same P s t _ h.1 refl refl all

kept_stops : (P : Item → Type 0) (s : State) (a : EventAnswer) (t : State) → Stops s a t → AllKeep P s → AllKeep P t
kept_stops P s said.Posted t h all = absurd h
kept_stops P s (said.Took n) t h all = absurd h
kept_stops P s (said.Committed answered) t h all = absurd h
kept_stops P s said.Checkpointed t h all = absurd h
kept_stops P s (said.Failed fault) t h all = absurd h
kept_stops P s (said.Viewed found) t h all = absurd h
kept_stops P s said.Learned t h all = absurd h
kept_stops P s said.Stopped t h all = kept_stopped P t _ h.1 refl refl
kept_stops P s (said.Reopened found) t h all = absurd h
kept_stops P s said.Ignored t h all = kept_same P s t _ h.1 refl refl all

kept_reopens : (P : Item → Type 0) (s : State) (a : EventAnswer) (t : State) → Reopens s a t → AllKeep P s → AllKeep P t
kept_reopens P s said.Posted t h all = absurd h
kept_reopens P s (said.Took n) t h all = absurd h
kept_reopens P s (said.Committed answered) t h all = absurd h
kept_reopens P s said.Checkpointed t h all = absurd h
kept_reopens P s (said.Failed fault.NoHouse) t h all = absurd h
kept_reopens P s (said.Failed (fault.Corrupt side at)) t h all = absurd h
kept_reopens P s (said.Failed fault.Device) t h all = kept_same P s t _ h.1 refl refl all
kept_reopens P s (said.Failed fault.Failed) t h all = absurd h
kept_reopens P s (said.Failed fault.Generations) t h all = absurd h
kept_reopens P s (said.Failed fault.TooLarge) t h all = absurd h
kept_reopens P s (said.Failed fault.Exists) t h all = absurd h
kept_reopens P s (said.Failed fault.OldSide) t h all = absurd h
kept_reopens P s (said.Failed fault.NoMemory) t h all = absurd h
kept_reopens P s (said.Viewed found) t h all = absurd h
kept_reopens P s said.Learned t h all = absurd h
kept_reopens P s said.Stopped t h all = absurd h
kept_reopens P s (said.Reopened found) t (down, either, is) all = kept_same P s t _ is refl refl all
kept_reopens P s said.Ignored t h all = kept_same P s t _ h.1 refl refl all

-- an event leaves the items that wait and are in hand, but for one that it posts
kept : (P : Item → Type 0) (s : State) (answers : List EventAnswer) (event : Event) (a : EventAnswer) (t : State) → Does s answers event a t
    → ((importer : ℕ) (e : EntryValue) → event ≡ on.Post importer e → a ≡ said.Posted → P (record { importer = importer; entry = e })) → AllKeep P s → AllKeep P t
kept P s answers (on.Post importer entry) a t h new all = kept_posts P s (record { importer = importer; entry = entry }) a t h (new importer entry refl) all
kept P s answers on.Take a t h new all = kept_takes P s a t h all
kept P s answers on.Commit a t h new all = kept_commits P s a t h all
kept P s answers on.Checkpoint a t h new all = kept_checkpoints P s a t h all
kept P s answers (on.View analyst) a t h new all = kept_views P s analyst a t h all
kept P s answers (on.Learn analyst event place) a t h new all = kept_learns P s answers analyst event place a t h all
kept P s answers on.Stop a t h new all = kept_stops P s a t h all
kept P s answers on.Reopen a t h new all = kept_reopens P s a t h all

-- ---- runs

entry_keeps : (Q : EntryValue → Type 0) (items : List Item) (place : ℕ) (e : EntryValue) → All (λ (item : Item). Q item.entry) items → slice_get (entries_of items) place ≡ Some e → Q e
entry_keeps Q [] place e all at = absurd (cc)
entry_keeps Q (x ∷ items) zero e all at =
    let is : x.entry ≡ e = cc in
    subst Q is (All-head (λ (item : Item). Q item.entry) x items all)
entry_keeps Q (x ∷ items) (suc place) e all at = entry_keeps Q items place e (All-tail (λ (item : Item). Q item.entry) x items all) at

event_behind : (done : List Event) (e : Event) (es : List Event) → slice_get (done ++ e ∷ es) (length done) ≡ Some e
event_behind [] e es = refl
event_behind (x ∷ done) e es = event_behind done e es

-- posted before a place, so before a later one
posted_before : (events : List Event) (answers : List EventAnswer) (n m : ℕ) (e : EntryValue) → n ≤ m → WasPosted events answers n e → WasPosted events answers m e
posted_before events answers n m e up was = (was.0, was.1, omega (arith, up, was.2), was.3, was.4)

module _ {V : Type 0} (view : V → View) where
  -- the entry of a receipt was posted before the commit that answered it
  posted_in : (all done es : List Event) (h : House V) (s : State) (before : List EventAnswer) (k : House V) (t : State) (after : List EventAnswer) → Runs view h s before es k t after
      → all ≡ done ++ es → length done ≡ length before → AllKeep (λ (item : Item). WasPosted all after (length before) item.entry) s
      → (i place : ℕ) (r : Receipt History) → length before ≤ i → receipt_at (slice_get after i) place ≡ Some r
      → (e : EntryValue) × (slice_get r.front.entries (r.number - 1) ≡ Some e) × WasPosted all after i e
  posted_in all done [] h s before k t after run whole long keep i place r from is = absurd (no_receipt_behind before after i place r run.2 from is)
  posted_in all done (e ∷ es) h s before k t after run whole long keep i place r from is = elim (cases_eq i (length before)) [
    | inl same ↦
        let at : receipt_at (Some run.2) place ≡ Some r =
        sym (ap (λ (o : Option EventAnswer). receipt_at o place) (ap (λ (n : ℕ). slice_get after n) same ∙ here_is view es run.0 run.1 before run.2 k t after run.7)) ∙ is in
        let there = accepts s before e run.2 run.1 place r run.3 at in (
          there.1.0,
          there.1.2,
          subst (λ (n : ℕ). WasPosted all after n there.1.0) (sym same) (entry_keeps (WasPosted all after (length before)) s.hand place there.1.0 keep.hand there.1.1),
        )
    | inr other ↦
        let one_more = length-append before (run.2 ∷ []) in
        let here : slice_get all (length before) ≡ Some e =
        ap (λ (l : List Event). slice_get l (length before)) whole ∙ ap (λ (n : ℕ). slice_get (done ++ e ∷ es) n) (sym long) ∙ event_behind done e es in
        let answered = here_is view es run.0 run.1 before run.2 k t after run.7 in
        let later : AllKeep (λ (item : Item). WasPosted all after (length (before ++ run.2 ∷ [])) item.entry) s = record {
          waiting = All-weaker (λ (item : Item). WasPosted all after (length before) item.entry) (λ (item : Item). WasPosted all after (length (before ++ run.2 ∷ [])) item.entry)
              (λ (item : Item) was. posted_before all after (length before) (length (before ++ run.2 ∷ [])) item.entry (omega (arith, one_more)) was) s.waiting keep.waiting;
          hand = All-weaker (λ (item : Item). WasPosted all after (length before) item.entry) (λ (item : Item). WasPosted all after (length (before ++ run.2 ∷ [])) item.entry)
              (λ (item : Item) was. posted_before all after (length before) (length (before ++ run.2 ∷ [])) item.entry (omega (arith, one_more)) was) s.hand keep.hand;
        } in
        let next = kept (λ (item : Item). WasPosted all after (length (before ++ run.2 ∷ [])) item.entry) s before e run.2 run.1 run.3
        (λ importer x is_post is_posted. (length before, importer, omega (arith, one_more), here ∙ ap (λ (y : Event). Some y) is_post, answered ∙ ap (λ (y : EventAnswer). Some y) is_posted)) later in
        posted_in all (done ++ e ∷ []) es run.0 run.1 (before ++ run.2 ∷ []) k t after run.7 (whole ∙ sym (append_assoc done (e ∷ []) es)) (length-append done (e ∷ []) ∙ ap (λ (n : ℕ). n + 1) long ∙ sym one_more)
        next i place r (omega (arith, from, other, one_more)) is
  ]

  -- from a state in which nothing waits and nothing is in hand
  pub posted_shown : (es : List Event) (h : House V) (s : State) (k : House V) (t : State) (after : List EventAnswer) → Runs view h s [] es k t after → s.waiting ≡ [] → s.hand ≡ []
      → (i j place : ℕ) (r : Receipt History) (list : History) → i < j → receipt_at (slice_get after i) place ≡ Some r → shown_in (slice_get after j) ≡ Some list → IsShown es after i r list
  posted_shown es h s k t after run waiting hand i j place r list later is shown =
      let begins = accepted_shown view es h s [] k t after run i j place r list (omega arith) later is shown in
      let none : AllKeep (λ (item : Item). WasPosted es after 0 item.entry) s = record {
        waiting = subst (All (λ (item : Item). WasPosted es after 0 item.entry)) (sym waiting) (All-nil (λ (item : Item). WasPosted es after 0 item.entry));
        hand = subst (All (λ (item : Item). WasPosted es after 0 item.entry)) (sym hand) (All-nil (λ (item : Item). WasPosted es after 0 item.entry));
      } in
      (begins.0, posted_in es [] es h s [] k t after run refl refl none i place r (omega arith) is)
