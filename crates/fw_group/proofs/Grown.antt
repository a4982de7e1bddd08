-- What was published stays published, and each later list begins with it.
use Rattle.std.proofs.Common.{◌≡◌, ◌⊎◌, inl, inr, ℕ, ◌+◌, ◌-◌, ◌<◌, ◌≤◌, zero, suc, Bool, true, false, List, [], ◌∷◌, ◌++◌, length, take, refl, sym, ap, subst, ◌∙◌, arith, append_assoc, append-nil, length-append}
use Rattle.std.specs.Prelude.{Option, Some, None, slice_get}
use Rattle.std.proofs.lemmas.Bool.{cases_eq}
use Rattle.fw_disk.specs.Volume.{View}
use Rattle.fw_entry.specs.Entry.{EntryValue}
use Rattle.fw_snapshot.specs.History.{History}
use Rattle.fw_snapshot.specs.Judging.{judged}
use Rattle.fw_snapshot.specs.Verdicts.{kept_by, taken, accepted_of, with_more}
use Rattle.fw_snapshot.specs.declared.verdict.Verdict.{Verdict}
use Rattle.fw_snapshot.specs.declared.verdict.Verdict.TheVariants as verdict
use Rattle.fw_recover.specs.declared.fault.StoreFault.TheVariants as fault
use Rattle.fw_group.specs.declared.answer.Answer.{Answer}
use Rattle.fw_group.specs.declared.answer.Answer.TheVariants as answer
use Rattle.fw_group.specs.declared.answer.Receipt.{Receipt}
use Rattle.fw_group.specs.declared.event.Event.{Event}
use Rattle.fw_group.specs.declared.event.Event.TheVariants as on
use Rattle.fw_group.specs.declared.event.EventAnswer.{EventAnswer}
use Rattle.fw_group.specs.declared.event.EventAnswer.TheVariants as said
use Rattle.fw_group.specs.declared.event.House.{House}
use Rattle.fw_group.specs.declared.inbox.Item.{Item}
use Rattle.fw_group.specs.Items.{entries_of}
use Rattle.fw_group.specs.Answers.{told, answers_on, for_each}
use Rattle.fw_group.specs.Steps.{State, in_hand, receipt_in, receipt_at, Does, Posts, Takes, Commits, Checkpoints, Views, Learns, Stops, Reopens}
use Rattle.fw_group.specs.Runs.{Runs}
use Rattle.fw_group.specs.Laws.{Begins, IsAccepted, shown_in}

begins_same : (h k : History) → k ≡ h → Begins h k
begins_same h k same = ([], same ∙ (λ j. record { currency = h.currency; entries = sym (append-nil h.entries) j }))

pub begins_both : (a b c : History) → Begins a b → Begins b c → Begins a c
begins_both a b c first second =
    (first.0 ++ second.0, second.1 ∙ (λ j. record { currency = (first.1 j).currency; entries = (first.1 j).entries ++ second.0 }) ∙ (λ j. record { currency = a.currency; entries = append_assoc a.entries first.0 second.0 j }))

published_same : (s t : State) (u : State) → t ≡ u → u.published ≡ s.published → Begins s.published t.published
published_same s t u is same = begins_same s.published t.published (ap (λ (x : State). x.published) is ∙ same)

grows_posts : (s : State) (item : Item) (a : EventAnswer) (t : State) → Posts s item a t → Begins s.published t.published
grows_posts s item said.Posted t h = published_same s t _ h.1 refl
grows_posts s item said.Ignored t h = published_same s t _ h.1 refl
grows_posts s item (said.Took n) t h = absurd h
grows_posts s item (said.Committed answered) t h = absurd h
grows_posts s item said.Checkpointed t h = absurd h
grows_posts s item (said.Failed fault) t h = absurd h
grows_posts s item (said.Viewed found) t h = absurd h
grows_posts s item said.Learned t h = absurd h
grows_posts s item said.Stopped t h = absurd h
grows_posts s item (said.Reopened found) t h = absurd h

grows_takes : (s : State) (a : EventAnswer) (t : State) → Takes s a t → Begins s.published t.published
grows_takes s (said.Took n) t (runs, inl h) = published_same s t _ h.2 refl
grows_takes s (said.Took n) t (runs, inr h) = published_same s t _ h.2 refl
grows_takes s said.Ignored t h = published_same s t _ h.1 refl
grows_takes s said.Posted t h = absurd h
grows_takes s (said.Committed answered) t h = absurd h
grows_takes s said.Checkpointed t h = absurd h
grows_takes s (said.Failed fault) t h = absurd h
grows_takes s (said.Viewed found) t h = absurd h
grows_takes s said.Learned t h = absurd h
grows_takes s said.Stopped t h = absurd h
grows_takes s (said.Reopened found) t h = absurd h

grows_commits : (s : State) (a : EventAnswer) (t : State) → Commits s a t → Begins s.published t.published
grows_commits s (said.Committed answers) t (runs, inl h) = published_same s t _ h.2 refl
grows_commits s (said.Committed answers) t (runs, inr (some, inl h)) = (in_hand s, ap (λ (x : State). x.published) h.2)
grows_commits s (said.Committed answers) t (runs, inr (some, inr (inl h))) = published_same s t _ h.2 refl
grows_commits s (said.Committed answers) t (runs, inr (some, inr (inr h))) = published_same s t _ h.2 refl
grows_commits s (said.Failed fault.OldSide) t h = published_same s t _ h.3 refl
grows_commits s (said.Failed fault.TooLarge) t h = published_same s t _ h.3 refl
grows_commits s said.Ignored t h = published_same s t _ h.1 refl
grows_commits s said.Posted t h = absurd h
grows_commits s (said.Took n) t h = absurd h
grows_commits s said.Checkpointed t h = absurd h
grows_commits s (said.Viewed found) t h = absurd h
grows_commits s said.Learned t h = absurd h
grows_commits s said.Stopped t h = absurd h
grows_commits s (said.Reopened found) t h = absurd h
grows_commits s (said.Failed fault.NoHouse) t h = absurd h
grows_commits s (said.Failed (fault.Corrupt side at)) t h = absurd h
grows_commits s (said.Failed fault.Device) t h = absurd h
grows_commits s (said.Failed fault.Failed) t h = absurd h
grows_commits s (said.Failed fault.Generations) t h = absurd h
grows_commits s (said.Failed fault.Exists) t h = absurd h
grows_commits s (said.Failed fault.NoMemory) t h = absurd h

grows_checkpoints : (s : State) (a : EventAnswer) (t : State) → Checkpoints s a t → Begins s.published t.published
grows_checkpoints s said.Checkpointed t h = published_same s t _ h.2 refl
grows_checkpoints s (said.Failed fault.Device) t h = published_same s t _ h.2 refl
grows_checkpoints s (said.Failed fault.Failed) t h = published_same s t _ h.2 refl
grows_checkpoints s (said.Failed fault.Generations) t h = published_same s t _ h.2 refl
grows_checkpoints s (said.Failed fault.TooLarge) t h = published_same s t _ h.2 refl
grows_checkpoints s said.Ignored t h = published_same s t _ h.1 refl
grows_checkpoints s said.Posted t h = absurd h
grows_checkpoints s (said.Took n) t h = absurd h
grows_checkpoints s (said.Committed answered) t h = absurd h
grows_checkpoints s (said.Viewed found) t h = absurd h
grows_checkpoints s said.Learned t h = absurd h
grows_checkpoints s said.Stopped t h = absurd h
grows_checkpoints s (said.Reopened found) t h = absurd h
grows_checkpoints s (said.Failed fault.NoHouse) t h = absurd h
grows_checkpoints s (said.Failed (fault.Corrupt side at)) t h = absurd h
grows_checkpoints s (said.Failed fault.Exists) t h = absurd h
grows_checkpoints s (said.Failed fault.OldSide) t h = absurd h
grows_checkpoints s (said.Failed fault.NoMemory) t h = absurd h

grows_views : (s : State) (analyst : ℕ) (a : EventAnswer) (t : State) → Views s analyst a t → Begins s.published t.published
grows_views s analyst (said.Viewed found) t h = published_same s t _ h.2 refl
grows_views s analyst said.Ignored t h = published_same s t _ h.1 refl
grows_views s analyst said.Posted t h = absurd h
grows_views s analyst (said.Took n) t h = absurd h
grows_views s analyst (said.Committed answered) t h = absurd h
grows_views s analyst said.Checkpointed t h = absurd h
grows_views s analyst (said.Failed fault) t h = absurd h
grows_views s analyst said.Learned t h = absurd h
grows_views s analyst said.Stopped t h = absurd h
grows_views s analyst (said.Reopened found) t h = absurd h

grows_learns : (s : State) (answers : List EventAnswer) (analyst event place : ℕ) (a : EventAnswer) (t : State) → Learns s answers analyst event place a t → Begins s.published t.published
grows_learns s answers analyst event place said.Learned t h = published_same s t _ h.1 refl
grows_learns s answers analyst event place said.Ignored t h = published_same s t _ h.1 refl
grows_learns s answers analyst event place said.Posted t h = absurd h
grows_learns s answers analyst event place (said.Took n) t h = absurd h
grows_learns s answers analyst event place (said.Committed answered) t h = absurd h
grows_learns s answers analyst event place said.Checkpointed t h = absurd h
grows_learns s answers analyst event place (said.Failed fault) t h = absurd h
grows_learns s answers analyst event place (said.Viewed found) t h = absurd h
grows_learns s answers analyst event place said.Stopped t h = absurd h
grows_learns s answers analyst event place (said.Reopened found) t h = absurd h

grows_stops : (s : State) (a : EventAnswer) (t : State) → Stops s a t → Begins s.published t.published
grows_stops s said.Stopped t h = published_same s t _ h.1 refl
grows_stops s said.Ignored t h = published_same s t _ h.1 refl
grows_stops s said.Posted t h = absurd h
grows_stops s (said.Took n) t h = absurd h
grows_stops s (said.Committed answered) t h = absurd h
grows_stops s said.Checkpointed t h = absurd h
grows_stops s (said.Failed fault) t h = absurd h
grows_stops s (said.Viewed found) t h = absurd h
grows_stops s said.Learned t h = absurd h
grows_stops s (said.Reopened found) t h = absurd h

grows_reopens : (s : State) (a : EventAnswer) (t : State) → Reopens s a t → Begins s.published t.published
grows_reopens s (said.Reopened found) t (down, inl same, is) = begins_same s.published t.published (ap (λ (x : State). x.published) is ∙ same)
grows_reopens s (said.Reopened found) t (down, inr more, is) = (s.group, ap (λ (x : State). x.published) is ∙ more)
grows_reopens s (said.Failed fault.Device) t h = published_same s t _ h.1 refl
grows_reopens s said.Ignored t h = published_same s t _ h.1 refl
grows_reopens s said.Posted t h = absurd h
grows_reopens s (said.Took n) t h = absurd h
grows_reopens s (said.Committed answered) t h = absurd h
grows_reopens s said.Checkpointed t h = absurd h
grows_reopens s (said.Viewed found) t h = absurd h
grows_reopens s said.Learned t h = absurd h
grows_reopens s said.Stopped t h = absurd h
grows_reopens s (said.Failed fault.NoHouse) t h = absurd h
grows_reopens s (said.Failed (fault.Corrupt side at)) t h = absurd h
grows_reopens s (said.Failed fault.Failed) t h = absurd h
grows_reopens s (said.Failed fault.Generations) t h = absurd h
grows_reopens s (said.Failed fault.TooLarge) t h = absurd h
grows_reopens s (said.Failed fault.Exists) t h = absurd h
grows_reopens s (said.Failed fault.OldSide) t h = absurd h
grows_reopens s (said.Failed fault.NoMemory) t h = absurd h

-- an event takes nothing from what is published
pub grows : (s : State) (answers : List EventAnswer) (event : Event) (a : EventAnswer) (t : State) → Does s answers event a t → Begins s.published t.published
grows s answers (on.Post importer entry) a t h = grows_posts s (record { importer = importer; entry = entry }) a t h
grows s answers on.Take a t h = grows_takes s a t h
grows s answers on.Commit a t h = grows_commits s a t h
grows s answers on.Checkpoint a t h = grows_checkpoints s a t h
grows s answers (on.View analyst) a t h = grows_views s analyst a t h
grows s answers (on.Learn analyst event place) a t h = grows_learns s answers analyst event place a t h
grows s answers on.Stop a t h = grows_stops s a t h
grows s answers on.Reopen a t h = grows_reopens s a t h

-- ---- what is shown

shows_views : (s : State) (analyst : ℕ) (a : EventAnswer) (t : State) (list : History) → Views s analyst a t → shown_in (Some a) ≡ Some list → Begins s.published list
shows_views s analyst (said.Viewed found) t list h is = let same : found ≡ list = cc in begins_same s.published list (sym same ∙ h.1)
shows_views s analyst said.Posted t list h is = absurd (cc)
shows_views s analyst (said.Took n) t list h is = absurd (cc)
shows_views s analyst (said.Committed answered) t list h is = absurd (cc)
shows_views s analyst said.Checkpointed t list h is = absurd (cc)
shows_views s analyst (said.Failed fault) t list h is = absurd (cc)
shows_views s analyst said.Learned t list h is = absurd (cc)
shows_views s analyst said.Stopped t list h is = absurd (cc)
shows_views s analyst (said.Reopened found) t list h is = absurd h
shows_views s analyst said.Ignored t list h is = absurd (cc)

shows_reopens : (s : State) (a : EventAnswer) (t : State) (list : History) → Reopens s a t → shown_in (Some a) ≡ Some list → Begins s.published list
shows_reopens s (said.Reopened found) t list (down, inl same, left) is = let here : found ≡ list = cc in begins_same s.published list (sym here ∙ same)
shows_reopens s (said.Reopened found) t list (down, inr more, left) is = let here : found ≡ list = cc in (s.group, sym here ∙ more)
shows_reopens s said.Posted t list h is = absurd (cc)
shows_reopens s (said.Took n) t list h is = absurd (cc)
shows_reopens s (said.Committed answered) t list h is = absurd (cc)
shows_reopens s said.Checkpointed t list h is = absurd (cc)
shows_reopens s (said.Failed fault) t list h is = absurd (cc)
shows_reopens s (said.Viewed found) t list h is = absurd h
shows_reopens s said.Learned t list h is = absurd (cc)
shows_reopens s said.Stopped t list h is = absurd (cc)
shows_reopens s said.Ignored t list h is = absurd (cc)

shows_posts : (s : State) (item : Item) (a : EventAnswer) (t : State) (list : History) → Posts s item a t → shown_in (Some a) ≡ Some list → Begins s.published list
shows_posts s item said.Posted t list h is = absurd (cc)
shows_posts s item (said.Took n) t list h is = absurd (cc)
shows_posts s item (said.Committed answered) t list h is = absurd (cc)
shows_posts s item said.Checkpointed t list h is = absurd (cc)
shows_posts s item (said.Failed fault) t list h is = absurd (cc)
shows_posts s item (said.Viewed found) t list h is = absurd h
shows_posts s item said.Learned t list h is = absurd (cc)
shows_posts s item said.Stopped t list h is = absurd (cc)
shows_posts s item (said.Reopened found) t list h is = absurd h
shows_posts s item said.Ignored t list h is = absurd (cc)

shows_takes : (s : State) (a : EventAnswer) (t : State) (list : History) → Takes s a t → shown_in (Some a) ≡ Some list → Begins s.published list
shows_takes s said.Posted t list h is = absurd (cc)
shows_takes s (said.Took n) t list h is = absurd (cc)
shows_takes s (said.Committed answered) t list h is = absurd (cc)
shows_takes s said.Checkpointed t list h is = absurd (cc)
shows_takes s (said.Failed fault) t list h is = absurd (cc)
shows_takes s (said.Viewed found) t list h is = absurd h
shows_takes s said.Learned t list h is = absurd (cc)
shows_takes s said.Stopped t list h is = absurd (cc)
shows_takes s (said.Reopened found) t list h is = absurd h
shows_takes s said.Ignored t list h is = absurd (cc)

shows_commits : (s : State) (a : EventAnswer) (t : State) (list : History) → Commits s a t → shown_in (Some a) ≡ Some list → Begins s.published list
shows_commits s said.Posted t list h is = absurd (cc)
shows_commits s (said.Took n) t list h is = absurd (cc)
shows_commits s (said.Committed answered) t list h is = absurd (cc)
shows_commits s said.Checkpointed t list h is = absurd (cc)
shows_commits s (said.Failed fault) t list h is = absurd (cc)
shows_commits s (said.Viewed found) t list h is = absurd h
shows_commits s said.Learned t list h is = absurd (cc)
shows_commits s said.Stopped t list h is = absurd (cc)
shows_commits s (said.Reopened found) t list h is = absurd h
shows_commits s said.Ignored t list h is = absurd (cc)

shows_checkpoints : (s : State) (a : EventAnswer) (t : State) (list : History) → Checkpoints s a t → shown_in (Some a) ≡ Some list → Begins s.published list
shows_checkpoints s said.Posted t list h is = absurd (cc)
shows_checkpoints s (said.Took n) t list h is = absurd (cc)
shows_checkpoints s (said.Committed answered) t list h is = absurd (cc)
shows_checkpoints s said.Checkpointed t list h is = absurd (cc)
shows_checkpoints s (said.Failed fault) t list h is = absurd (cc)
shows_checkpoints s (said.Viewed found) t list h is = absurd h
shows_checkpoints s said.Learned t list h is = absurd (cc)
shows_checkpoints s said.Stopped t list h is = absurd (cc)
shows_checkpoints s (said.Reopened found) t list h is = absurd h
shows_checkpoints s said.Ignored t list h is = absurd (cc)

shows_learns : (s : State) (answers : List EventAnswer) (analyst event place : ℕ) (a : EventAnswer) (t : State) (list : History) → Learns s answers analyst event place a t → shown_in (Some a) ≡ Some list → Begins s.published list
shows_learns s answers analyst event place said.Posted t list h is = absurd (cc)
shows_learns s answers analyst event place (said.Took n) t list h is = absurd (cc)
shows_learns s answers analyst event place (said.Committed answered) t list h is = absurd (cc)
shows_learns s answers analyst event place said.Checkpointed t list h is = absurd (cc)
shows_learns s answers analyst event place (said.Failed fault) t list h is = absurd (cc)
shows_learns s answers analyst event place (said.Viewed found) t list h is = absurd h
shows_learns s answers analyst event place said.Learned t list h is = absurd (cc)
shows_learns s answers analyst event place said.Stopped t list h is = absurd (cc)
shows_learns s answers analyst event place (said.Reopened found) t list h is = absurd h
shows_learns s answers analyst event place said.Ignored t list h is = absurd (cc)

shows_stops : (s : State) (a : EventAnswer) (t : State) (list : History) → Stops s a t → shown_in (Some a) ≡ Some list → Begins s.published list
shows_stops s said.Posted t list h is = absurd (cc)
shows_stops s (said.Took n) t list h is = absurd (cc)
shows_stops s (said.Committed answered) t list h is = absurd (cc)
shows_stops s said.Checkpointed t list h is = absurd (cc)
shows_stops s (said.Failed fault) t list h is = absurd (cc)
shows_stops s (said.Viewed found) t list h is = absurd h
shows_stops s said.Learned t list h is = absurd (cc)
shows_stops s said.Stopped t list h is = absurd (cc)
shows_stops s (said.Reopened found) t list h is = absurd h
shows_stops s said.Ignored t list h is = absurd (cc)

-- a list that an event shows begins with what was published
shows : (s : State) (answers : List EventAnswer) (event : Event) (a : EventAnswer) (t : State) (list : History) → Does s answers event a t → shown_in (Some a) ≡ Some list → Begins s.published list
shows s answers (on.Post importer entry) a t list h is = shows_posts s (record { importer = importer; entry = entry }) a t list h is
shows s answers on.Take a t list h is = shows_takes s a t list h is
shows s answers on.Commit a t list h is = shows_commits s a t list h is
shows s answers on.Checkpoint a t list h is = shows_checkpoints s a t list h is
shows s answers (on.View analyst) a t list h is = shows_views s analyst a t list h is
shows s answers (on.Learn analyst event place) a t list h is = shows_learns s answers analyst event place a t list h is
shows s answers on.Stop a t list h is = shows_stops s a t list h is
shows s answers on.Reopen a t list h is = shows_reopens s a t list h is

-- ---- receipts

entry_behind : (before : List EntryValue) (e : EntryValue) (more : List EntryValue) → slice_get (before ++ e ∷ more) (length before) ≡ Some e
entry_behind [] e more = refl
entry_behind (x ∷ before) e more = entry_behind before e more

first_there : (front : History) (before : List EntryValue) (e : EntryValue) (es : List EntryValue) (r : Receipt History) (v : Verdict) → judged before e ≡ v
    → front.entries ≡ before ++ (taken before e ++ accepted_of (before ++ taken before e) es) → receipt_in (Some (told front (length before) v)) ≡ Some r
    → (r.front ≡ front) × ((x : EntryValue) × (Some e ≡ Some x) × (slice_get r.front.entries (r.number - 1) ≡ Some x))
first_there front before e es r verdict.Accept v_is whole is =
    let more = accepted_of (before ++ taken before e) es in
    let here : record { front = front; number = length before + 1 } ≡ r = cc in
    let alone : taken before e ≡ e ∷ [] = ap (λ (v : Verdict). kept_by v e) v_is in
    let place : length before + 1 - 1 ≡ length before = omega arith in
    let there : slice_get front.entries (length before + 1 - 1) ≡ Some e =
    ap (λ (l : List EntryValue). slice_get l (length before + 1 - 1)) (whole ∙ ap (λ (l : List EntryValue). before ++ (l ++ more)) alone) ∙ ap (λ (n : ℕ). slice_get (before ++ e ∷ more) n) place ∙ entry_behind before e more in
    (ap (λ (x : Receipt History). x.front) (sym here), (e, refl, subst (λ (x : Receipt History). slice_get x.front.entries (x.number - 1) ≡ Some e) here there))
first_there front before e es r (verdict.Already n) v_is whole is = absurd (cc)
first_there front before e es r (verdict.Gap n) v_is whole is = absurd (cc)
first_there front before e es r (verdict.Refused why) v_is whole is = absurd (cc)

-- an accepted entry stands at its number in the front, which has the whole group
receipt_there : (front : History) (before es : List EntryValue) (place : ℕ) (r : Receipt History) → front.entries ≡ before ++ accepted_of before es
    → receipt_in (slice_get (answers_on front before es) place) ≡ Some r → (r.front ≡ front) × ((e : EntryValue) × (slice_get es place ≡ Some e) × (slice_get r.front.entries (r.number - 1) ≡ Some e))
unfolding answers_on accepted_of
receipt_there front before [] place r whole is = absurd (cc)
receipt_there front before (e ∷ es) zero r whole is = first_there front before e es r (judged before e) refl whole is
receipt_there front before (e ∷ es) (suc place) r whole is =
    receipt_there front (before ++ taken before e) es place r (whole ∙ sym (append_assoc before (taken before e) (accepted_of (before ++ taken before e) es))) is

no_receipt : (b : Answer History) (items : List Item) (place : ℕ) (r : Receipt History) → receipt_in (Some b) ≡ None → receipt_in (slice_get (for_each b items) place) ≡ Some r → ⊥
no_receipt b [] place r none is = cc
no_receipt b (x ∷ items) zero r none is = cc
no_receipt b (x ∷ items) (suc place) r none is = no_receipt b items place r none is

accepts_commits : (s : State) (a : EventAnswer) (t : State) (place : ℕ) (r : Receipt History) → Commits s a t → receipt_at (Some a) place ≡ Some r → IsAccepted s place r t
accepts_commits s (said.Committed answers) t place r (runs, inl h) is =
    let none : receipt_in (slice_get answers.items place) ≡ None = ap (λ (l : List (Answer History)). receipt_in (slice_get l place)) h.1 in
    absurd (cc)
accepts_commits s (said.Committed answers) t place r (runs, inr (some, inl h)) is =
    let there = receipt_there (with_more s.published (in_hand s)) s.published.entries (entries_of s.hand) place r refl (sym (ap (λ (l : List (Answer History)). receipt_in (slice_get l place)) h.1) ∙ is) in
    (there.0 ∙ sym (ap (λ (x : State). x.published) h.2), there.1)
accepts_commits s (said.Committed answers) t place r (runs, inr (some, inr (inl h))) is =
    absurd (no_receipt answer.Unknown s.hand place r refl (sym (ap (λ (l : List (Answer History)). receipt_in (slice_get l place)) h.1) ∙ is))
accepts_commits s (said.Committed answers) t place r (runs, inr (some, inr (inr h))) is =
    absurd (no_receipt answer.Closed s.hand place r refl (sym (ap (λ (l : List (Answer History)). receipt_in (slice_get l place)) h.1) ∙ is))
accepts_commits s said.Posted t place r h is = absurd (cc)
accepts_commits s (said.Took n) t place r h is = absurd (cc)
accepts_commits s said.Checkpointed t place r h is = absurd (cc)
accepts_commits s (said.Failed fault) t place r h is = absurd (cc)
accepts_commits s (said.Viewed found) t place r h is = absurd (cc)
accepts_commits s said.Learned t place r h is = absurd (cc)
accepts_commits s said.Stopped t place r h is = absurd (cc)
accepts_commits s (said.Reopened found) t place r h is = absurd (cc)
accepts_commits s said.Ignored t place r h is = absurd (cc)

accepts_posts : (s : State) (item : Item) (a : EventAnswer) (t : State) (at : ℕ) (r : Receipt History) → Posts s item a t → receipt_at (Some a) at ≡ Some r → IsAccepted s at r t
accepts_posts s item said.Posted t at r h is = absurd (cc)
accepts_posts s item (said.Took n) t at r h is = absurd (cc)
accepts_posts s item (said.Committed answered) t at r h is = absurd h
accepts_posts s item said.Checkpointed t at r h is = absurd (cc)
accepts_posts s item (said.Failed fault) t at r h is = absurd (cc)
accepts_posts s item (said.Viewed found) t at r h is = absurd (cc)
accepts_posts s item said.Learned t at r h is = absurd (cc)
accepts_posts s item said.Stopped t at r h is = absurd (cc)
accepts_posts s item (said.Reopened found) t at r h is = absurd (cc)
accepts_posts s item said.Ignored t at r h is = absurd (cc)

accepts_takes : (s : State) (a : EventAnswer) (t : State) (at : ℕ) (r : Receipt History) → Takes s a t → receipt_at (Some a) at ≡ Some r → IsAccepted s at r t
accepts_takes s said.Posted t at r h is = absurd (cc)
accepts_takes s (said.Took n) t at r h is = absurd (cc)
accepts_takes s (said.Committed answered) t at r h is = absurd h
accepts_takes s said.Checkpointed t at r h is = absurd (cc)
accepts_takes s (said.Failed fault) t at r h is = absurd (cc)
accepts_takes s (said.Viewed found) t at r h is = absurd (cc)
accepts_takes s said.Learned t at r h is = absurd (cc)
accepts_takes s said.Stopped t at r h is = absurd (cc)
accepts_takes s (said.Reopened found) t at r h is = absurd (cc)
accepts_takes s said.Ignored t at r h is = absurd (cc)

accepts_checkpoints : (s : State) (a : EventAnswer) (t : State) (at : ℕ) (r : Receipt History) → Checkpoints s a t → receipt_at (Some a) at ≡ Some r → IsAccepted s at r t
accepts_checkpoints s said.Posted t at r h is = absurd (cc)
accepts_checkpoints s (said.Took n) t at r h is = absurd (cc)
accepts_checkpoints s (said.Committed answered) t at r h is = absurd h
accepts_checkpoints s said.Checkpointed t at r h is = absurd (cc)
accepts_checkpoints s (said.Failed fault) t at r h is = absurd (cc)
accepts_checkpoints s (said.Viewed found) t at r h is = absurd (cc)
accepts_checkpoints s said.Learned t at r h is = absurd (cc)
accepts_checkpoints s said.Stopped t at r h is = absurd (cc)
accepts_checkpoints s (said.Reopened found) t at r h is = absurd (cc)
accepts_checkpoints s said.Ignored t at r h is = absurd (cc)

accepts_views : (s : State) (analyst : ℕ) (a : EventAnswer) (t : State) (at : ℕ) (r : Receipt History) → Views s analyst a t → receipt_at (Some a) at ≡ Some r → IsAccepted s at r t
accepts_views s analyst said.Posted t at r h is = absurd (cc)
accepts_views s analyst (said.Took n) t at r h is = absurd (cc)
accepts_views s analyst (said.Committed answered) t at r h is = absurd h
accepts_views s analyst said.Checkpointed t at r h is = absurd (cc)
accepts_views s analyst (said.Failed fault) t at r h is = absurd (cc)
accepts_views s analyst (said.Viewed found) t at r h is = absurd (cc)
accepts_views s analyst said.Learned t at r h is = absurd (cc)
accepts_views s analyst said.Stopped t at r h is = absurd (cc)
accepts_views s analyst (said.Reopened found) t at r h is = absurd (cc)
accepts_views s analyst said.Ignored t at r h is = absurd (cc)

accepts_learns : (s : State) (answers : List EventAnswer) (analyst event place : ℕ) (a : EventAnswer) (t : State) (at : ℕ) (r : Receipt History) → Learns s answers analyst event place a t → receipt_at (Some a) at ≡ Some r → IsAccepted s at r t
accepts_learns s answers analyst event place said.Posted t at r h is = absurd (cc)
accepts_learns s answers analyst event place (said.Took n) t at r h is = absurd (cc)
accepts_learns s answers analyst event place (said.Committed answered) t at r h is = absurd h
accepts_learns s answers analyst event place said.Checkpointed t at r h is = absurd (cc)
accepts_learns s answers analyst event place (said.Failed fault) t at r h is = absurd (cc)
accepts_learns s answers analyst event place (said.Viewed found) t at r h is = absurd (cc)
accepts_learns s answers analyst event place said.Learned t at r h is = absurd (cc)
accepts_learns s answers analyst event place said.Stopped t at r h is = absurd (cc)
accepts_learns s answers analyst event place (said.Reopened found) t at r h is = absurd (cc)
accepts_learns s answers analyst event place said.Ignored t at r h is = absurd (cc)

accepts_stops : (s : State) (a : EventAnswer) (t : State) (at : ℕ) (r : Receipt History) → Stops s a t → receipt_at (Some a) at ≡ Some r → IsAccepted s at r t
accepts_stops s said.Posted t at r h is = absurd (cc)
accepts_stops s (said.Took n) t at r h is = absurd (cc)
accepts_stops s (said.Committed answered) t at r h is = absurd h
accepts_stops s said.Checkpointed t at r h is = absurd (cc)
accepts_stops s (said.Failed fault) t at r h is = absurd (cc)
accepts_stops s (said.Viewed found) t at r h is = absurd (cc)
accepts_stops s said.Learned t at r h is = absurd (cc)
accepts_stops s said.Stopped t at r h is = absurd (cc)
accepts_stops s (said.Reopened found) t at r h is = absurd (cc)
accepts_stops s said.Ignored t at r h is = absurd (cc)

accepts_reopens : (s : State) (a : EventAnswer) (t : State) (at : ℕ) (r : Receipt History) → Reopens s a t → receipt_at (Some a) at ≡ Some r → IsAccepted s at r t
accepts_reopens s said.Posted t at r h is = absurd (cc)
accepts_reopens s (said.Took n) t at r h is = absurd (cc)
accepts_reopens s (said.Committed answered) t at r h is = absurd h
accepts_reopens s said.Checkpointed t at r h is = absurd (cc)
accepts_reopens s (said.Failed fault) t at r h is = absurd (cc)
accepts_reopens s (said.Viewed found) t at r h is = absurd (cc)
accepts_reopens s said.Learned t at r h is = absurd (cc)
accepts_reopens s said.Stopped t at r h is = absurd (cc)
accepts_reopens s (said.Reopened found) t at r h is = absurd (cc)
accepts_reopens s said.Ignored t at r h is = absurd (cc)

-- whatever receipt an event answers is that of an item that was in hand
pub accepts : (s : State) (answers : List EventAnswer) (event : Event) (a : EventAnswer) (t : State) (at : ℕ) (r : Receipt History) → Does s answers event a t → receipt_at (Some a) at ≡ Some r → IsAccepted s at r t
accepts s answers (on.Post importer entry) a t at r h is = accepts_posts s (record { importer = importer; entry = entry }) a t at r h is
accepts s answers on.Take a t at r h is = accepts_takes s a t at r h is
accepts s answers on.Commit a t at r h is = accepts_commits s a t at r h is
accepts s answers on.Checkpoint a t at r h is = accepts_checkpoints s a t at r h is
accepts s answers (on.View analyst) a t at r h is = accepts_views s analyst a t at r h is
accepts s answers (on.Learn analyst event place) a t at r h is = accepts_learns s answers analyst event place a t at r h is
accepts s answers on.Stop a t at r h is = accepts_stops s a t at r h is
accepts s answers on.Reopen a t at r h is = accepts_reopens s a t at r h is

-- ---- runs

behind : (before : List EventAnswer) (a : EventAnswer) (more : List EventAnswer) → slice_get ((before ++ a ∷ []) ++ more) (length before) ≡ Some a
behind [] a more = refl
behind (x ∷ before) a more = behind before a more

beyond : (l : List EventAnswer) (j : ℕ) → length l ≤ j → slice_get l j ≡ None
beyond [] j past = refl
beyond (x ∷ l) zero past = absurd (omega (arith, past))
beyond (x ∷ l) (suc j) past = beyond l j (omega (arith, past))

none_behind : (before after : List EventAnswer) (j : ℕ) (list : History) → after ≡ before → length before ≤ j → shown_in (slice_get after j) ≡ Some list → ⊥
none_behind before after j list same past is =
    let none : shown_in (slice_get after j) ≡ None = ap shown_in (ap (λ (l : List EventAnswer). slice_get l j) same ∙ beyond before j past) in
    cc

pub no_receipt_behind : (before after : List EventAnswer) (i place : ℕ) (r : Receipt History) → after ≡ before → length before ≤ i → receipt_at (slice_get after i) place ≡ Some r → ⊥
no_receipt_behind before after i place r same past is =
    let none : receipt_at (slice_get after i) place ≡ None = ap (λ (o : Option EventAnswer). receipt_at o place) (ap (λ (l : List EventAnswer). slice_get l i) same ∙ beyond before i past) in
    cc

module _ {V : Type 0} (view : V → View) where
  answers_behind : (es : List Event) (h : House V) (s : State) (before : List EventAnswer) (k : House V) (t : State) (after : List EventAnswer) → Runs view h s before es k t after
      → (more : List EventAnswer) × (after ≡ before ++ more)
  answers_behind [] h s before k t after run = ([], run.2 ∙ sym (append-nil before))
  answers_behind (e ∷ es) h s before k t after run =
      let rest = answers_behind es run.0 run.1 (before ++ run.2 ∷ []) k t after run.7 in
      (run.2 ∷ rest.0, rest.1 ∙ append_assoc before (run.2 ∷ []) rest.0)

  pub here_is : (es : List Event) (m : House V) (u : State) (before : List EventAnswer) (a : EventAnswer) (k : House V) (t : State) (after : List EventAnswer) → Runs view m u (before ++ a ∷ []) es k t after
      → slice_get after (length before) ≡ Some a
  here_is es m u before a k t after run =
      let rest = answers_behind es m u (before ++ a ∷ []) k t after run in
      ap (λ (l : List EventAnswer). slice_get l (length before)) rest.1 ∙ behind before a rest.0

  -- each list that is shown later begins with what is published
  shown_later : (es : List Event) (h : House V) (s : State) (before : List EventAnswer) (k : House V) (t : State) (after : List EventAnswer) → Runs view h s before es k t after
      → (j : ℕ) (list : History) → length before ≤ j → shown_in (slice_get after j) ≡ Some list → Begins s.published list
  shown_later [] h s before k t after run j list from is = absurd (none_behind before after j list run.2 from is)
  shown_later (e ∷ es) h s before k t after run j list from is = elim (cases_eq j (length before)) [
    | inl same ↦ shows s before e run.2 run.1 list run.3 (sym (ap (λ (o : Option EventAnswer). shown_in o) (ap (λ (n : ℕ). slice_get after n) same ∙ here_is es run.0 run.1 before run.2 k t after run.7)) ∙ is)
    | inr other ↦ begins_both s.published run.1.published list (grows s before e run.2 run.1 run.3)
        (shown_later es run.0 run.1 (before ++ run.2 ∷ []) k t after run.7 j list (omega (arith, from, other, length-append before (run.2 ∷ []))) is)
  ]

  -- an entry that was answered as accepted stands at its number in the front of its receipt, with which each list begins that is shown later
  pub accepted_shown : (es : List Event) (h : House V) (s : State) (before : List EventAnswer) (k : House V) (t : State) (after : List EventAnswer) → Runs view h s before es k t after
      → (i j place : ℕ) (r : Receipt History) (list : History) → length before ≤ i → i < j → receipt_at (slice_get after i) place ≡ Some r → shown_in (slice_get after j) ≡ Some list
      → Begins r.front list × ((e : EntryValue) × (slice_get r.front.entries (r.number - 1) ≡ Some e))
  accepted_shown [] h s before k t after run i j place r list from later is shown = absurd (no_receipt_behind before after i place r run.2 from is)
  accepted_shown (e ∷ es) h s before k t after run i j place r list from later is shown = elim (cases_eq i (length before)) [
    | inl same ↦
        let at : receipt_at (Some run.2) place ≡ Some r = sym (ap (λ (o : Option EventAnswer). receipt_at o place) (ap (λ (n : ℕ). slice_get after n) same ∙ here_is es run.0 run.1 before run.2 k t after run.7)) ∙ is in
        let there = accepts s before e run.2 run.1 place r run.3 at in
        let begins = shown_later es run.0 run.1 (before ++ run.2 ∷ []) k t after run.7 j list (omega (arith, from, later, same, length-append before (run.2 ∷ []))) shown in
        (subst (λ (x : History). Begins x list) (sym there.0) begins, (there.1.0, there.1.2))
    | inr other ↦ accepted_shown es run.0 run.1 (before ++ run.2 ∷ []) k t after run.7 i j place r list (omega (arith, from, other, length-append before (run.2 ∷ []))) later is shown
  ]
