-- What a crash leaves: the warehouse that is opened from it.
use Rattle.std.proofs.Common.{◌≡◌, ◌⊎◌, ◌∙◌, ◌+◌, ◌<◌, ◌≤◌, ◌∷◌, [], ℕ, zero, suc, List, All, Some, true, arith, refl, sym, ap, subst, inl, inr, ⊎_elim, get_or, length, slice_get}
use Rattle.std.proofs.lemmas.List.Elements.{All-append, All-head, All-nil, All-tail}
use Rattle.fw_disk.specs.declared.volume.Side.{Side}
use Rattle.fw_disk.specs.Volume.{Image}
use Rattle.fw_entry.specs.Entry.{EntryValue}
use Rattle.fw_entry.specs.Spelling.{IsEntry}
use Rattle.fw_entry_bytes.specs.Forms.{has_entry}
use Rattle.fw_entry_bytes.specs.declared.form.Form.{Form}
use Rattle.fw_recover.proofs.Places.{stands_one, stands_not_corrupt, stands_not_none}
use Rattle.fw_recover.proofs.Running.{answered, answered_all}
use Rattle.fw_recover.specs.Committing.{HasAnswered, StandsForFirst, with_first}
use Rattle.fw_recover.specs.Corrupt.{CorruptAt}
use Rattle.fw_recover.specs.Stands.{SideTells, StandsFor, StandsForEither, StandsForNone, joined}
use Rattle.fw_recover.specs.declared.fault.StoreFault.TheVariants as store_fault
use Rattle.fw_recover.proofs.Standing.{no_more}
use Rattle.fw_script.specs.Plain.{PlainCommand}
use Rattle.fw_segment.specs.Groups.{IsGroupOf}
use Rattle.fw_snapshot.specs.History.{History}
use Rattle.fw_snapshot.specs.Judging.{judged}
use Rattle.fw_snapshot.specs.Verdicts.{taken, with_more}
use Rattle.fw_snapshot.specs.declared.verdict.Verdict.TheVariants as verdict
use Rattle.fw_serve.specs.Flight.{IsInFlight}
use Rattle.fw_serve.specs.Replies.{store_fault_line}
use Rattle.fw_serve.specs.Runs.{AnswersEach, Sends}
use Rattle.fw_serve.specs.Standings.{AreInFlight, IsBetween, Leads, Standing}
use Rattle.fw_serve.specs.Whole.{IsWhole, ReportsAddUp}
use Rattle.fw_serve.proofs.FailedFacts.{device_not_closed, entries_closed}
use Rattle.fw_serve.proofs.MoveFacts.{more_twice}
use Rattle.fw_serve.proofs.OneAnswerFacts.{entry_one}
use Rattle.fw_serve.proofs.WholeFacts.{whole_adds_up}

-- ---- files that stand for a warehouse
joined_each : (form : Form) (groups : List (List EntryValue)) → All (IsGroupOf form) groups → All IsEntry (joined groups)
joined_each form [] each = All-nil IsEntry
joined_each form (g ∷ groups) each =
    All-append IsEntry g (joined groups) (All-head (IsGroupOf form) g groups each).0.each (joined_each form groups (All-tail (IsGroupOf form) g groups each))

told_each : (generation : ℕ) (h : History) (file : List ℕ) → SideTells generation h file → All IsEntry h.entries
told_each generation h file tells =
    subst (λ (k : History). All IsEntry k.entries) (sym tells.is_history)
    (All-append IsEntry tells.state.entries (joined tells.groups) tells.spells.history.each (joined_each tells.form tells.groups tells.each))

pub stands_whole : (found : History) (image : Image) → StandsFor found image → IsWhole found.entries
stands_whole found image stands = record { legal = stands.tells.legal; each = told_each _ found (image stands.side) stands.tells }

-- the warehouse that is opened is whole, and its reports add up
pub opened : (found : History) (image : Image) → StandsFor found image → IsWhole found.entries × ReportsAddUp found.entries
opened found image stands =
    let whole = stands_whole found image stands in
    (whole, whole_adds_up found.entries whole)

-- ---- between two calls, and in the middle of one
pub left_between : (before now : History) (entries : List EntryValue) (count : ℕ) (image : Image) → now ≡ with_first before count entries → StandsFor now image → HasAnswered before entries count image
left_between before now entries count image is stands = answered_all before now entries count image is stands

at_place : (entries : List EntryValue) (place : ℕ) (e : EntryValue) → slice_get entries place ≡ Some e → (place < length entries) × (e ≡ get_or entries place e)
at_place [] place e there = absurd (cc)
at_place (d ∷ entries) zero e there = (omega arith, cc)
at_place (d ∷ entries) (suc place) e there =
    let rest = at_place entries place e there in
    let below = rest.0 in
    (omega arith, rest.1)

pub left_within : (before now : History) (entries : List EntryValue) (count : ℕ) (e : EntryValue) (image : Image) → now ≡ with_first before count entries → slice_get entries count ≡ Some e
    → StandsForEither now (taken now.entries e) image → HasAnswered before entries count image
left_within before now entries count e image is there either =
    let stands = at_place entries count e there in
    answered before now entries count e stands.0 stands.1 is image either

-- ---- entries that are committed one by one
pub left_run : (before found : History) (entries : List EntryValue) (count : ℕ) (image : Image) → HasAnswered before entries count image → StandsFor found image
    → (n : ℕ) × (count ≤ n) × (n ≤ count + 1) × (found ≡ with_first before n entries) × IsWhole found.entries × ReportsAddUp found.entries
left_run before found entries count image left stands =
    let same = stands_one image found (with_first before left.first entries) stands left.stands in
    let whole = opened found image stands in
    (left.first, left.all, left.one_more, same, whole.0, whole.1)

-- it opens as a warehouse, and as nothing else
pub left_opens : (before : History) (entries : List EntryValue) (count : ℕ) (image : Image) → HasAnswered before entries count image
    → (found : History) × StandsFor found image × (StandsForNone image → ⊥) × ((side : Side) (at : ℕ) → CorruptAt image side at → ⊥)
left_opens before entries count image left =
    let found = with_first before left.first entries in
    (found, left.stands, stands_not_none image found left.stands, λ side at. stands_not_corrupt image found side at left.stands)

pub left_first : (before found : History) (entries : List EntryValue) (image : Image) → StandsForFirst before entries image → StandsFor found image
    → (n : ℕ) × (found ≡ with_first before n entries) × IsWhole found.entries × ReportsAddUp found.entries
left_first before found entries image left stands =
    let whole = opened found image stands in
    (left.0, stands_one image found (with_first before left.0 entries) stands left.1, whole.0, whole.1)

-- ---- entries that are committed as one group
either_found : (before found : History) (more : List EntryValue) (image : Image) → StandsForEither before more image → StandsFor found image → (found ≡ before) ⊎ (found ≡ with_more before more)
either_found before found more image (inl was) stands = inl (stands_one image found before stands was)
either_found before found more image (inr added) stands = inr (stands_one image found (with_more before more) stands added)

pub left_group : (before found : History) (more : List EntryValue) (image : Image) → StandsForEither before more image → StandsFor found image
    → ((found ≡ before) ⊎ (found ≡ with_more before more)) × IsWhole found.entries × ReportsAddUp found.entries
left_group before found more image left stands =
    let whole = opened found image stands in
    (either_found before found more image left stands, whole.0, whole.1)

-- ---- a script
-- this was found: one entry more than the store has, which a command sends that was answered `store S3 Device`
abbrev HasOneMore : History → Standing → Standing → List PlainCommand → List (List ℕ) → Type 0
HasOneMore found before after commands answers =
    (place : ℕ) × (command : PlainCommand) × (last : EntryValue) × (slice_get commands place ≡ Some command) × (slice_get answers place ≡ Some (store_fault_line store_fault.Device))
    × Sends before.history.currency command last × (judged after.history.entries last ≡ verdict.Accept) × (has_entry after.form last ≡ true) × (found ≡ with_more after.history (last ∷ []))

one_more : (found : History) (before after : Standing) (commands : List PlainCommand) (answers : List (List ℕ)) (e : EntryValue) → IsInFlight before after commands answers e
    → found ≡ with_more after.history (e ∷ []) → HasOneMore found before after commands answers
one_more found before after commands answers e flies grows = (flies.place, flies.command, e, flies.asked, flies.fails, flies.sends, flies.accepted, flies.of_form, grows)

-- the store has what was found and perhaps more; or its device failed, and one entry more than it has was found
abbrev IsFrontOf : History → Standing → Standing → List PlainCommand → List (List ℕ) → Type 0
IsFrontOf found before after commands answers =
    ((rest : List EntryValue) × (after.history ≡ with_more found rest))
    ⊎ ((after.failed ≡ true) × HasOneMore found before after commands answers)

front : (before after : Standing) (commands : List PlainCommand) (answers : List (List ℕ)) (found : History) (more : List EntryValue) → found ≡ with_more before.history more
    → Leads (IsInFlight before after commands answers) before.history more after → IsFrontOf found before after commands answers
front before after commands answers found more same (inl given) =
    inl (given.0, given.1 ∙ sym (more_twice before.history more given.0) ∙ ap (λ (h : History). with_more h given.0) (sym same))
front before after commands answers found more same (inr given) =
    let (fails, (done, last, flies, is, grows)) = given in
    inr (
      fails,
      one_more found before after commands answers last flies
          (
          same
          ∙ ap (λ (l : List EntryValue). with_more before.history l) is
          ∙ sym (more_twice before.history done (last ∷ []))
          ∙ ap (λ (h : History). with_more h (last ∷ [])) (sym grows)
          ),
    )

pub left_script : (before after : Standing) (commands : List PlainCommand) (answers : List (List ℕ)) (found : History) (image : Image)
    → IsBetween (IsInFlight before after commands answers) before.history after image → StandsFor found image
    → (more : List EntryValue) × (found ≡ with_more before.history more) × IsFrontOf found before after commands answers × IsWhole found.entries × ReportsAddUp found.entries
left_script before after commands answers found image left stands =
    let same = stands_one image found (with_more before.history left.more) stands left.stands in
    let whole = opened found image stands in
    (left.more, same, front before after commands answers found left.more same left.leads, whole.0, whole.1)

-- after a script whose device failed
after_found : (before after : Standing) (commands : List PlainCommand) (answers : List (List ℕ)) (found : History) (more : List EntryValue)
    → AreInFlight (IsInFlight before after commands answers) more → (found ≡ after.history) ⊎ (found ≡ with_more after.history more)
    → (found ≡ after.history) ⊎ HasOneMore found before after commands answers
after_found before after commands answers found more flies (inl same) = inl same
after_found before after commands answers found more (inl none) (inr grows) =
    inl (grows ∙ ap (λ (l : List EntryValue). with_more after.history l) none ∙ sym (no_more after.history))
after_found before after commands answers found more (inr (e, is, flies)) (inr grows) =
    inr (one_more found before after commands answers e flies (grows ∙ ap (λ (l : List EntryValue). with_more after.history l) is))

pub left_after : (before after : Standing) (commands : List PlainCommand) (answers : List (List ℕ)) (more : List EntryValue) (found : History) (image : Image)
    → AreInFlight (IsInFlight before after commands answers) more → StandsForEither after.history more image → StandsFor found image
    → ((found ≡ after.history) ⊎ HasOneMore found before after commands answers) × IsWhole found.entries × ReportsAddUp found.entries
left_after before after commands answers more found image flies either stands =
    let whole = opened found image stands in
    (after_found before after commands answers found more flies (either_found after.history found more image either stands), whole.0, whole.1)

-- ---- at most one entry is in flight
later_not : (before after : Standing) (commands : List PlainCommand) (answers : List (List ℕ)) (e f : EntryValue) → AnswersEach before commands answers after
    → (a : IsInFlight before after commands answers e) (b : IsInFlight before after commands answers f) → a.place < b.place → ⊥
later_not before after commands answers e f given a b later =
    device_not_closed (store_fault_line store_fault.Device) refl
    (entries_closed before after commands answers a.place b.place b.command (store_fault_line store_fault.Device) f given a.fails later b.asked b.fails b.sends)

same_place : (before after : Standing) (commands : List PlainCommand) (answers : List (List ℕ)) (e f : EntryValue) → AnswersEach before commands answers after
    → (a : IsInFlight before after commands answers e) (b : IsInFlight before after commands answers f) → (a.place < b.place) ⊎ ((a.place ≡ b.place) ⊎ (b.place < a.place)) → a.place ≡ b.place
same_place before after commands answers e f given a b (inl later) = absurd (later_not before after commands answers e f given a b later)
same_place before after commands answers e f given a b (inr (inl same)) = same
same_place before after commands answers e f given a b (inr (inr earlier)) = absurd (later_not before after commands answers f e given b a earlier)

compared : (m n : ℕ) → (m < n) ⊎ ((m ≡ n) ⊎ (n < m))
compared zero zero = inr (inl refl)
compared zero (suc n) = inl (omega arith)
compared (suc m) zero = inr (inr (omega arith))
compared (suc m) (suc n) = ⊎_elim (λ less. inl (omega (arith, less))) (λ other. inr (⊎_elim (λ same. inl (ap suc same)) (λ more. inr (omega (arith, more))) other)) (compared m n)

some_one : {A : Type 0} (a b : A) → Some a ≡ Some b → a ≡ b
some_one a b same = cc

pub flies_one : (before after : Standing) (commands : List PlainCommand) (answers : List (List ℕ)) (e f : EntryValue) → AnswersEach before commands answers after
    → IsInFlight before after commands answers e → IsInFlight before after commands answers f → e ≡ f
flies_one before after commands answers e f given a b =
    let places : a.place ≡ b.place = same_place before after commands answers e f given a b (compared a.place b.place) in
    let command : a.command ≡ b.command = some_one a.command b.command (sym a.asked ∙ ap (λ n. slice_get commands n) places ∙ b.asked) in
    entry_one before.history.currency b.command e f (subst (λ (x : PlainCommand). Sends before.history.currency x e) command a.sends) b.sends
