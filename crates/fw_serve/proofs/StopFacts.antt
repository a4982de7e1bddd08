-- What a crash within a script leaves: what the commands before it left, and at most the entry that the next one sends.
use Rattle.std.proofs.Common.{◌≡◌, ◌⊎◌, ◌∙◌, ◌<◌, ◌^◌, ◌++◌, ◌∷◌, [], ℕ, zero, suc, List, Some, true, length, slice_get, take, refl, sym, ap, inl, inr}
use Rattle.std.proofs.lemmas.List.{append_cancel_left}
use Rattle.fw_disk.specs.Volume.{Image}
use Rattle.fw_entry.specs.Entry.{EntryValue}
use Rattle.fw_entry_bytes.specs.Forms.{has_entry}
use Rattle.fw_recover.proofs.Places.{stands_not_corrupt, stands_not_none, stands_one}
use Rattle.fw_recover.proofs.Standing.{no_more}
use Rattle.fw_recover.specs.Committing.{StandsForFirst, with_first}
use Rattle.fw_recover.specs.Stands.{StandsFor, StandsForEither}
use Rattle.fw_recover.specs.declared.fault.StoreFault.TheVariants as store_fault
use Rattle.fw_script.specs.Plain.{PlainCommand}
use Rattle.fw_snapshot.specs.History.{History}
use Rattle.fw_snapshot.specs.Judging.{judged}
use Rattle.fw_snapshot.specs.Verdicts.{accepted_of, kept_by, with_more}
use Rattle.fw_snapshot.specs.declared.verdict.Verdict.{Verdict}
use Rattle.fw_snapshot.specs.declared.verdict.Verdict.TheVariants as verdict
use Rattle.fw_serve.specs.Answers.{Answer}
use Rattle.fw_serve.specs.Flight.{FailsOnSent, IsInFlight}
use Rattle.fw_serve.specs.Replies.{accepted_line}
use Rattle.fw_serve.specs.Runs.{AnswersEach, Sends, StandsAt}
use Rattle.fw_serve.specs.Sessions.{Opens}
use Rattle.fw_serve.specs.Standings.{IsBetween, Leads, Standing}
use Rattle.fw_serve.specs.Whole.{IsWhole, ReportsAddUp}
use Rattle.fw_serve.proofs.LeftFacts.{opened}
use Rattle.fw_serve.proofs.MoveFacts.{more_twice}
use Rattle.fw_serve.proofs.RunFacts.{OneStep, hindered_leaves, step, told}
use Rattle.fw_serve.proofs.WrittenFacts.{accepted_true, slice_get-front}

-- ---- files that can be opened
opens : (found : History) (image : Image) → StandsFor found image → (h : History) × Opens h image
opens found image stands =
    (found, record { stands = stands; is_there = stands_not_none image found stands; is_sound = λ side at. stands_not_corrupt image found side at stands })

pub opens_first : (before : History) (entries : List EntryValue) (image : Image) → StandsForFirst before entries image → (found : History) × Opens found image
opens_first before entries image left = opens (with_first before left.0 entries) image left.1

pub opens_either : (before : History) (more : List EntryValue) (image : Image) → StandsForEither before more image → (found : History) × Opens found image
opens_either before more image (inl was) = opens before image was
opens_either before more image (inr added) = opens (with_more before more) image added

pub opens_script : (before after : Standing) (commands : List PlainCommand) (answers : List (List ℕ)) (image : Image)
    → IsBetween (IsInFlight before after commands answers) before.history after image → (found : History) × Opens found image
opens_script before after commands answers image left = opens (with_more before.history left.more) image left.stands

pub opens_command : (before after : Standing) (command : PlainCommand) (answer : List ℕ) (image : Image)
    → IsBetween (FailsOnSent before command answer) before.history after image → (found : History) × Opens found image
opens_command before after command answer image left = opens (with_more before.history left.more) image left.stands

-- ---- lists of entries
same_more : (h : History) (xs ys : List EntryValue) → with_more h xs ≡ with_more h ys → xs ≡ ys
same_more h xs ys same = append_cancel_left h.entries xs ys (ap (λ (g : History). g.entries) same)

front_none : (xs ys : List EntryValue) → [] ≡ xs ++ ys → xs ≡ []
front_none [] ys same = refl
front_none (x ∷ xs) ys same = absurd (cc)

front_one : (xs ys : List EntryValue) (e : EntryValue) → e ∷ [] ≡ xs ++ ys → (xs ≡ []) ⊎ (xs ≡ e ∷ [])
front_one [] ys e same = inl refl
front_one (x ∷ xs) ys e same =
    let first : e ≡ x = cc in
    let rest : [] ≡ xs ++ ys = cc in
    inr (ap (λ (l : List EntryValue). x ∷ l) (front_none xs ys rest) ∙ ap (λ (y : EntryValue). y ∷ []) (sym first))

-- ---- what one command adds
-- these are the entries as they were, or with one that the command sends, that is accepted and that the form of the side in use has
abbrev pub AddsOne : Standing → PlainCommand → History → Type 0
AddsOne before command g =
    (g ≡ before.history)
    ⊎ ((e : EntryValue) × Sends before.history.currency command e × (judged before.history.entries e ≡ verdict.Accept) × (has_entry before.form e ≡ true) × (g ≡ with_more before.history (e ∷ [])))

adds_by : (before : Standing) (command : PlainCommand) (g : History) (e : EntryValue) (v : Verdict) → Sends before.history.currency command e → judged before.history.entries e ≡ v
    → (judged before.history.entries e ≡ verdict.Accept → has_entry before.form e ≡ true) → g ≡ with_more before.history (kept_by v e) → AddsOne before command g
adds_by before command g e verdict.Accept sends is has grows = inr (e, sends, is, has is, grows)
adds_by before command g e (verdict.Already last) sends is has grows = inl (grows ∙ sym (no_more before.history))
adds_by before command g e (verdict.Gap expected) sends is has grows = inl (grows ∙ sym (no_more before.history))
adds_by before command g e (verdict.Refused why) sends is has grows = inl (grows ∙ sym (no_more before.history))

adds_step : (before : Standing) (command : PlainCommand) (text : List ℕ) (after : Standing) → OneStep before command text after → AddsOne before command after.history
adds_step before command text after (inl passed) = inl passed.2
adds_step before command text after (inr (e, sends, says, has, grows)) = adds_by before command after.history e (judged before.history.entries e) sends refl has grows

adds_one : (before : Standing) (command : PlainCommand) (text : List ℕ) (after : Standing) → Answer before command text after → AddsOne before command after.history
adds_one before command text after given = adds_step before command text after (step before command text after given)

-- ---- within one command
found_front : (before : Standing) (command : PlainCommand) (found : History) (more : List EntryValue) (e : EntryValue) → found ≡ with_more before.history more → Sends before.history.currency command e
    → judged before.history.entries e ≡ verdict.Accept → has_entry before.form e ≡ true → (more ≡ []) ⊎ (more ≡ e ∷ []) → AddsOne before command found
found_front before command found more e same sends is has (inl none) = inl (same ∙ ap (λ (l : List EntryValue). with_more before.history l) none ∙ sym (no_more before.history))
found_front before command found more e same sends is has (inr one) = inr (e, sends, is, has, same ∙ ap (λ (l : List EntryValue). with_more before.history l) one)

found_one : (before after : Standing) (command : PlainCommand) (answer : List ℕ) (found : History) (more : List EntryValue) → found ≡ with_more before.history more
    → Leads (FailsOnSent before command answer) before.history more after → Answer before command answer after → AddsOne before command after.history → AddsOne before command found
found_one before after command answer found more same (inl (rest, grows)) answered (inl stays) =
    let none : more ≡ [] = front_none more rest (same_more before.history [] (more ++ rest) (sym (no_more before.history) ∙ sym stays ∙ grows)) in
    inl (same ∙ ap (λ (l : List EntryValue). with_more before.history l) none ∙ sym (no_more before.history))
found_one before after command answer found more same (inl (rest, grows)) answered (inr (e, sends, is, has, adds)) =
    found_front before command found more e same sends is has (front_one more rest e (same_more before.history (e ∷ []) (more ++ rest) (sym adds ∙ grows)))
found_one before after command answer found more same (inr (fails, (done, last, flies, is, grows))) answered adds =
    let stays : after.history ≡ before.history = hindered_leaves before command answer after answered (inr (store_fault.Device, flies.1.says)) in
    let none : [] ≡ done = same_more before.history [] done (sym (no_more before.history) ∙ sym stays ∙ grows) in
    let one : more ≡ last ∷ [] = is ∙ ap (λ (l : List EntryValue). l ++ last ∷ []) (sym none) in
    inr (last, flies.0, flies.1.accepted, flies.1.of_form, same ∙ ap (λ (l : List EntryValue). with_more before.history l) one)

pub found_within : (before after : Standing) (command : PlainCommand) (answer : List ℕ) (image : Image) (found : History) → Answer before command answer after
    → IsBetween (FailsOnSent before command answer) before.history after image → StandsFor found image → AddsOne before command found
found_within before after command answer image found answered left stands =
    found_one before after command answer found left.more (stands_one image found (with_more before.history left.more) stands left.stands) left.leads answered
    (adds_one before command answer after answered)

pub left_command : (before after : Standing) (command : PlainCommand) (answer : List ℕ) (image : Image) (found : History) → Answer before command answer after
    → IsBetween (FailsOnSent before command answer) before.history after image → StandsFor found image
    → ((found ≡ before.history)
    ⊎ ((e : EntryValue) × Sends before.history.currency command e × (judged before.history.entries e ≡ verdict.Accept) × (has_entry before.form e ≡ true) × (found ≡ with_more before.history (e ∷ []))))
    × IsWhole found.entries × ReportsAddUp found.entries
left_command before after command answer image found answered left stands =
    let whole = opened found image stands in
    (found_within before after command answer image found answered left stands, whole.0, whole.1)

-- ---- what was answered before
added : (before : Standing) (command : PlainCommand) (found : History) → AddsOne before command found → (more : List EntryValue) × (found ≡ with_more before.history more)
added before command found (inl same) = ([], same ∙ no_more before.history)
added before command found (inr (e, sends, is, has, grows)) = (e ∷ [], grows)

pub left_answered : (before middle next : Standing) (commands : List PlainCommand) (answers : List (List ℕ)) (running : PlainCommand) (answer : List ℕ) (image : Image) (found : History) (place n : ℕ) (command : PlainCommand)
    → AnswersEach before commands answers middle → Answer middle running answer next → IsBetween (FailsOnSent middle running answer) middle.history next image → StandsFor found image
    → slice_get commands place ≡ Some command → slice_get answers place ≡ Some (accepted_line n) → length middle.history.entries < 2 ^ 64
    → (e : EntryValue) × Sends before.history.currency command e × StandsAt found.entries n e
left_answered before middle next commands answers running answer image found place n command given answered left stands asked says few =
    let (e, sends, at) = accepted_true commands before middle answers place n command given asked says few in
    let more = added middle running found (found_within middle next running answer image found answered left stands) in
    (e, sends, (at.0, at.1, ap (λ (h : History). slice_get h.entries at.0) more.1 ∙ slice_get-front middle.history.entries more.0 at.0 e at.2))

-- after the commands, also where the device has failed
either_more : (before found : History) (more : List EntryValue) (image : Image) → StandsForEither before more image → StandsFor found image
    → (rest : List EntryValue) × (found ≡ with_more before rest)
either_more before found more image (inl was) stands = ([], stands_one image found before stands was ∙ no_more before)
either_more before found more image (inr grown) stands = (more, stands_one image found (with_more before more) stands grown)

pub left_answered_after : (before after : Standing) (commands : List PlainCommand) (answers : List (List ℕ)) (more : List EntryValue) (image : Image) (found : History) (place n : ℕ) (command : PlainCommand)
    → AnswersEach before commands answers after → StandsForEither after.history more image → StandsFor found image
    → slice_get commands place ≡ Some command → slice_get answers place ≡ Some (accepted_line n) → length after.history.entries < 2 ^ 64
    → (e : EntryValue) × Sends before.history.currency command e × StandsAt found.entries n e
left_answered_after before after commands answers more image found place n command given either stands asked says few =
    let (e, sends, at) = accepted_true commands before after answers place n command given asked says few in
    let grown = either_more after.history found more image either stands in
    (e, sends, (at.0, at.1, ap (λ (h : History). slice_get h.entries at.0) grown.1 ∙ slice_get-front after.history.entries grown.0 at.0 e at.2))

-- ---- a front of what a script added is what its first commands left
abbrev IsFront : Standing → List PlainCommand → List (List ℕ) → List EntryValue → Type 0
IsFront before commands answers more =
    (place : ℕ) × (middle : Standing) × AnswersEach before (take place commands) (take place answers) middle × (middle.history ≡ with_more before.history more)

abbrev HasFronts : List PlainCommand → Type 0
HasFronts commands = (before after : Standing) (answers : List (List ℕ)) (more rest : List EntryValue) → AnswersEach before commands answers after
    → after.history ≡ with_more before.history (more ++ rest) → IsFront before commands answers more

no_command : (before : Standing) (commands : List PlainCommand) (answers : List (List ℕ)) → IsFront before commands answers []
unfolding AnswersEach
no_command before commands answers = (zero, before, (refl, refl), no_more before.history)

none_front : HasFronts []
unfolding AnswersEach
none_front before after answers [] rest given grows = no_command before [] answers
none_front before after answers (e ∷ more) rest given grows =
    let none : [] ≡ e ∷ (more ++ rest) =
    same_more before.history [] (e ∷ (more ++ rest)) (sym (no_more before.history) ∙ sym (ap (λ (s : Standing). s.history) given.1) ∙ grows) in
    absurd (cc)

front_behind : (c : PlainCommand) (commands : List PlainCommand) (before next : Standing) (first : List ℕ) (answers others : List (List ℕ)) (behind all : List EntryValue) → Answer before c first next
    → answers ≡ first ∷ others → IsFront next commands others behind → with_more next.history behind ≡ with_more before.history all
    → IsFront before (c ∷ commands) answers all
unfolding AnswersEach
front_behind c commands before next first answers others behind all answered is (place, middle, each, holds) whole =
    (suc place, middle, (first, next, take place others, answered, each, ap (λ (l : List (List ℕ)). take (suc place) l) is), holds ∙ whole)

front_more : (c : PlainCommand) (commands : List PlainCommand) → HasFronts commands → (before next after : Standing) (first : List ℕ) (answers others : List (List ℕ)) (e : EntryValue) (more rest : List EntryValue)
    → Answer before c first next → AnswersEach next commands others after → answers ≡ first ∷ others → after.history ≡ with_more before.history (e ∷ (more ++ rest)) → AddsOne before c next.history
    → IsFront before (c ∷ commands) answers (e ∷ more)
front_more c commands fronts before next after first answers others e more rest answered each is grows (inl same) =
    let later = fronts next after others (e ∷ more) rest each (grows ∙ ap (λ (h : History). with_more h (e ∷ (more ++ rest))) (sym same)) in
    front_behind c commands before next first answers others (e ∷ more) (e ∷ more) answered is later (ap (λ (h : History). with_more h (e ∷ more)) same)
front_more c commands fronts before next after first answers others e more rest answered each is grows (inr (d, sends, accepted, has, adds)) =
    let told_later = told next commands others after each in
    let later = accepted_of next.history.entries told_later.entries in
    let whole : after.history ≡ with_more before.history (d ∷ later) = told_later.holds ∙ ap (λ (h : History). with_more h later) adds ∙ more_twice before.history (d ∷ []) later in
    let both : e ∷ (more ++ rest) ≡ d ∷ later = same_more before.history (e ∷ (more ++ rest)) (d ∷ later) (sym grows ∙ whole) in
    let heads : e ≡ d = cc in
    let tails : more ++ rest ≡ later = cc in
    let behind = fronts next after others more rest each (told_later.holds ∙ ap (λ (l : List EntryValue). with_more next.history l) (sym tails)) in
    front_behind c commands before next first answers others more (e ∷ more) answered is behind
    (ap (λ (h : History). with_more h more) adds ∙ more_twice before.history (d ∷ []) more ∙ ap (λ (x : EntryValue). with_more before.history (x ∷ more)) (sym heads))

cons_fronts : (c : PlainCommand) (commands : List PlainCommand) → HasFronts commands → HasFronts (c ∷ commands)
unfolding AnswersEach
cons_fronts c commands fronts before after answers [] rest given grows = no_command before (c ∷ commands) answers
cons_fronts c commands fronts before after answers (e ∷ more) rest given grows =
    front_more c commands fronts before given.1 after given.0 answers given.2 e more rest given.3 given.4 given.5 grows (adds_one before c given.0 given.1 given.3)

fronts_of : (commands : List PlainCommand) → HasFronts commands
fronts_of [] = none_front
fronts_of (c ∷ commands) = cons_fronts c commands (fronts_of commands)

abbrev IsPrefix : Standing → Standing → List PlainCommand → List (List ℕ) → History → Type 0
IsPrefix before after commands answers found =
    ((place : ℕ) × (middle : Standing) × AnswersEach before (take place commands) (take place answers) middle × (found ≡ middle.history))
    ⊎ ((after.failed ≡ true) × ((e : EntryValue) × IsInFlight before after commands answers e × (found ≡ with_more after.history (e ∷ []))))

prefix_by : (before after : Standing) (commands : List PlainCommand) (answers : List (List ℕ)) (found : History) (more : List EntryValue) → AnswersEach before commands answers after
    → found ≡ with_more before.history more → Leads (IsInFlight before after commands answers) before.history more after → IsPrefix before after commands answers found
prefix_by before after commands answers found more given same (inl (rest, grows)) =
    let (place, middle, answered, holds) = fronts_of commands before after answers more rest given grows in
    inl (place, middle, answered, same ∙ sym holds)
prefix_by before after commands answers found more given same (inr (fails, (done, last, flies, is, grows))) =
    let whole : found ≡ with_more after.history (last ∷ []) =
    same ∙ ap (λ (l : List EntryValue). with_more before.history l) is ∙ sym (more_twice before.history done (last ∷ [])) ∙ ap (λ (h : History). with_more h (last ∷ [])) (sym grows) in
    inr (fails, (last, flies, whole))

pub left_prefix : (before after : Standing) (commands : List PlainCommand) (answers : List (List ℕ)) (image : Image) (found : History) → AnswersEach before commands answers after
    → IsBetween (IsInFlight before after commands answers) before.history after image → StandsFor found image
    → ((place : ℕ) × (middle : Standing) × AnswersEach before (take place commands) (take place answers) middle × (found ≡ middle.history))
    ⊎ ((after.failed ≡ true) × ((e : EntryValue) × IsInFlight before after commands answers e × (found ≡ with_more after.history (e ∷ []))))
left_prefix before after commands answers image found given left stands =
    prefix_by before after commands answers found left.more given (stands_one image found (with_more before.history left.more) stands left.stands) left.leads
