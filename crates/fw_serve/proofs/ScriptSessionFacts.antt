-- Scripts that are stopped, as sessions.
use Rattle.std.proofs.Common.{◌≡◌, ◌∙◌, ◌+◌, ◌++◌, ◌∷◌, [], ℕ, List, append-nil, arith, length, take, refl, sym, ap, subst, inl, inr}
use Rattle.std.proofs.Math.Seq.{drop-append_seam, take-append_seam}
use Rattle.std.proofs.lemmas.List.{length-append, take_all}
use Rattle.fw_disk.specs.Volume.{Image}
use Rattle.fw_entry.specs.Entry.{EntryValue}
use Rattle.fw_recover.proofs.Standing.{no_more}
use Rattle.fw_recover.specs.Stands.{StandsFor, StandsForEither}
use Rattle.fw_script.specs.Plain.{PlainCommand}
use Rattle.fw_snapshot.proofs.VerdictFacts.{accepted_in_parts}
use Rattle.fw_snapshot.specs.History.{History}
use Rattle.fw_snapshot.specs.Judging.{judged}
use Rattle.fw_snapshot.specs.Verdicts.{accepted_of, kept_by, verdicts_on, with_more}
use Rattle.fw_snapshot.specs.declared.verdict.Verdict.{Verdict}
use Rattle.fw_snapshot.specs.declared.verdict.Verdict.TheVariants as verdict
use Rattle.fw_serve.specs.Answers.{Answer}
use Rattle.fw_serve.specs.Flight.{FailsOnSent, IsInFlight}
use Rattle.fw_serve.specs.Runs.{AnswersEach, AreJudged, AreTold, Sends, verdict_lines}
use Rattle.fw_serve.specs.Sessions.{HasKept, IsSessionOf, SessionValue}
use Rattle.fw_serve.specs.Standings.{AreInFlight, IsBetween, Standing}
use Rattle.fw_serve.proofs.MoveFacts.{more_twice}
use Rattle.fw_serve.proofs.RunFacts.{told}
use Rattle.fw_serve.proofs.StopFacts.{AddsOne, found_within}

take_last : (xs : List EntryValue) (e : EntryValue) → take (length xs + 1) (xs ++ e ∷ []) ≡ xs ++ e ∷ []
take_last xs e =
    let long : length (xs ++ e ∷ []) ≡ length xs + 1 = length-append xs (e ∷ []) in
    take_all (length xs + 1) (xs ++ e ∷ []) (omega (arith, long))

-- ---- the session of a script
-- these entries were answered, and those behind them were in flight
abbrev session : List EntryValue → List EntryValue → Image → SessionValue
session entries last image = record { entries = entries ++ last; answered = length entries; in_flight = 1; image = image }

-- the image has what was answered, and none of those in flight
kept_none : (before found : History) (entries last : List EntryValue) (image : Image) → found ≡ with_more before (accepted_of before.entries entries) → StandsFor found image
    → HasKept before (session entries last image)
kept_none before found entries last image holds stands = record {
  first = length entries;
  none_or_all = inl refl;
  stands =
      subst (λ (h : History). StandsFor h image) (holds ∙ ap (λ (l : List EntryValue). with_more before (accepted_of before.entries l)) (sym (take-append_seam entries last))) stands;
}

one_accepted : (held : List EntryValue) (e : EntryValue) → judged held e ≡ verdict.Accept → accepted_of held (e ∷ []) ≡ e ∷ []
unfolding accepted_of
one_accepted held e is = append-nil (kept_by (judged held e) e) ∙ ap (λ (v : Verdict). kept_by v e) is

pub with_last : (before middle : History) (entries : List EntryValue) (e : EntryValue) → middle ≡ with_more before (accepted_of before.entries entries) → judged middle.entries e ≡ verdict.Accept
    → with_more middle (e ∷ []) ≡ with_more before (accepted_of before.entries (entries ++ e ∷ []))
with_last before middle entries e holds is =
    let own : judged (before.entries ++ accepted_of before.entries entries) e ≡ verdict.Accept = subst (λ (h : History). judged h.entries e ≡ verdict.Accept) holds is in
    ap (λ (h : History). with_more h (e ∷ [])) holds
    ∙ more_twice before (accepted_of before.entries entries) (e ∷ [])
    ∙ ap (λ (l : List EntryValue). with_more before (accepted_of before.entries entries ++ l)) (sym (one_accepted (before.entries ++ accepted_of before.entries entries) e own))
    ∙ ap (λ (l : List EntryValue). with_more before l) (sym (accepted_in_parts before.entries entries (e ∷ [])))

-- it has the one in flight as well
kept_last : (before middle found : History) (entries : List EntryValue) (e : EntryValue) (image : Image) → middle ≡ with_more before (accepted_of before.entries entries)
    → judged middle.entries e ≡ verdict.Accept → found ≡ with_more middle (e ∷ []) → StandsFor found image → HasKept before (session entries (e ∷ []) image)
kept_last before middle found entries e image holds is grows stands = record {
  first = length entries + 1;
  none_or_all = inr refl;
  stands =
      subst (λ (h : History). StandsFor h image)
      (grows ∙ with_last before middle entries e holds is ∙ ap (λ (l : List EntryValue). with_more before (accepted_of before.entries l)) (sym (take_last entries e))) stands;
}

-- what is said of the session of a script
abbrev IsStopped : (EntryValue → Type 0) → History → List PlainCommand → List (List ℕ) → Image → Type 0
IsStopped InFlight held commands answers image = (s : SessionValue) × (s.image ≡ image) × IsSessionOf InFlight held commands answers s × HasKept held s

is_session : (F : EntryValue → Type 0) (held : History) (commands : List PlainCommand) (answers : List (List ℕ)) (entries last : List EntryValue) (image : Image)
    → AreJudged held.currency commands answers entries (verdict_lines (length held.entries) (verdicts_on held.entries entries)) → AreInFlight F last
    → IsSessionOf F held commands answers (session entries last image)
is_session F held commands answers entries last image are flies = record {
  are_judged =
      subst (λ (l : List EntryValue). AreJudged held.currency commands answers l (verdict_lines (length held.entries) (verdicts_on held.entries l))) (sym (take-append_seam entries last)) are;
  flies = subst (λ (l : List EntryValue). AreInFlight F l) (sym (drop-append_seam entries last)) flies;
}

-- nothing in flight was kept
stopped_none : (F : EntryValue → Type 0) (held middle found : History) (commands : List PlainCommand) (answers : List (List ℕ)) (image : Image) → AreTold held commands answers middle
    → found ≡ middle → StandsFor found image → IsStopped F held commands answers image
stopped_none F held middle found commands answers image are same stands = (
  session are.entries [] image,
  refl,
  is_session F held commands answers are.entries [] image are.are_judged (inl refl),
  kept_none held found are.entries [] image (same ∙ are.holds) stands,
)

-- the entry in flight was kept
stopped_last : (F : EntryValue → Type 0) (held middle found : History) (commands : List PlainCommand) (answers : List (List ℕ)) (image : Image) (e : EntryValue) → AreTold held commands answers middle
    → F e → judged middle.entries e ≡ verdict.Accept → found ≡ with_more middle (e ∷ []) → StandsFor found image → IsStopped F held commands answers image
stopped_last F held middle found commands answers image e are flies is grows stands = (
  session are.entries (e ∷ []) image,
  refl,
  is_session F held commands answers are.entries (e ∷ []) image are.are_judged (inr (e, refl, flies)),
  kept_last held middle found are.entries e image are.holds is grows stands,
)

-- within a command
stopped_by : (held : History) (middle : Standing) (commands : List PlainCommand) (answers : List (List ℕ)) (running : PlainCommand) (image : Image) (found : History) → AreTold held commands answers middle.history
    → AddsOne middle running found → StandsFor found image → IsStopped (Sends held.currency running) held commands answers image
stopped_by held middle commands answers running image found are (inl same) stands =
    stopped_none (Sends held.currency running) held middle.history found commands answers image are same stands
stopped_by held middle commands answers running image found are (inr (e, sends, is, has, grows)) stands =
    let own : Sends held.currency running e = subst (λ (currency : List ℕ). Sends currency running e) (ap (λ (h : History). h.currency) are.holds) sends in
    stopped_last (Sends held.currency running) held middle.history found commands answers image e are own is grows stands

pub script_stopped : (before middle next : Standing) (commands : List PlainCommand) (answers : List (List ℕ)) (running : PlainCommand) (answer : List ℕ) (image : Image)
    → AnswersEach before commands answers middle → Answer middle running answer next → IsBetween (FailsOnSent middle running answer) middle.history next image
    → (s : SessionValue) × (s.image ≡ image) × IsSessionOf (Sends before.history.currency running) before.history commands answers s × HasKept before.history s
script_stopped before middle next commands answers running answer image given answered left =
    let found = with_more middle.history left.more in
    stopped_by before.history middle commands answers running image found (told before commands answers middle given)
    (found_within middle next running answer image found answered left left.stands) left.stands

-- after the commands
stopped_after : (F : EntryValue → Type 0) (held after : History) (commands : List PlainCommand) (answers : List (List ℕ)) (more : List EntryValue) (image : Image)
    → ((e : EntryValue) → F e → judged after.entries e ≡ verdict.Accept) → AreTold held commands answers after → AreInFlight F more → StandsForEither after more image
    → IsStopped F held commands answers image
stopped_after F held after commands answers more image accepts are flies (inl stands) = stopped_none F held after after commands answers image are refl stands
stopped_after F held after commands answers more image accepts are (inl none) (inr stands) =
    stopped_none F held after (with_more after more) commands answers image are (ap (λ (l : List EntryValue). with_more after l) none ∙ sym (no_more after)) stands
stopped_after F held after commands answers more image accepts are (inr (e, is, flies)) (inr stands) =
    stopped_last F held after (with_more after more) commands answers image e are flies (accepts e flies) (ap (λ (l : List EntryValue). with_more after l) is) stands

pub after_stopped : (before after : Standing) (commands : List PlainCommand) (answers : List (List ℕ)) (more : List EntryValue) (image : Image)
    → AnswersEach before commands answers after → AreInFlight (IsInFlight before after commands answers) more → StandsForEither after.history more image
    → (s : SessionValue) × (s.image ≡ image) × IsSessionOf (IsInFlight before after commands answers) before.history commands answers s × HasKept before.history s
after_stopped before after commands answers more image given flies left =
    stopped_after (IsInFlight before after commands answers) before.history after.history commands answers more image (λ e f. f.accepted) (told before commands answers after given) flies left
