-- Runs of commands, and the entry on which the device failed.
use Rattle.std.proofs.Common.{◌≡◌, ◌⊎◌, ◌∙◌, ◌∷◌, ◌++◌, [], ℕ, zero, suc, List, Bool, Err, Ok, OnOk, Option, Result, Some, drop, length, slice_get, take, true, false, IsTrue, refl, sym, ap, subst, inl, inr, append-nil, append_assoc}
use Rattle.std.specs.Io.KnownBytes.{Appends, Keeps}
use Rattle.std.specs.List.{concat}
use Rattle.std.proofs.KnownBytes.{Appends-kept, Appends-nil, Appends-trans}
use Rattle.std.proofs.Math.Seq.{take-suc}
use Rattle.std.proofs.lemmas.List.Folds.{concat-append}
use Rattle.std.proofs.lemmas.Result.{on_ok_weaker}
use Rattle.std.proofs.lemmas.Option.{get_or_from_slice_get, slice_get_within}
use Rattle.fw_disk.specs.Volume.{Image, View}
use Rattle.fw_entry.specs.Entry.{EntryValue}
use Rattle.fw_entry_bytes.specs.Forms.{has_entry}
use Rattle.fw_recover.proofs.Committing.{each_stands}
use Rattle.fw_recover.proofs.Places.{stands_one}
use Rattle.fw_recover.proofs.Standing.{no_more}
use Rattle.fw_recover.specs.Stands.{StandsFor, StandsForEither}
use Rattle.fw_recover.specs.Store.{IsKept, StoreState}
use Rattle.fw_recover.specs.declared.fault.StoreFault.TheVariants as store_fault
use Rattle.fw_script.specs.Commands.{FirstCommand, StartsWithCommands}
use Rattle.fw_script.specs.Plain.{PlainCommand}
use Rattle.fw_snapshot.specs.History.{History}
use Rattle.fw_snapshot.specs.Judging.{judged}
use Rattle.fw_snapshot.specs.Verdicts.{with_more}
use Rattle.fw_snapshot.specs.declared.verdict.Verdict.TheVariants as verdict
use Rattle.fw_serve.specs.Answers.{Answer, lost}
use Rattle.fw_serve.specs.Flight.{FailsOnSent, IsInFlight, IsOneRun, IsRun, LeavesWithin, Runs, RunsAt, RunsInTurn, RunsSoFar, RunsTo}
use Rattle.fw_serve.specs.Replies.{store_fault_line}
use Rattle.fw_serve.specs.Runs.{AnswersEach, Sends}
use Rattle.fw_serve.specs.Served.{IsScriptOf}
use Rattle.fw_serve.specs.Standings.{AreInFlight, LeavesInFlight, Standing, standing_of, Moves}
use Rattle.fw_serve.specs.Writing.{WritesPart}
use Rattle.fw_serve.specs.declared.fault.ServeFault.{ServeFault}
use Rattle.fw_serve.proofs.FailedFacts.{gone_by_answer}
use Rattle.fw_serve.proofs.MoveFacts.{Moves-then, by_flag, failed_stays, flight_as, moved_at, moved_failed, not_both, stands_still}
use Rattle.fw_serve.proofs.RunFacts.{step}
use Rattle.fw_serve.proofs.ServedFacts.{CommandsOf-whole, StartsWithCommands-more}
use Rattle.fw_serve.proofs.WrittenFacts.{same_currency, slice_get-front, slice_get-seam}

-- ---- one command more
same_length : (commands : List PlainCommand) (before after : Standing) (answers : List (List ℕ)) → AnswersEach before commands answers after → length answers ≡ length commands
unfolding AnswersEach
same_length [] before after answers given = ap length given.0
same_length (c ∷ commands) before after answers given = ap length given.5 ∙ ap suc (same_length commands given.1 after given.2 given.4)

pub kept_currency : (commands : List PlainCommand) (before after : Standing) (answers : List (List ℕ)) → AnswersEach before commands answers after
    → after.history.currency ≡ before.history.currency
unfolding AnswersEach
kept_currency [] before after answers given = ap (λ (s : Standing). s.history.currency) given.1
kept_currency (c ∷ commands) before after answers given =
    kept_currency commands given.1 after given.2 given.4 ∙ same_currency before c given.0 given.1 (step before c given.0 given.1 given.3)

concat_more : (answers : List (List ℕ)) (text : List ℕ) → concat (answers ++ text ∷ []) ≡ concat answers ++ text
concat_more answers text = concat-append answers (text ∷ []) ∙ ap (λ (l : List ℕ). concat answers ++ l) (append-nil text)

-- ---- the entry in flight
-- a later command left the store as it was
flies_on : (before middle after : Standing) (commands : List PlainCommand) (answers : List (List ℕ)) (command : PlainCommand) (text : List ℕ) (e : EntryValue) → after ≡ middle
    → IsInFlight before middle commands answers e → IsInFlight before after (commands ++ command ∷ []) (answers ++ text ∷ []) e
flies_on before middle after commands answers command text e same flies = record {
  place = flies.place;
  command = flies.command;
  asked = slice_get-front commands (command ∷ []) flies.place flies.command flies.asked;
  fails = slice_get-front answers (text ∷ []) flies.place (store_fault_line store_fault.Device) flies.fails;
  sends = flies.sends;
  accepted = subst (λ (s : Standing). judged s.history.entries e ≡ verdict.Accept) (sym same) flies.accepted;
  of_form = subst (λ (s : Standing). has_entry s.form e ≡ true) (sym same) flies.of_form;
}

-- the command at this place sends it, and nothing changes behind
flies_at : (before middle next after : Standing) (commands : List PlainCommand) (answers : List (List ℕ)) (place : ℕ) (command : PlainCommand) (text : List ℕ) (e : EntryValue)
    → slice_get commands place ≡ Some command → slice_get answers place ≡ Some text → middle.history.currency ≡ before.history.currency
    → Answer middle command text next → after ≡ next → FailsOnSent middle command text e → IsInFlight before after commands answers e
flies_at before middle next after commands answers place command text e asked says money answered same flies =
    let fails : Answer middle command (store_fault_line store_fault.Device) next = subst (λ (t : List ℕ). Answer middle command t next) flies.1.says answered in
    let left : after ≡ lost middle = same ∙ gone_by_answer middle next command fails in
    record {
      place = place;
      command = command;
      asked = asked;
      fails = says ∙ ap Some flies.1.says;
      sends = subst (λ (currency : List ℕ). Sends currency command e) money flies.0;
      accepted = subst (λ (s : Standing). judged s.history.entries e ≡ verdict.Accept) (sym left) flies.1.accepted;
      of_form = subst (λ (s : Standing). has_entry s.form e ≡ true) (sym left) flies.1.of_form;
    }

-- the last command sends it
flies_last : (before middle after : Standing) (commands : List PlainCommand) (answers : List (List ℕ)) (command : PlainCommand) (text : List ℕ) (e : EntryValue)
    → AnswersEach before commands answers middle → Answer middle command text after → FailsOnSent middle command text e
    → IsInFlight before after (commands ++ command ∷ []) (answers ++ text ∷ []) e
flies_last before middle after commands answers command text e given answered =
    let says : slice_get (answers ++ text ∷ []) (length commands) ≡ Some text =
    subst (λ n. slice_get (answers ++ text ∷ []) n ≡ Some text) (same_length commands before middle answers given) (slice_get-seam answers [] text) in
    flies_at before middle after after (commands ++ command ∷ []) (answers ++ text ∷ []) (length commands) command text e (slice_get-seam commands [] command) says
    (kept_currency commands before middle answers given) answered refl

moves_more : {V : Type 0} (tells : Bool) (view : V → View) (a b c : StoreState V) (commands : List PlainCommand) (answers : List (List ℕ)) (command : PlainCommand) (text : List ℕ)
    → AnswersEach (standing_of view a) commands answers (standing_of view b) → Answer (standing_of view b) command text (standing_of view c)
    → Moves tells view (IsInFlight (standing_of view a) (standing_of view b) commands answers) a b → Moves tells view (FailsOnSent (standing_of view b) command text) b c
    → Moves tells view (IsInFlight (standing_of view a) (standing_of view c) (commands ++ command ∷ []) (answers ++ text ∷ [])) a c
moves_more tells view a b c commands answers command text given answered first second =
    Moves-then tells view (IsInFlight (standing_of view a) (standing_of view b) commands answers) (FailsOnSent (standing_of view b) command text)
    (IsInFlight (standing_of view a) (standing_of view c) (commands ++ command ∷ []) (answers ++ text ∷ [])) a b c first second
    (λ same e. flies_on (standing_of view a) (standing_of view b) (standing_of view c) commands answers command text e (ap (standing_of view) same))
    (λ e. flies_last (standing_of view a) (standing_of view b) (standing_of view c) commands answers command text e given answered)

-- ---- command by command
pub within_one : {V : Type 0} (tells : Bool) (view : V → View) (command : PlainCommand) (answer : List ℕ) (old new : StoreState V) → IsKept tells view old → IsKept tells view new
    → ((c : Image) → (view old.volume).left_since (view old.volume).moment c → (view old.volume).may_leave c)
    → Moves tells view (FailsOnSent (standing_of view old) command answer) old new → LeavesWithin tells view old command answer new
within_one tells view command answer old new kept keeps only moves = record {
  any_moment = λ told works. moved_at tells view (FailsOnSent (standing_of view old) command answer) old new kept only moves told works;
  once_failed = λ told works fails. moved_failed tells view (FailsOnSent (standing_of view old) command answer) old new moves told works fails;
  each = λ told works. each_stands new.form new.generation new.log new.history (view new.volume) (keeps.fresh told works);
  stays = λ failed. failed_stays tells view (FailsOnSent (standing_of view old) command answer) old new moves failed;
}

pub turn_none : {V : Type 0} (tells : Bool) (view : V → View) (s : StoreState V) → RunsInTurn tells view s [] [] s
unfolding RunsInTurn
turn_none tells view s = (refl, refl)

turn_more : {V : Type 0} (tells : Bool) (view : V → View) (commands : List PlainCommand) (a b c : StoreState V) (answers : List (List ℕ)) (command : PlainCommand) (text : List ℕ)
    → RunsInTurn tells view a commands answers b → Answer (standing_of view b) command text (standing_of view c) → LeavesWithin tells view b command text c
    → RunsInTurn tells view a (commands ++ command ∷ []) (answers ++ text ∷ []) c
unfolding RunsInTurn
turn_more tells view [] a b c answers command text run answered within = (
  text,
  c,
  [],
  subst (λ (s : StoreState _). Answer (standing_of view s) command text (standing_of view c)) run.1 answered,
  subst (λ (s : StoreState _). LeavesWithin tells view s command text c) run.1 within,
  (refl, refl),
  ap (λ (l : List (List ℕ)). l ++ text ∷ []) run.0,
)
turn_more tells view (d ∷ commands) a b c answers command text run answered within = (
  run.0,
  run.1,
  run.2 ++ text ∷ [],
  run.3,
  run.4,
  turn_more tells view commands run.1 b c run.2 command text run.5 answered within,
  ap (λ (l : List (List ℕ)). l ++ text ∷ []) run.6,
)

pub turn_told : {V : Type 0} (tells : Bool) (view : V → View) (commands : List PlainCommand) (a b : StoreState V) (answers : List (List ℕ)) → RunsInTurn tells view a commands answers b
    → AnswersEach (standing_of view a) commands answers (standing_of view b)
unfolding RunsInTurn AnswersEach
turn_told tells view [] a b answers run = (run.0, ap (standing_of view) run.1)
turn_told tells view (d ∷ commands) a b answers run = (run.0, standing_of view run.1, run.2, run.3, turn_told tells view commands run.1 b run.2 run.5, run.6)

-- once the device has failed nothing changes
pub turn_stays : {V : Type 0} (tells : Bool) (view : V → View) (commands : List PlainCommand) (old new : StoreState V) (answers : List (List ℕ)) → RunsInTurn tells view old commands answers new
    → old.failed ≡ true → new ≡ old
unfolding RunsInTurn
turn_stays tells view [] old new answers run failed = run.1
turn_stays tells view (d ∷ commands) old new answers run failed =
    let same : run.1 ≡ old = run.4.stays failed in
    turn_stays tells view commands run.1 new run.2 run.5 (ap (λ (s : StoreState _). s.failed) same ∙ failed) ∙ same

-- the first command sent the entry in flight, or a later one
flies_first : (before next after : Standing) (d : PlainCommand) (commands : List PlainCommand) (first : List ℕ) (answers more : List (List ℕ)) (e : EntryValue) → answers ≡ first ∷ more
    → Answer before d first next → after ≡ next → FailsOnSent before d first e → IsInFlight before after (d ∷ commands) answers e
flies_first before next after d commands first answers more e is =
    flies_at before before next after (d ∷ commands) answers zero d first e refl (ap (λ (l : List (List ℕ)). slice_get l zero) is) refl

flies_later : (before next after : Standing) (d : PlainCommand) (commands : List PlainCommand) (first : List ℕ) (answers more : List (List ℕ)) (e : EntryValue) → answers ≡ first ∷ more
    → Answer before d first next → IsInFlight next after commands more e → IsInFlight before after (d ∷ commands) answers e
flies_later before next after d commands first answers more e is answered flies = record {
  place = suc flies.place;
  command = flies.command;
  asked = flies.asked;
  fails = ap (λ (l : List (List ℕ)). slice_get l (suc flies.place)) is ∙ flies.fails;
  sends = subst (λ (currency : List ℕ). Sends currency flies.command e) (same_currency before d first next (step before d first next answered)) flies.sends;
  accepted = flies.accepted;
  of_form = flies.of_form;
}

-- once the device has failed, each image stands for what the commands left, or for this with the entry that the failed one sent
pub turn_failed : {V : Type 0} (tells : Bool) (view : V → View) (commands : List PlainCommand) (old new : StoreState V) (answers : List (List ℕ)) → RunsInTurn tells view old commands answers new
    → IsTrue tells → old.failed ≡ false → new.failed ≡ true
    → LeavesInFlight (IsInFlight (standing_of view old) (standing_of view new) commands answers) new.history (view new.volume)
unfolding RunsInTurn
turn_failed tells view [] old new answers run told works fails = absurd (not_both _ fails (ap (λ (s : StoreState _). s.failed) run.1 ∙ works))
turn_failed tells view (d ∷ commands) old new answers run told works fails =
    let F = IsInFlight (standing_of view old) (standing_of view new) (d ∷ commands) answers in
    by_flag (LeavesInFlight F new.history (view new.volume)) run.1.failed
    (λ failed.
    let left = run.4.once_failed told works failed in
    let same : new ≡ run.1 = turn_stays tells view commands run.1 new run.2 run.5 failed in
    let flies =
    flight_as (FailsOnSent (standing_of view old) d run.0) F left.0
    (λ e. flies_first (standing_of view old) (standing_of view run.1) (standing_of view new) d commands run.0 answers run.2 e run.6 run.3 (ap (standing_of view) same)) left.1 in
    subst (λ (s : StoreState _). LeavesInFlight F s.history (view s.volume)) (sym same) (left.0, flies, left.2))
    (λ goes.
    let left = turn_failed tells view commands run.1 new run.2 run.5 told goes fails in
    let flies =
    flight_as (IsInFlight (standing_of view run.1) (standing_of view new) commands run.2) F left.0
    (λ e. flies_later (standing_of view old) (standing_of view run.1) (standing_of view new) d commands run.0 answers run.2 e run.6 run.3) left.1 in
    (left.0, flies, left.2))

pub turn_at : {V : Type 0} (tells : Bool) (view : V → View) (commands : List PlainCommand) (old new : StoreState V) (answers : List (List ℕ)) (place : ℕ) (command : PlainCommand) (answer : List ℕ)
    → RunsInTurn tells view old commands answers new → slice_get commands place ≡ Some command → slice_get answers place ≡ Some answer
    → RunsAt tells view old commands answers place command answer new
unfolding RunsInTurn AnswersEach
turn_at tells view [] old new answers place command answer run asked answered = absurd (cc)
turn_at tells view (d ∷ commands) old new answers zero command answer run asked answered =
    let own : d ≡ command = cc in
    let there : slice_get (run.0 ∷ run.2) zero ≡ Some answer = subst (λ (l : List (List ℕ)). slice_get l zero ≡ Some answer) run.6 answered in
    let says : run.0 ≡ answer = cc in
    let others : drop (suc zero) answers ≡ run.2 = ap (λ (l : List (List ℕ)). drop (suc zero) l) run.6 in
    record {
      middle = old;
      next = run.1;
      before = (refl, refl);
      told = (refl, refl);
      answered =
          subst (λ (t : List ℕ). Answer (standing_of view old) command t (standing_of view run.1)) says
          (subst (λ (x : PlainCommand). Answer (standing_of view old) x run.0 (standing_of view run.1)) own run.3);
      within = subst (λ (t : List ℕ). LeavesWithin tells view old command t run.1) says (subst (λ (x : PlainCommand). LeavesWithin tells view old x run.0 run.1) own run.4);
      once_failed = λ told works fails. absurd (not_both _ fails works);
      behind = subst (λ (l : List (List ℕ)). RunsInTurn tells view run.1 commands l new) (sym others) run.5;
    }
turn_at tells view (d ∷ commands) old new answers (suc place) command answer run asked answered =
    let there : slice_get (run.0 ∷ run.2) (suc place) ≡ Some answer = subst (λ (l : List (List ℕ)). slice_get l (suc place) ≡ Some answer) run.6 answered in
    let later = turn_at tells view commands run.1 new run.2 place command answer run.5 asked there in
    let first : take (suc place) answers ≡ run.0 ∷ take place run.2 = ap (λ (l : List (List ℕ)). take (suc place) l) run.6 in
    let others : drop (suc (suc place)) answers ≡ drop (suc place) run.2 = ap (λ (l : List (List ℕ)). drop (suc (suc place)) l) run.6 in
    let before : RunsInTurn tells view old (take (suc place) (d ∷ commands)) (take (suc place) answers) later.middle =
    (run.0, run.1, take place run.2, run.3, run.4, later.before, first) in
    record {
      middle = later.middle;
      next = later.next;
      before = before;
      told = (run.0, standing_of view run.1, take place run.2, run.3, later.told, first);
      answered = later.answered;
      within = later.within;
      once_failed = turn_failed tells view (take (suc place) (d ∷ commands)) old later.middle (take (suc place) answers) before;
      behind = subst (λ (l : List (List ℕ)). RunsInTurn tells view later.next (drop (suc place) commands) l new) (sym others) later.behind;
    }

-- ---- what is opened after a command
take_more : {A : Type 0} (xs : List A) (place : ℕ) (x : A) → slice_get xs place ≡ Some x → take place xs ++ x ∷ [] ≡ take (suc place) xs
take_more xs place x there =
    sym (take-suc xs place x (slice_get_within xs place x there) ∙ ap (λ (y : _). take place xs ++ y ∷ []) (get_or_from_slice_get xs place x x there))

-- the commands up to it were run one after the other
turn_upto : {V : Type 0} (tells : Bool) (view : V → View) (commands : List PlainCommand) (old new : StoreState V) (answers : List (List ℕ)) (place : ℕ) (command : PlainCommand) (answer : List ℕ)
    → slice_get commands place ≡ Some command → slice_get answers place ≡ Some answer → (at : RunsAt tells view old commands answers place command answer new)
    → RunsInTurn tells view old (take (suc place) commands) (take (suc place) answers) at.next
turn_upto tells view commands old new answers place command answer asked answered at =
    let run = turn_more tells view (take place commands) old at.middle at.next (take place answers) command answer at.before at.answered at.within in
    subst (λ (l : List PlainCommand). RunsInTurn tells view old l (take (suc place) answers) at.next) (take_more commands place command asked)
    (subst (λ (l : List (List ℕ)). RunsInTurn tells view old (take place commands ++ command ∷ []) l at.next) (take_more answers place answer answered) run)

-- this is what the store has; or, where the device has failed, this and the entry in flight
abbrev IsLeft : (EntryValue → Type 0) → Standing → History → Type 0
IsLeft F after found = (found ≡ after.history) ⊎ ((after.failed ≡ true) × ((e : EntryValue) × F e × (found ≡ with_more after.history (e ∷ []))))

left_flying : (F : EntryValue → Type 0) (after : Standing) (more : List EntryValue) (image : Image) (found : History) → after.failed ≡ true → AreInFlight F more
    → StandsForEither after.history more image → StandsFor found image → IsLeft F after found
left_flying F after more image found fails flies (inl was) stands = inl (stands_one image found after.history stands was)
left_flying F after more image found fails (inl none) (inr grown) stands =
    inl (stands_one image found (with_more after.history more) stands grown ∙ ap (λ (l : List EntryValue). with_more after.history l) none ∙ sym (no_more after.history))
left_flying F after more image found fails (inr (e, is, flies)) (inr grown) stands =
    inr (fails, (e, flies, stands_one image found (with_more after.history more) stands grown ∙ ap (λ (l : List EntryValue). with_more after.history l) is))

pub turn_opened : {V : Type 0} (tells : Bool) (view : V → View) (commands : List PlainCommand) (old new : StoreState V) (answers : List (List ℕ)) (place : ℕ) (command : PlainCommand) (answer : List ℕ) (image : Image)
    (found : History) → IsTrue tells → old.failed ≡ false → slice_get commands place ≡ Some command → slice_get answers place ≡ Some answer
    → (at : RunsAt tells view old commands answers place command answer new) → (view at.next.volume).may_leave image → StandsFor found image
    → IsLeft (IsInFlight (standing_of view old) (standing_of view at.next) (take (suc place) commands) (take (suc place) answers)) (standing_of view at.next) found
turn_opened tells view commands old new answers place command answer image found told works asked answered at now stands =
    let F : EntryValue → Type 0 = IsInFlight (standing_of view old) (standing_of view at.next) (take (suc place) commands) (take (suc place) answers) in
    by_flag (IsLeft F (standing_of view at.next) found) at.next.failed
    (λ fails.
    let run = turn_upto tells view commands old new answers place command answer asked answered at in
    let left = turn_failed tells view (take (suc place) commands) old at.next (take (suc place) answers) run told works fails in
    left_flying F (standing_of view at.next) left.0 image found fails left.1 (left.2 image now) stands)
    (λ goes. inl (stands_one image found at.next.history stands (at.within.each told goes image now)))

-- ---- runs
-- no command was run
pub RunsSoFar-none : {V : Type 0} (tells : Bool) (view : V → View) (script left : List ℕ) (s : StoreState V) (held : Option (List ℕ)) → left ≡ script → RunsSoFar tells view script left s s held held
unfolding StartsWithCommands AnswersEach
RunsSoFar-none tells view script left s held same =
    record { commands = []; answers = []; reads = same; answered = (refl, refl); writes = Appends-nil held; moves = inl refl; in_turn = turn_none tells view s }

-- one more command was done, and its answer written
pub RunsSoFar-more : {V : Type 0} (tells : Bool) (view : V → View) (script left : List ℕ) (command : PlainCommand) (rest : List ℕ) (a b c : StoreState V) (text : List ℕ) (x y z : Option (List ℕ))
    → RunsSoFar tells view script left a b x y → FirstCommand left command rest → Answer (standing_of view b) command text (standing_of view c)
    → Moves tells view (FailsOnSent (standing_of view b) command text) b c → LeavesWithin tells view b command text c → Appends y z text → RunsSoFar tells view script rest a c x z
RunsSoFar-more tells view script left command rest a b c text x y z done first answered moves within wrote = record {
  commands = done.commands ++ command ∷ [];
  answers = done.answers ++ text ∷ [];
  reads = StartsWithCommands-more script done.commands left command rest done.reads first;
  answered = turn_told tells view (done.commands ++ command ∷ []) a c (done.answers ++ text ∷ []) (turn_more tells view done.commands a b c done.answers command text done.in_turn answered within);
  writes = subst (Appends x z) (sym (concat_more done.answers text)) (Appends-trans x y z (concat done.answers) text done.writes wrote);
  moves = moves_more tells view a b c done.commands done.answers command text done.answered answered done.moves moves;
  in_turn = turn_more tells view done.commands a b c done.answers command text done.in_turn answered within;
}

-- one more command was done, and its answer written up to some place
pub Runs-part : {V : Type 0} (tells : Bool) (view : V → View) (script left : List ℕ) (command : PlainCommand) (rest : List ℕ) (a b c : StoreState V) (text : List ℕ) (x y z : Option (List ℕ))
    → RunsSoFar tells view script left a b x y → FirstCommand left command rest → Answer (standing_of view b) command text (standing_of view c)
    → Moves tells view (FailsOnSent (standing_of view b) command text) b c → LeavesWithin tells view b command text c → WritesPart y z text → Runs tells view script a c x z
Runs-part tells view script left command rest a b c text x y z done first answered moves within wrote = record {
  left = rest;
  commands = done.commands ++ command ∷ [];
  answers = done.answers ++ text ∷ [];
  reads = StartsWithCommands-more script done.commands left command rest done.reads first;
  answered = turn_told tells view (done.commands ++ command ∷ []) a c (done.answers ++ text ∷ []) (turn_more tells view done.commands a b c done.answers command text done.in_turn answered within);
  writes = record {
    written = concat done.answers ++ wrote.written;
    unwritten = wrote.unwritten;
    whole = concat_more done.answers text ∙ ap (λ (l : List ℕ). concat done.answers ++ l) wrote.whole ∙ sym (append_assoc (concat done.answers) wrote.written wrote.unwritten);
    writes = Appends-trans x y z (concat done.answers) wrote.written done.writes wrote.writes;
  };
  moves = moves_more tells view a b c done.commands done.answers command text done.answered answered done.moves moves;
  in_turn = turn_more tells view done.commands a b c done.answers command text done.in_turn answered within;
}

-- no further command was run
pub Runs-whole : {V : Type 0} (tells : Bool) (view : V → View) (script left : List ℕ) (a b : StoreState V) (x y z : Option (List ℕ)) → RunsSoFar tells view script left a b x y → Keeps y z
    → Runs tells view script a b x z
Runs-whole tells view script left a b x y z done kept = record {
  left = left;
  commands = done.commands;
  answers = done.answers;
  reads = done.reads;
  answered = done.answered;
  writes = record {
    written = concat done.answers;
    unwritten = [];
    whole = sym (append-nil (concat done.answers));
    writes = Appends-kept x y z (concat done.answers) done.writes kept;
  };
  moves = done.moves;
  in_turn = done.in_turn;
}

always : {T E P : Type 0} (r : Result T E) → P → OnOk r P
always (Ok x) p = p
always (Err e) p = tt

-- all commands were run, and the writer was flushed
pub RunsTo-whole : {V : Type 0} (tells : Bool) (view : V → View) (result : Result (Unit {0}) ServeFault) (script left : List ℕ) (a b : StoreState V) (x y z : Option (List ℕ))
    → RunsSoFar tells view script left a b x y → left ≡ [] → Keeps y z → RunsTo tells view result script a b x z
unfolding Runs-whole
RunsTo-whole tells view result script left a b x y z done none kept = record {
  runs = Runs-whole tells view script left a b x y z done kept;
  whole = always result (CommandsOf-whole script done.commands left done.reads none, Appends-kept x y z (concat done.answers) done.writes kept);
}

-- something failed
pub RunsTo-cut : {V : Type 0} (tells : Bool) (view : V → View) (why : ServeFault) (script : List ℕ) (old new : StoreState V) (held holds : Option (List ℕ))
    → Runs tells view script old new held holds → RunsTo tells view (Err why) script old new held holds
RunsTo-cut tells view why script old new held holds runs = record { runs = runs; whole = tt }

-- of the script that a reader had
pub IsRun-of : {V : Type 0} (tells : Bool) (view : V → View) (bytes : Option (List ℕ)) (script : List ℕ) (old new : StoreState V) (held holds : Option (List ℕ))
    → IsScriptOf bytes script → (runs : Runs tells view script old new held holds) → IsRun bytes (standing_of view old) (standing_of view new) held holds runs.commands runs.answers
IsRun-of tells view bytes script old new held holds given runs = record {
  reads = inr (script, runs.left, given, runs.reads);
  answered = runs.answered;
  writes = runs.writes;
}

-- no script was read
pub IsRun-none : (bytes : Option (List ℕ)) (before : Standing) (held : Option (List ℕ)) → IsRun bytes before before held held [] []
unfolding AnswersEach
IsRun-none bytes before held =
    record { reads = inl refl; answered = (refl, refl); writes = record { written = []; unwritten = []; whole = refl; writes = Appends-nil held } }

-- ---- serving, as one run
pub IsOneRun-of : {V : Type 0} (tells : Bool) (view : V → View) (result : Result (Unit {0}) ServeFault) (bytes : Option (List ℕ)) (script : List ℕ) (old new : StoreState V) (held holds : Option (List ℕ))
    → IsScriptOf bytes script → IsKept tells view old → ((c : Image) → (view old.volume).left_since (view old.volume).moment c → (view old.volume).may_leave c)
    → RunsTo tells view result script old new held holds → IsOneRun tells view result bytes old new held holds
IsOneRun-of tells view result bytes script old new held holds given kept only to =
    let F = IsInFlight (standing_of view old) (standing_of view new) to.runs.commands to.runs.answers in
    record {
      commands = to.runs.commands;
      answers = to.runs.answers;
      run = IsRun-of tells view bytes script old new held holds given to.runs;
      whole = on_ok_weaker result (λ done. record { script = script; given = given; reads = done.0; writes = done.1 }) to.whole;
      in_turn = to.runs.in_turn;
      any_moment = λ told works. moved_at tells view F old new kept only to.runs.moves told works;
      once_failed = λ told works fails. moved_failed tells view F old new to.runs.moves told works fails;
    }

pub IsOneRun-none : {V : Type 0} (tells : Bool) (view : V → View) (why : ServeFault) (bytes : Option (List ℕ)) (s : StoreState V) (held : Option (List ℕ))
    → IsKept tells view s → ((c : Image) → (view s.volume).left_since (view s.volume).moment c → (view s.volume).may_leave c)
    → IsOneRun tells view (Err why) bytes s s held held
IsOneRun-none tells view why bytes s held kept only = record {
  commands = [];
  answers = [];
  run = IsRun-none bytes (standing_of view s) held;
  whole = tt;
  in_turn = turn_none tells view s;
  any_moment = λ told works. stands_still tells view (IsInFlight (standing_of view s) (standing_of view s) [] []) s kept only told works;
  once_failed = λ told works fails. absurd (not_both _ fails works);
}
