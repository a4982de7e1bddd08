-- What is opened after sessions of scripts.
use Rattle.std.proofs.Common.{◌≡◌, ◌⊎◌, ◌∙◌, ◌+◌, ◌<◌, ◌≤◌, ◌^◌, ◌++◌, ◌∷◌, [], ℕ, zero, suc, Bool, List, Option, None, Some, true, false, IsTrue, arith, drop, length, slice_get, take, refl, sym, ap, subst, inl, inr, ⊎_elim}
use Rattle.std.proofs.Math.Seq.{take-append_seam}
use Rattle.std.proofs.lemmas.List.{length-append}
use Rattle.std.proofs.lemmas.Option.{slice_get_within}
use Rattle.fw_disk.proofs.Moments.{goes_through, started, weakened}
use Rattle.fw_disk.specs.declared.volume.Side.{Side}
use Rattle.fw_disk.specs.Volume.{Image, LeavesOnly, View}
use Rattle.fw_entry.specs.Entry.{EntryValue}
use Rattle.fw_recover.proofs.Places.{stands_one}
use Rattle.fw_recover.proofs.Standing.{no_more, stands_same}
use Rattle.fw_recover.specs.Stands.{EachStandsFor, StandsFor}
use Rattle.fw_recover.specs.Store.{StoreState}
use Rattle.fw_script.specs.Plain.{PlainCommand, lines, report}
use Rattle.fw_snapshot.specs.History.{History}
use Rattle.fw_snapshot.specs.Verdicts.{accepted_of, with_more}
use Rattle.fw_serve.specs.Answers.{Answer}
use Rattle.fw_serve.specs.Flight.{FailsOnSent, IsInFlight, LeavesWithin, RunsAt, RunsInTurn}
use Rattle.fw_serve.specs.Recovery.{AreStatedLines, EndsASession, IsBefore, IsFlying, IsKeptOf, IsPrefixOf, IsPromised, IsStatedReport, IsStopped, LivesOn, ServedSession, Stops, WasLeft, WereThere, first_of, session_behind, session_within}
use Rattle.fw_serve.specs.Replies.{accepted_line}
use Rattle.fw_serve.specs.Runs.{AnswersEach, AreTold, Sends, StandsAt}
use Rattle.fw_serve.specs.Standings.{AreInFlight, IsBetween, Standing, standing_of}
use Rattle.fw_serve.proofs.FlightFacts.{kept_currency, turn_at, turn_failed, turn_stays, turn_told}
use Rattle.fw_serve.proofs.LeftFacts.{opened}
use Rattle.fw_serve.proofs.MoveFacts.{by_flag, flight_as, more_twice, not_both}
use Rattle.fw_serve.proofs.NumberFacts.{stands_few}
use Rattle.fw_serve.proofs.QuestionFacts.{lines_answered, report_answered}
use Rattle.fw_serve.proofs.RunFacts.{told}
use Rattle.fw_serve.proofs.StopFacts.{AddsOne, found_within}
use Rattle.fw_serve.proofs.WrittenFacts.{accepted_true, slice_get-front}

-- what a volume tells of the moment that is now
abbrev OnlyNow : {V : Type 0} → (V → View) → Type 0
OnlyNow {V = V} view = (v : V) (c : Image) → (view v).left_since (view v).moment c → (view v).may_leave c

-- ---- between two commands
-- as long as the device hasn't failed, each image stands for what the commands left
turn_each : {V : Type 0} (tells : Bool) (view : V → View) (commands : List PlainCommand) (old new : StoreState V) (answers : List (List ℕ)) → RunsInTurn tells view old commands answers new
    → IsTrue tells → EachStandsFor old.history (view old.volume) → new.failed ≡ false → EachStandsFor new.history (view new.volume)
unfolding RunsInTurn
turn_each tells view [] old new answers run told each works = subst (λ (s : StoreState _). EachStandsFor s.history (view s.volume)) (sym run.1) each
turn_each tells view (d ∷ commands) old new answers run told each works =
    by_flag (EachStandsFor new.history (view new.volume)) run.1.failed
    (λ failed. absurd (not_both _ (ap (λ (s : StoreState _). s.failed) (turn_stays tells view commands run.1 new run.2 run.5 failed) ∙ failed) works))
    (λ goes. turn_each tells view commands run.1 new run.2 run.5 told (run.4.each told goes) works)

-- within a command that was run once the device had failed there is what there was before it
still_now : {V : Type 0} (tells : Bool) (view : V → View) (left next : StoreState V) (command : PlainCommand) (answer : List ℕ) (image : Image)
    → OnlyNow view → LeavesWithin tells view left command answer next → (view next.volume).left_since (view left.volume).moment image
    → left.failed ≡ true → (view left.volume).may_leave image
still_now tells view left next command answer image only within moment fails =
    only left.volume image (subst (λ (s : StoreState _). (view s.volume).left_since (view left.volume).moment image) (within.stays fails) moment)

-- ---- what is opened after a session
-- it is what the commands left, or this with the entry in flight
abbrev GrowsBy : (EntryValue → Type 0) → History → History → Type 0
GrowsBy F h next = (more : List EntryValue) × AreInFlight F more × (next ≡ with_more h more)

grows_none : (F : EntryValue → Type 0) (h next : History) → next ≡ h → GrowsBy F h next
grows_none F h next same = ([], inl refl, same ∙ no_more h)

-- what the session began with has its currency
same_money : {V : Type 0} (tells : Bool) (view : V → View) (held : History) (s : ServedSession V)
    → IsStopped tells view held s → s.left.history.currency ≡ held.currency
same_money tells view held s stopped =
    kept_currency s.commands (standing_of view s.begun) (standing_of view s.left) s.answers
    (turn_told tells view s.commands s.begun s.left s.answers stopped.runs)
    ∙ ap (λ (h : History). h.currency) stopped.holds

flies_failed : {V : Type 0} (tells : Bool) (view : V → View) (held : History) (s : ServedSession V)
    (e : EntryValue) → IsStopped tells view held s → s.left.failed ≡ true
    → IsInFlight (standing_of view s.begun) (standing_of view s.left) s.commands s.answers e → IsFlying held.currency s e
flies_failed tells view held s e stopped fails flies =
    let sends =
    subst (λ (currency : List ℕ). Sends currency flies.command e)
    (ap (λ (h : History). h.currency) stopped.holds) flies.sends in
    record {
      sent = inr (fails, (flies.place, flies.command, flies.asked, flies.fails, sends));
      accepted = flies.accepted;
      of_form = flies.of_form;
    }

-- once the device has failed
grows_failed : {V : Type 0} (tells : Bool) (view : V → View) (held next : History)
    (s : ServedSession V) (image : Image) → IsTrue tells → IsStopped tells view held s
    → s.left.failed ≡ true
    → (view s.left.volume).may_leave image → StandsFor next image → GrowsBy
    (IsFlying held.currency s) s.left.history next
grows_failed tells view held next s image told stopped fails now stands =
    let left =
    turn_failed tells view s.commands s.begun s.left s.answers stopped.runs told stopped.works fails
    in
    let flies =
    flight_as (IsInFlight (standing_of view s.begun) (standing_of view s.left) s.commands s.answers)
    (IsFlying held.currency s) left.0
    (λ e. flies_failed tells view held s e stopped fails) left.1 in
    ⊎_elim (λ was. grows_none (IsFlying held.currency s) s.left.history next
    (stands_one image next s.left.history stands was))
    (λ grown. (left.0, flies, stands_one image next (with_more s.left.history left.0) stands grown))
    (left.2 image now)

-- between two commands, where it hasn't
grows_between : {V : Type 0} (tells : Bool) (view : V → View) (held next : History)
    (s : ServedSession V) (image : Image) → IsTrue tells → IsStopped tells view held s
    → s.left.failed ≡ false
    → (view s.left.volume).may_leave image → StandsFor next image → GrowsBy
    (IsFlying held.currency s) s.left.history next
grows_between tells view held next s image told stopped goes now stands =
    grows_none (IsFlying held.currency s) s.left.history next
    (stands_one image next s.left.history stands
    (turn_each tells view s.commands s.begun s.left s.answers stopped.runs told stopped.each goes
    image now))

-- within one, where it hasn't
grows_running : {V : Type 0} (tells : Bool) (view : V → View) (held next : History)
    (s : ServedSession V) (command : PlainCommand) → IsStopped tells view held s
    → s.left.failed ≡ false
    → s.running ≡ Some command → AddsOne (standing_of view s.left) command next → GrowsBy
    (IsFlying held.currency s) s.left.history next
grows_running tells view held next s command stopped goes runs (inl same) =
    grows_none (IsFlying held.currency s) s.left.history next same
grows_running tells view held next s command stopped goes runs
    (inr (e, sends, accepted, has, grows)) =
    let first =
    subst (λ (currency : List ℕ). Sends currency command e)
    (same_money tells view held s stopped) sends in
    let flies : IsFlying held.currency s e =
    record { sent = inl (goes, (command, runs, first)); accepted = accepted; of_form = has } in
    (e ∷ [], inr (e, refl, flies), grows)

grows_by : {V : Type 0} (tells : Bool) (view : V → View) (held next : History) (s : ServedSession V) (running : Option PlainCommand) (image : Image)
    → IsTrue tells → IsStopped tells view held s → s.running ≡ running → Stops tells view s.left running image → StandsFor next image → GrowsBy (IsFlying held.currency s) s.left.history next
grows_by tells view held next s None image told stopped runs now stands =
    by_flag (GrowsBy (IsFlying held.currency s) s.left.history next) s.left.failed
    (λ fails. grows_failed tells view held next s image told stopped fails now stands)
    (λ goes. grows_between tells view held next s image told stopped goes now stands)
grows_by tells view held next s (Some command) image told stopped runs stop stands =
    by_flag (GrowsBy (IsFlying held.currency s) s.left.history next) s.left.failed
    (λ fails. grows_failed tells view held next s image told stopped fails
    (stop.still fails) stands)
    (λ goes.
    grows_running tells view held next s command stopped goes runs
    (found_within (standing_of view s.left) (standing_of view stop.next) command stop.answer image next stop.answered (stop.between told goes) stands))

-- there is something to be opened
failed_stands : {V : Type 0} (tells : Bool) (view : V → View) (held : History) (s : ServedSession V)
    (image : Image) → IsTrue tells → IsStopped tells view held s → s.left.failed ≡ true
    → (view s.left.volume).may_leave image → (g : History) × StandsFor g image
failed_stands tells view held s image told stopped fails now =
    let left =
    turn_failed tells view s.commands s.begun s.left s.answers stopped.runs told stopped.works fails
    in
    ⊎_elim (λ was. (s.left.history, was)) (λ grown. (with_more s.left.history left.0, grown))
    (left.2 image now)

stands_by : {V : Type 0} (tells : Bool) (view : V → View) (held : History) (s : ServedSession V) (running : Option PlainCommand) (image : Image)
    → IsTrue tells → IsStopped tells view held s → Stops tells view s.left running image → (g : History) × StandsFor g image
stands_by tells view held s None image told stopped now =
    by_flag ((g : History) × StandsFor g image) s.left.failed
    (λ fails. failed_stands tells view held s image told stopped fails now)
    (λ goes. (
      s.left.history,
      turn_each tells view s.commands s.begun s.left s.answers stopped.runs told stopped.each goes
          image now,
    ))
stands_by tells view held s (Some command) image told stopped stop =
    by_flag ((g : History) × StandsFor g image) s.left.failed
    (λ fails. failed_stands tells view held s image told stopped fails (stop.still fails))
    (λ goes.
    let between = stop.between told goes in
    (with_more s.left.history between.more, between.stands))

-- ---- it is what the session began with, and what was accepted
told_of : {V : Type 0} (tells : Bool) (view : V → View) (held : History) (s : ServedSession V) → IsStopped tells view held s → AreTold held s.commands s.answers s.left.history
told_of tells view held s stopped =
    subst (λ (h : History). AreTold h s.commands s.answers s.left.history) stopped.holds
    (told (standing_of view s.begun) s.commands s.answers (standing_of view s.left) (turn_told tells view s.commands s.begun s.left s.answers stopped.runs))

grows_of : {V : Type 0} (tells : Bool) (view : V → View) (held next : History) (s : ServedSession V) → IsTrue tells → IsStopped tells view held s → StandsFor next s.image → GrowsBy (IsFlying held.currency s) s.left.history next
grows_of tells view held next s told stopped stands = grows_by tells view held next s s.running s.image told stopped refl stopped.stops stands

kept_of : {V : Type 0} (tells : Bool) (view : V → View) (held next : History) (s : ServedSession V) → IsTrue tells → IsStopped tells view held s → StandsFor next s.image → IsKeptOf held s next
kept_of tells view held next s told stopped stands =
    let grows = grows_of tells view held next s told stopped stands in
    let are = told_of tells view held s stopped in
    record { told = are; flying = grows.0; in_flight = grows.1; is = grows.2 }

-- ---- sessions, one after the other
lives_more : {V : Type 0} (tells : Bool) (view : V → View) (earlier : List (ServedSession V)) (held now found : History) (last : ServedSession V) → LivesOn tells view held earlier now
    → IsStopped tells view now last → StandsFor found last.image → LivesOn tells view held (earlier ++ last ∷ []) found
unfolding LivesOn
lives_more tells view [] held now found last lived stopped stands = (found, subst (λ (h : History). IsStopped tells view h last) lived stopped, stands, refl)
lives_more tells view (s ∷ earlier) held now found last lived stopped stands =
    (lived.0, lived.1, lived.2, lives_more tells view earlier lived.0 now found last lived.3 stopped stands)

prefix_of : {V : Type 0} (tells : Bool) (view : V → View) (sessions : List (ServedSession V)) (held found : History)
    → IsTrue tells → LivesOn tells view held sessions found → IsPrefixOf held sessions found
unfolding LivesOn IsPrefixOf
prefix_of tells view [] held found told lived = lived
prefix_of tells view (s ∷ sessions) held found told lived =
    (lived.0, kept_of tells view held lived.0 s told lived.1 lived.2, prefix_of tells view sessions lived.0 found told lived.3)

-- what is opened later has what was there
abbrev Begins : History → History → Type 0
Begins h found = (more : List EntryValue) × (found ≡ with_more h more)

begins_on : (a b c : History) → Begins a b → Begins b c → Begins a c
begins_on a b c first second =
    (first.0 ++ second.0, second.1 ∙ ap (λ (h : History). with_more h second.0) first.1 ∙ more_twice a first.0 second.0)

begins_grown : (F : EntryValue → Type 0) (h next : History) → GrowsBy F h next → Begins h next
begins_grown F h next grows = (grows.0, grows.2)

begins_lived : {V : Type 0} (tells : Bool) (view : V → View) (sessions : List (ServedSession V)) (held found : History)
    → IsTrue tells → LivesOn tells view held sessions found → Begins held found
unfolding LivesOn
begins_lived tells view [] held found told lived = ([], lived ∙ no_more held)
begins_lived tells view (s ∷ sessions) held found told lived =
    let kept = kept_of tells view held lived.0 s told lived.1 lived.2 in
    let begins =
    begins_on held s.left.history lived.0 (
      accepted_of held.entries kept.told.entries,
      kept.told.holds,
    ) (kept.flying, kept.is) in
    begins_on held lived.0 found begins
    (begins_lived tells view sessions lived.0 found told lived.3)

-- ---- one of the sessions
-- a session, those before it, and those after it
record LivesAt {V : Type 0} (tells : Bool) (view : V → View) (held : History)
    (sessions : List (ServedSession V)) (place : ℕ) (s : ServedSession V)
    (found : History) : Type 0 where
  now : History
  earlier : LivesOn tells view held (take place sessions) now
  stopped : IsStopped tells view now s
  next : History
  stands : StandsFor next s.image
  later : LivesOn tells view next (drop (suc place) sessions) found

lives_at : {V : Type 0} (tells : Bool) (view : V → View) (sessions : List (ServedSession V))
    (held found : History) (place : ℕ) (s : ServedSession V)
    → LivesOn tells view held sessions found
    → slice_get sessions place ≡ Some s → LivesAt tells view held sessions place s found
unfolding LivesOn
lives_at tells view [] held found place s lived among = absurd (cc)
lives_at tells view (x ∷ sessions) held found zero s lived among =
    let own : x ≡ s = cc in
    record {
      now = held;
      earlier = refl;
      stopped = subst (λ (y : ServedSession _). IsStopped tells view held y) own lived.1;
      next = lived.0;
      stands = subst (λ (y : ServedSession _). StandsFor lived.0 y.image) own lived.2;
      later = lived.3;
    }
lives_at tells view (x ∷ sessions) held found (suc place) s lived among =
    let at = lives_at tells view sessions lived.0 found place s lived.3 among in
    record {
      now = at.now;
      earlier = (lived.0, lived.1, lived.2, at.earlier);
      stopped = at.stopped;
      next = at.next;
      stands = at.stands;
      later = at.later;
    }

-- what is opened in the end has what its commands left
begins_left : {V : Type 0} (tells : Bool) (view : V → View) (held found : History)
    (sessions : List (ServedSession V)) (place : ℕ) (s : ServedSession V)
    → IsTrue tells → LivesAt tells view held sessions place s found → Begins s.left.history found
begins_left tells view held found sessions place s told at =
    let next =
    begins_grown (IsFlying at.now.currency s) s.left.history at.next
    (grows_of tells view at.now at.next s told at.stopped at.stands) in
    begins_on s.left.history at.next found next (begins_lived tells view
    (drop (suc place) sessions) at.next found told at.later)

few_before : (h found : History) → Begins h found → length h.entries ≤ length found.entries
few_before h found begins =
    let all : length found.entries ≡ length h.entries + length begins.0 =
    ap (λ (g : History). length g.entries) begins.1 ∙ length-append h.entries begins.0 in
    omega (arith, all)

-- ---- what was acknowledged
abbrev IsThere : List ℕ → PlainCommand → History → ℕ → Type 0
IsThere currency command found n = (e : EntryValue) × Sends currency command e × StandsAt found.entries n e

there_later : (currency : List ℕ) (command : PlainCommand) (h found : History) (n : ℕ) → Begins h found → IsThere currency command h n → IsThere currency command found n
there_later currency command h found n begins (e, sends, at) =
    (e, sends, (at.0, at.1, ap (λ (g : History). slice_get g.entries at.0) begins.1 ∙ slice_get-front h.entries begins.0 at.0 e at.2))

there_within : (currency : List ℕ) (command : PlainCommand) (h : History) (n : ℕ)
    → IsThere currency command h n → n ≤ length h.entries
there_within currency command h n (e, sends, at) =
    omega (arith, at.1, slice_get_within h.entries at.0 e at.2)

there_on : {V : Type 0} (tells : Bool) (view : V → View) (sessions : List (ServedSession V)) (held found : History) (place turn n : ℕ) (s : ServedSession V) (command : PlainCommand)
    → IsTrue tells → LivesOn tells view held sessions found → length found.entries < 2 ^ 64
    → slice_get sessions place ≡ Some s → slice_get s.commands turn ≡ Some command
    → slice_get s.answers turn ≡ Some (accepted_line n) → IsThere held.currency command found n
there_on tells view sessions held found place turn n s command told lived few among asked says =
    let at = lives_at tells view sessions held found place s lived among in
    let begins = begins_left tells view held found sessions place s told at in
    let given = turn_told tells view s.commands s.begun s.left s.answers at.stopped.runs in
    let fewer : length s.left.history.entries < 2 ^ 64 =
    omega (arith, few_before s.left.history found begins, few) in
    let own =
    accepted_true s.commands (standing_of view s.begun)
    (standing_of view s.left) s.answers turn n command given asked says fewer in
    let first = begins_lived tells view (take place sessions) held at.now told at.earlier in
    let same : s.begun.history.currency ≡ held.currency =
    ap (λ (h : History). h.currency) (at.stopped.holds ∙ first.1) in
    subst (λ (currency : List ℕ). IsThere currency command found n) same
    (there_later s.begun.history.currency command s.left.history found n begins own)

-- ---- what is asked
stated_report : (found : History) (before after : Standing) (key : List ℕ) (from to : ℕ) (answer : List ℕ) → before.history ≡ found → Answer before (report key from to) answer after
    → IsStatedReport found.entries key from to answer
stated_report found before after key from to answer same given =
    subst (λ (h : History). IsStatedReport h.entries key from to answer) same (report_answered before after key from to answer given).0

stated_lines : (found : History) (before after : Standing) (from to : ℕ) (answer : List ℕ) → before.history ≡ found → Answer before (lines from to) answer after
    → AreStatedLines found.entries from to answer
stated_lines found before after from to answer same given =
    subst (λ (h : History). AreStatedLines h.entries from to answer) same (lines_answered before after from to answer given).0

-- ---- what was printed
-- a place in the front of a list
taken_at : {A : Type 0} (xs : List A) (n place : ℕ) (x : A) → place < n
    → slice_get xs place ≡ Some x → slice_get (take n xs) place ≡ Some x
taken_at xs zero place x less there = absurd (omega (arith, less))
taken_at [] (suc n) place x less there = absurd (cc)
taken_at (y ∷ xs) (suc n) zero x less there = there
taken_at (y ∷ xs) (suc n) (suc place) x less there =
    taken_at xs n place x (omega (arith, less)) there

told_begins : (before after : Standing) (commands : List PlainCommand) (answers : List (List ℕ)) → AnswersEach before commands answers after → Begins before.history after.history
told_begins before after commands answers given =
    let are = told before commands answers after given in
    (accepted_of before.history.entries are.entries, are.holds)

-- one command, and those behind it
answers_on : (before next after : Standing) (command : PlainCommand) (answer : List ℕ)
    (commands : List PlainCommand) (answers : List (List ℕ)) → Answer before command answer next
    → AnswersEach next commands answers after → AnswersEach before (command ∷ commands)
    (answer ∷ answers) after
unfolding AnswersEach
answers_on before next after command answer commands answers first rest =
    (answer, next, answers, first, rest, refl)

-- the first entries of what is opened
first_ones : (h found : History) → Begins h found → h ≡ first_of (length h.entries) found
first_ones h found begins =
    let own : List EntryValue → History = λ es. record { currency = h.currency; entries = es } in
    let front = take (length h.entries) (h.entries ++ begins.0) in
    let first : first_of (length h.entries) found ≡ own front =
    ap (λ (g : History). first_of (length h.entries) g) begins.1 in
    sym (first ∙ ap own (take-append_seam h.entries begins.0))

module _ {V : Type 0} (tells : Bool) (view : V → View) (sessions : List (ServedSession V))
    (held found : History) (place turn : ℕ) (s : ServedSession V) (command : PlainCommand)
    (answer : List ℕ) (is : IsTrue tells)
    (lived : LivesOn tells view held sessions found) (few : length found.entries < 2 ^ 64)
    (among : slice_get sessions place ≡ Some s)
    (at : LivesAt tells view held sessions place s found)
    (asked : RunsAt tells view s.begun s.commands s.answers turn command answer s.left) where
  abbrev known : History
  known = asked.middle.history

  begins_known : Begins known found
  begins_known =
      let behind =
      turn_told tells view (drop (suc turn) s.commands) asked.next s.left
      (drop (suc turn) s.answers) asked.behind in
      let rest =
      answers_on (standing_of view asked.middle) (standing_of view asked.next)
      (standing_of view s.left) command answer (drop (suc turn) s.commands)
      (drop (suc turn) s.answers) asked.answered behind in
      let left =
      told_begins (standing_of view asked.middle) (standing_of view s.left)
      (command ∷ drop (suc turn) s.commands) (answer ∷ drop (suc turn) s.answers) rest in
      begins_on known s.left.history found left
      (begins_left tells view held found sessions place s is at)

  few_now : length s.begun.history.entries ≤ length known.entries
  few_now =
      few_before s.begun.history known (told_begins (standing_of view s.begun)
      (standing_of view asked.middle) (take turn s.commands) (take turn s.answers) asked.told)

  fewer : length known.entries < 2 ^ 64
  fewer = omega (arith, few_before known found begins_known, few)

  -- in the same session
  acknowledged_here : (before m : ℕ) (other : PlainCommand) → before < turn
      → slice_get s.commands before ≡ Some other → slice_get s.answers before ≡ Some
      (accepted_line m)
      → m ≤ length known.entries
  acknowledged_here before m other earlier sent says =
      there_within s.begun.history.currency other known m
      (accepted_true (take turn s.commands) (standing_of view s.begun)
      (standing_of view asked.middle) (take turn s.answers) before m other asked.told
      (taken_at s.commands turn before other earlier sent)
      (taken_at s.answers turn before (accepted_line m) earlier says) fewer)

  -- in a session before it
  acknowledged_earlier : (earlier before m : ℕ) (t : ServedSession V) (other : PlainCommand)
      → earlier < place → slice_get sessions earlier ≡ Some t
      → slice_get t.commands before ≡ Some other
      → slice_get t.answers before ≡ Some (accepted_line m) → m ≤ length known.entries
  acknowledged_earlier earlier before m t other less there sent says =
      let began : length at.now.entries ≡ length s.begun.history.entries =
      ap (λ (h : History). length h.entries) (sym at.stopped.holds) in
      let below : length at.now.entries < 2 ^ 64 = omega (arith, began, few_now, fewer) in
      let own =
      there_on tells view
      (take place sessions) held at.now earlier before m t other is at.earlier below
      (taken_at sessions place earlier t less there) sent says in
      omega (arith, there_within held.currency other at.now m own, began, few_now)

  acknowledged_known : (earlier before m : ℕ) (t : ServedSession V) (other : PlainCommand)
      → IsBefore earlier before place turn → slice_get sessions earlier ≡ Some t
      → slice_get t.commands before ≡ Some other → slice_get t.answers before ≡ Some
      (accepted_line m) → m ≤ length known.entries
  acknowledged_known earlier before m t other (inl less) there sent says =
      acknowledged_earlier earlier before m t other less there sent says
  acknowledged_known earlier before m t other (inr (same, less)) there sent says =
      let both : Some t ≡ Some s = sym there ∙ ap (λ (k : ℕ). slice_get sessions k) same ∙ among in
      let own : t ≡ s = cc in
      acknowledged_here before m other less (subst
      (λ (x : ServedSession V). slice_get x.commands before ≡ Some other) own sent)
      (subst (λ (x : ServedSession V). slice_get x.answers before ≡ Some
      (accepted_line m)) own says)

  were_there : WereThere sessions found place turn s (length known.entries)
  were_there = record {
    opened = few_before known found begins_known;
    acknowledged = acknowledged_known;
    told =
        subst (λ (h : History). AreTold s.begun.history (take turn s.commands)
        (take turn s.answers) h) (first_ones known found begins_known)
        (told (standing_of view s.begun) (take turn s.commands) (take turn s.answers)
        (standing_of view asked.middle) asked.told);
  }

  -- the answer to a question is of these entries
  printed : (P : List EntryValue → Type 0) → P known.entries
      → (n : ℕ) × WereThere sessions found place turn s n × P (take n found.entries)
  printed P stated = (
    length known.entries,
    were_there,
    subst (λ (h : History). P h.entries)
        (first_ones known found begins_known) stated,
  )

printed_report : {V : Type 0} (tells : Bool) (view : V → View) (sessions : List (ServedSession V))
    (held found : History) (place turn : ℕ) (s : ServedSession V) (key : List ℕ) (from to : ℕ)
    (answer : List ℕ)
    → IsTrue tells → LivesOn tells view held sessions found → length found.entries < 2 ^ 64
    → slice_get sessions place ≡ Some s → slice_get s.commands turn ≡ Some (report key from to)
    → slice_get s.answers turn ≡ Some answer
    → (n : ℕ) × WereThere sessions found place turn s n × IsStatedReport
    (take n found.entries) key from to answer
printed_report tells view sessions held found place turn s key from to answer is lived few among
    sent says =
    let at = lives_at tells view sessions held found place s lived among in
    let asked =
    turn_at tells view s.commands s.begun s.left s.answers turn
    (report key from to) answer at.stopped.runs sent says in
    printed tells view sessions held found place turn s
    (report key from to) answer is lived few among at asked
    (λ entries. IsStatedReport entries key from to answer)
    (report_answered (standing_of view asked.middle)
    (standing_of view asked.next) key from to answer asked.answered).0

printed_listed : {V : Type 0} (tells : Bool) (view : V → View) (sessions : List (ServedSession V))
    (held found : History) (place turn : ℕ) (s : ServedSession V) (from to : ℕ) (answer : List ℕ)
    → IsTrue tells → LivesOn tells view held sessions found → length found.entries < 2 ^ 64
    → slice_get sessions place ≡ Some s → slice_get s.commands turn ≡ Some (lines from to)
    → slice_get s.answers turn ≡ Some answer
    → (n : ℕ) × WereThere sessions found place turn s n × AreStatedLines
    (take n found.entries) from to answer
printed_listed tells view sessions held found place turn s from to answer is lived few among sent
    says =
    let at = lives_at tells view sessions held found place s lived among in
    let asked =
    turn_at tells view s.commands s.begun s.left s.answers turn
    (lines from to) answer at.stopped.runs sent says in
    printed tells view sessions held found place turn s
    (lines from to) answer is lived few among at asked
    (λ entries. AreStatedLines entries from to answer)
    (lines_answered (standing_of view asked.middle)
    (standing_of view asked.next) from to answer asked.answered).0

-- ---- the promise
pub promised : {V : Type 0} (tells : Bool) (view : V → View) (held : History) (earlier : List (ServedSession V)) (last : ServedSession V) (seen : Image) (found : History)
    → IsTrue tells → WasLeft tells view held earlier last seen → StandsFor found seen
    → ((side : Side) → length (seen side) ≤ 2 ^ 40)
    → IsPromised held (earlier ++ last ∷ []) found
promised tells view held earlier last seen found told left stands short =
    let sessions = earlier ++ last ∷ [] in
    let few = stands_few found seen stands short in
    let own = stands_same found seen last.image stands (λ side. sym (left.reads side)) in
    let lived = lives_more tells view earlier held left.now found last left.lived left.stopped own in
    let whole = opened found last.image own in
    record {
      prefix = prefix_of tells view sessions held found told lived;
      acknowledged =
          λ place turn n s command. there_on tells view sessions held found place turn n s command
          told lived few;
      whole = whole.0;
      reported = stated_report found;
      listed = stated_lines found;
      printed =
          λ place turn s key from to answer. printed_report tells view sessions held found place
          turn s key from to answer told lived few;
      printed_lines =
          λ place turn s from to answer. printed_listed tells view sessions held found place turn s
          from to answer told lived few;
      adds_up = whole.1;
    }

pub left_stands : {V : Type 0} (tells : Bool) (view : V → View) (held : History) (earlier : List (ServedSession V)) (last : ServedSession V) (seen : Image)
    → IsTrue tells → WasLeft tells view held earlier last seen → (g : History) × StandsFor g seen
left_stands tells view held earlier last seen told left =
    let (g, stands) = stands_by tells view left.now last last.running last.image told left.stopped left.stopped.stops in
    (g, stands_same g last.image seen stands left.reads)

-- ---- a script that was served
pub stops_within : {V : Type 0} (tells : Bool) (view : V → View) (begun ended : StoreState V) (commands : List PlainCommand) (answers : List (List ℕ)) (place : ℕ) (command : PlainCommand) (answer : List ℕ)
    (image : Image) → OnlyNow view → begun.failed ≡ false → EachStandsFor begun.history (view begun.volume) → (at : RunsAt tells view begun commands answers place command answer ended)
    → (view at.next.volume).left_since (view at.middle.volume).moment image
    → IsStopped tells view begun.history (session_within begun commands answers place command at.middle image)
stops_within tells view begun ended commands answers place command answer image only works each at moment = record {
  holds = refl;
  each = each;
  works = works;
  runs = at.before;
  stops = record {
    answer = answer;
    next = at.next;
    answered = at.answered;
    between = λ told goes. (at.within.any_moment told goes).each image moment;
    still = still_now tells view at.middle at.next command answer image only at.within moment;
  };
}

pub stops_behind : {V : Type 0} (tells : Bool) (view : V → View) (begun ended : StoreState V) (commands : List PlainCommand) (answers : List (List ℕ)) (image : Image) → begun.failed ≡ false
    → EachStandsFor begun.history (view begun.volume) → RunsInTurn tells view begun commands answers ended → (view ended.volume).may_leave image
    → IsStopped tells view begun.history (session_behind begun commands answers ended image)
stops_behind tells view begun ended commands answers image works each runs now = record { holds = refl; each = each; works = works; runs = runs; stops = now }

-- the first session of all, that a crash behind these commands ended
pub left_behind : {V : Type 0} (tells : Bool) (view : V → View) (begun ended : StoreState V)
    (commands : List PlainCommand) (answers : List (List ℕ)) (image : Image) → begun.failed ≡ false
    → EachStandsFor begun.history (view begun.volume)
    → RunsInTurn tells view begun commands answers ended → (view ended.volume).may_leave image
    → WasLeft tells view begun.history [] (session_behind begun commands answers ended image) image
unfolding LivesOn
left_behind tells view begun ended commands answers image works each runs now =
    let stopped = stops_behind tells view begun ended commands answers image works each runs now in
    record { now = begun.history; lived = refl; stopped = stopped; reads = λ side. refl }

-- a crash ended the commands at some place, between two or within the next one
record StopsAt {V : Type 0} (tells : Bool) (view : V → View) (begun : StoreState V) (commands : List PlainCommand) (answers : List (List ℕ)) (image : Image) : Type 0 where
  place : ℕ
  left : StoreState V
  running : Option PlainCommand
  is_next : (running ≡ None) ⊎ (running ≡ slice_get commands place)
  runs : RunsInTurn tells view begun (take place commands) (take place answers) left
  stops : Stops tells view left running image

stops_first : {V : Type 0} (tells : Bool) (view : V → View) (begun : StoreState V) (commands : List PlainCommand) (answers : List (List ℕ)) (image : Image)
    → (view begun.volume).may_leave image → StopsAt tells view begun commands answers image
unfolding RunsInTurn
stops_first tells view begun commands answers image now = record { place = zero; left = begun; running = None; is_next = inl refl; runs = (refl, refl); stops = now }

stops_later : {V : Type 0} (tells : Bool) (view : V → View) (begun next : StoreState V) (d : PlainCommand) (first : List ℕ) (commands : List PlainCommand) (more : List (List ℕ)) (image : Image)
    → Answer (standing_of view begun) d first (standing_of view next) → LeavesWithin tells view begun d first next
    → StopsAt tells view next commands more image → StopsAt tells view begun (d ∷ commands) (first ∷ more) image
unfolding RunsInTurn
stops_later tells view begun next d first commands more image answered within at = record {
  place = suc at.place;
  left = at.left;
  running = at.running;
  is_next = at.is_next;
  runs = (first, next, take at.place more, answered, within, at.runs, refl);
  stops = at.stops;
}

-- at any moment of the first command
stops_in_first : {V : Type 0} (tells : Bool) (view : V → View) (begun next : StoreState V) (d : PlainCommand) (first : List ℕ) (commands : List PlainCommand) (answers : List (List ℕ))
    → OnlyNow view → IsTrue tells → Answer (standing_of view begun) d first (standing_of view next) → LeavesWithin tells view begun d first next
    → LeavesOnly (view begun.volume) (view next.volume) (λ c. StopsAt tells view begun (d ∷ commands) answers c)
unfolding RunsInTurn
stops_in_first tells view begun next d first commands answers only told answered within =
    let P : Image → Type 0 = λ c. StopsAt tells view begun (d ∷ commands) answers c in
    by_flag (LeavesOnly (view begun.volume) (view next.volume) P) begun.failed
    (λ fails. subst (λ (s : StoreState _). LeavesOnly (view begun.volume) (view s.volume) P) (sym (within.stays fails))
    (started (view begun.volume) P (λ c left. stops_first tells view begun (d ∷ commands) answers c (only begun.volume c left))))
    (λ goes. weakened (view begun.volume) (view next.volume) (λ c. IsBetween (FailsOnSent (standing_of view begun) d first) begun.history (standing_of view next) c) P
    (within.any_moment told goes)
    (λ c between. record {
      place = zero;
      left = begun;
      running = Some d;
      is_next = inr refl;
      runs = (refl, refl);
      stops = record { answer = first; next = next; answered = answered; between = λ _ _. between; still = λ fails. absurd (not_both _ fails goes) };
    }))

stops_since : {V : Type 0} (tells : Bool) (view : V → View) (commands : List PlainCommand) (begun ended : StoreState V) (answers : List (List ℕ)) → OnlyNow view → IsTrue tells
    → RunsInTurn tells view begun commands answers ended → LeavesOnly (view begun.volume) (view ended.volume) (λ c. StopsAt tells view begun commands answers c)
unfolding RunsInTurn
stops_since tells view [] begun ended answers only told run =
    let P : Image → Type 0 = λ c. StopsAt tells view begun [] answers c in
    subst (λ (s : StoreState _). LeavesOnly (view begun.volume) (view s.volume) P) (sym run.1)
    (started (view begun.volume) P (λ c left. stops_first tells view begun [] answers c (only begun.volume c left)))
stops_since tells view (d ∷ commands) begun ended answers only told run =
    goes_through (view begun.volume) (view run.1.volume) (view ended.volume) (λ c. StopsAt tells view begun (d ∷ commands) answers c) (λ c. StopsAt tells view run.1 commands run.2 c)
    (stops_in_first tells view begun run.1 d run.0 commands answers only told run.3 run.4)
    (stops_since tells view commands run.1 ended run.2 only told run.5)
    (λ c at. subst (λ (l : List (List ℕ)). StopsAt tells view begun (d ∷ commands) l c) (sym run.6)
    (stops_later tells view begun run.1 d run.0 commands run.2 c run.3 run.4 at))

-- each image since the first command ends a session
pub ends_since : {V : Type 0} (tells : Bool) (view : V → View) (begun ended : StoreState V) (commands : List PlainCommand) (answers : List (List ℕ)) (image : Image) → OnlyNow view → IsTrue tells
    → begun.failed ≡ false → EachStandsFor begun.history (view begun.volume) → RunsInTurn tells view begun commands answers ended
    → (view ended.volume).left_since (view begun.volume).moment image → EndsASession tells view begun commands answers image
ends_since tells view begun ended commands answers image only told works each run moment =
    let at = (stops_since tells view commands begun ended answers only told run).each image moment in
    record {
      place = at.place;
      left = at.left;
      running = at.running;
      is_next = at.is_next;
      stopped = record { holds = refl; each = each; works = works; runs = at.runs; stops = at.stops };
    }
