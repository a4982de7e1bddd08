-- Scripts that are served on one warehouse, stop after stop, and what is promised of the warehouse
-- that is opened at the end.
use Rattle.std.specs.Prelude.{◌≡◌, ◌⊎◌, ◌<◌, ◌≤◌, ℕ, Bool, true, false, IsTrue, IfErr, IfOk, List, [], ◌∷◌, Option, None, Result, Some, length, slice_get, take}
use Rattle.fw_amortise.specs.LineValue.{LineValue}
use Rattle.fw_disk.specs.declared.volume.Side.{Side}
use Rattle.fw_disk.specs.Volume.{Image, View}
use Rattle.fw_entry.specs.Entry.{EntryValue}
use Rattle.fw_entry_bytes.specs.Forms.{has_entry}
use Rattle.fw_query.specs.OfHistory.{AreLinesOf, IsReportOn}
use Rattle.fw_query.specs.Refusals.{AreRefused, IsRefused}
use Rattle.fw_query.specs.Reports as reports
use Rattle.fw_query.specs.Texts.{lines_text, report_text}
use Rattle.fw_query.specs.declared.fault.QueryFault.{QueryFault}
use Rattle.fw_recover.specs.Stands.{EachStandsFor, StandsFor}
use Rattle.fw_recover.specs.Store.{StoreState}
use Rattle.fw_recover.specs.declared.fault.StoreFault.{StoreFault}
use Rattle.fw_recover.specs.declared.fault.StoreFault.TheVariants as store_fault
use Rattle.fw_script.specs.Plain.{PlainCommand, lines, report}
use Rattle.fw_snapshot.specs.History.{History, commitments_of, rows_of}
use Rattle.fw_snapshot.specs.Judging.{judged}
use Rattle.fw_snapshot.specs.Verdicts.{with_more}
use Rattle.fw_snapshot.specs.declared.verdict.Verdict.TheVariants as verdict
use Rattle.fw_sums.specs.Limits.{IsRange}
use Rattle.fw_serve.specs.Answers.{Answer}
use Rattle.fw_serve.specs.Flight.{FailsOnSent, IsOneRun, RunsInTurn}
use Rattle.fw_serve.specs.Replies.{accepted_line, counted, query_fault_line, store_fault_line}
use Rattle.fw_serve.specs.Runs.{AreTold, Sends, StandsAt}
use Rattle.fw_serve.specs.Standings.{AreInFlight, IsBetween, Standing, standing_of}
use Rattle.fw_serve.specs.Whole.{IsWhole, ReportsAddUp}
use Rattle.fw_serve.specs.declared.fault.ServeFault.{ServeFault}

-- ---- sessions
-- A session: a store was created or opened, a script was served on it, and a crash came.
pub record ServedSession (V : Type 0) : Type 0 where
  -- the store that it began with
  pub begun : StoreState V
  -- the commands that were done before the crash, and their answers, one for each
  pub commands : List PlainCommand
  pub answers : List (List ℕ)
  -- the store that they left
  pub left : StoreState V
  -- the command within which the crash came, if it came within one
  pub running : Option PlainCommand
  -- what the crash left of the two files
  pub image : Image

-- The crash came at some moment of this command, which would have been answered so, and have left
-- this store. What it left stands for the warehouse before the command or after it, or, where the
-- device failed, has the entry that was in flight. Where it had failed before, nothing is written.
pub record StopsWithin {V : Type 0} (tells : Bool) (view : V → View) (left : StoreState V)
    (command : PlainCommand) (image : Image) : Type 0 where
  pub answer : List ℕ
  pub next : StoreState V
  pub answered : Answer (standing_of view left) command answer (standing_of view next)
  pub between : IsTrue tells → left.failed ≡ false
      → IsBetween (FailsOnSent (standing_of view left) command answer) left.history
      (standing_of view next) image
  pub still : left.failed ≡ true → (view left.volume).may_leave image

-- the crash came between two commands, or within one
abbrev pub Stops : {V : Type 0} → Bool → (V → View) → StoreState V → Option PlainCommand → Image
    → Type 0
Stops tells view left None image = (view left.volume).may_leave image
Stops tells view left (Some command) image = StopsWithin tells view left command image

-- A session that began with a warehouse: its store had that warehouse, as had whatever a crash
-- could leave, its device hadn't failed, the commands were run in turn, and then the crash came.
pub record IsStopped {V : Type 0} (tells : Bool) (view : V → View) (held : History)
    (s : ServedSession V) : Type 0 where
  pub holds : s.begun.history ≡ held
  pub each : EachStandsFor s.begun.history (view s.begun.volume)
  pub works : s.begun.failed ≡ false
  pub runs : RunsInTurn tells view s.begun s.commands s.answers s.left
  pub stops : Stops tells view s.left s.running s.image

-- Sessions, one after the other. The first began with the warehouse `held`, each other one with
-- what was opened from what the one before it left, and `found` is what is opened at the end.
unfoldable pub LivesOn : {V : Type 0} → Bool → (V → View) → History → List (ServedSession V)
    → History → Type 0
LivesOn tells view held [] found = found ≡ held
LivesOn tells view held (s ∷ sessions) found =
    (next : History) × IsStopped tells view held s × StandsFor next s.image
    × LivesOn tells view next sessions found

-- these two files read as what a crash left at the end of the last session
pub record WasLeft {V : Type 0} (tells : Bool) (view : V → View) (held : History)
    (earlier : List (ServedSession V)) (last : ServedSession V) (seen : Image) : Type 0 where
  -- what the last session began with
  pub now : History
  pub lived : LivesOn tells view held earlier now
  pub stopped : IsStopped tells view now last
  pub reads : (side : Side) → seen side ≡ last.image side

-- the session that a crash ended where the commands before this place of a script were done and had
-- left this store: between two commands, or within the one that was running
abbrev pub session_at : {V : Type 0} → StoreState V → List PlainCommand → List (List ℕ) → ℕ
    → StoreState V → Option PlainCommand → Image → ServedSession V
session_at begun commands answers place left running image =
    record {
      begun = begun;
      commands = take place commands;
      answers = take place answers;
      left = left;
      running = running;
      image = image;
    }

-- the same, within a command
abbrev pub session_within : {V : Type 0} → StoreState V → List PlainCommand → List (List ℕ) → ℕ
    → PlainCommand → StoreState V → Image → ServedSession V
session_within begun commands answers place command left image =
    session_at begun commands answers place left (Some command) image

-- a crash that left this image ended a session of these commands: at some place of them, between two
-- or within the next one
pub record EndsASession {V : Type 0} (tells : Bool) (view : V → View) (begun : StoreState V)
    (commands : List PlainCommand) (answers : List (List ℕ)) (image : Image) : Type 0 where
  pub place : ℕ
  pub left : StoreState V
  pub running : Option PlainCommand
  pub is_next : (running ≡ None) ⊎ (running ≡ slice_get commands place)
  pub stopped : IsStopped tells view begun.history
      (session_at begun commands answers place left running image)

-- the session that a crash behind these commands ended
abbrev pub session_behind : {V : Type 0} → StoreState V → List PlainCommand → List (List ℕ)
    → StoreState V → Image → ServedSession V
session_behind begun commands answers left image =
    record {
      begun = begun;
      commands = commands;
      answers = answers;
      left = left;
      running = None;
      image = image;
    }

-- ---- what is promised
-- a crash came while a command was sending this entry, and the device had not failed
abbrev pub IsSending : {V : Type 0} → List ℕ → ServedSession V → EntryValue → Type 0
IsSending currency s e =
    (s.left.failed ≡ false)
    × ((command : PlainCommand) × (s.running ≡ Some command) × Sends currency command e)

-- the device failed while a command was sending this entry: it was answered `store S3 Device`
abbrev pub HasFailedOn : {V : Type 0} → List ℕ → ServedSession V → EntryValue → Type 0
HasFailedOn currency s e =
    (s.left.failed ≡ true)
    × ((place : ℕ) × (command : PlainCommand) × (slice_get s.commands place ≡ Some command)
    × (slice_get s.answers place ≡ Some (store_fault_line store_fault.Device))
    × Sends currency command e)

-- The entry in flight when a session ended: it was being sent. It is accepted after all that the
-- session had, and the form of the side in use has it.
pub record IsFlying {V : Type 0} (currency : List ℕ) (s : ServedSession V) (e : EntryValue)
    : Type 0 where
  pub sent : IsSending currency s e ⊎ HasFailedOn currency s e
  pub accepted : judged s.left.history.entries e ≡ verdict.Accept
  pub of_form : has_entry s.left.form e ≡ true

-- What is opened after a session: what it began with, behind it what was accepted of the entries
-- that its answers speak of, in order, then the one in flight, or none, and nothing else.
pub record IsKeptOf {V : Type 0} (held : History) (s : ServedSession V) (next : History)
    : Type 0 where
  -- what the commands left: each entry that the answers speak of is answered by the line of its
  -- verdict, and those that were accepted are there
  pub told : AreTold held s.commands s.answers s.left.history
  pub flying : List EntryValue
  pub in_flight : AreInFlight (IsFlying held.currency s) flying
  pub is : next ≡ with_more s.left.history flying

-- the same, session by session
unfoldable pub IsPrefixOf : {V : Type 0} → History → List (ServedSession V) → History → Type 0
IsPrefixOf held [] found = found ≡ held
IsPrefixOf held (s ∷ sessions) found =
    (next : History) × IsKeptOf held s next × IsPrefixOf next sessions found

-- what a report on these entries is answered: why there is none, or the text of the stated one
abbrev pub IsStatedReport : List EntryValue → List ℕ → ℕ → ℕ → List ℕ → Type 0
IsStatedReport entries key from to answer =
    ((fault : QueryFault) × IsRefused (commitments_of entries) (rows_of entries) key from to fault
    × (answer ≡ query_fault_line fault))
    ⊎ ((found : List reports.EntryValue) × IsRange from to × IsReportOn entries key from to found
    × (answer ≡ counted (report_text found)))

-- what lines of these entries are answered: why there are none, or the text of the stated ones
abbrev pub AreStatedLines : List EntryValue → ℕ → ℕ → List ℕ → Type 0
AreStatedLines entries from to answer =
    ((fault : QueryFault) × AreRefused from to fault × (answer ≡ query_fault_line fault))
    ⊎ ((found : List LineValue) × IsRange from to × AreLinesOf entries from to found
    × (answer ≡ counted (lines_text found)))

-- a command of these sessions was answered before another: in an earlier session, or earlier in the
-- same one
abbrev pub IsBefore : ℕ → ℕ → ℕ → ℕ → Type 0
IsBefore earlier before place turn = (earlier < place) ⊎ ((earlier ≡ place) × (before < turn))

-- a warehouse of its first n entries
abbrev pub first_of : ℕ → History → History
first_of n h = record { currency = h.currency; entries = take n h.entries }

-- How many entries there were when a command of a session was answered. They are the first ones of
-- what is opened at the end.
pub record WereThere {V : Type 0} (sessions : List (ServedSession V)) (found : History)
    (place turn : ℕ) (s : ServedSession V) (n : ℕ) : Type 0 where
  -- each of them is opened
  pub opened : n ≤ length found.entries
  -- each that had been answered `accepted M` by then is among them
  pub acknowledged : (earlier before m : ℕ) (t : ServedSession V) (command : PlainCommand)
      → IsBefore earlier before place turn
      → slice_get sessions earlier ≡ Some t → slice_get t.commands before ≡ Some command
      → slice_get t.answers before ≡ Some (accepted_line m) → m ≤ n
  -- they are what the session began with, and what the answers before the command say was accepted
  pub told : AreTold s.begun.history (take turn s.commands) (take turn s.answers)
      (first_of n found)

-- The promise. `found` is the warehouse after a prefix of the commands that holds each one that
-- was acknowledged, and what is asked of it is answered by the stated allocation of its rows.
pub record IsPromised {V : Type 0} (held : History) (sessions : List (ServedSession V))
    (found : History) : Type 0 where
  -- it is what the first session began with, and of each session what was accepted, in order, and
  -- perhaps the entry that was in flight when it ended
  pub prefix : IsPrefixOf held sessions found
  -- what was answered `accepted N` in any session is the Nth entry
  pub acknowledged : (place turn n : ℕ) (s : ServedSession V) (command : PlainCommand)
      → slice_get sessions place ≡ Some s → slice_get s.commands turn ≡ Some command
      → slice_get s.answers turn ≡ Some (accepted_line n)
      → (e : EntryValue) × Sends held.currency command e × StandsAt found.entries n e
  -- each entry was accepted after those before it, and keeps its limits
  pub whole : IsWhole found.entries
  -- whatever report is asked for, and whatever lines, the answer is the stated one
  pub reported : (before after : Standing) (key : List ℕ) (from to : ℕ) (answer : List ℕ)
      → before.history ≡ found → Answer before (report key from to) answer after
      → IsStatedReport found.entries key from to answer
  pub listed : (before after : Standing) (from to : ℕ) (answer : List ℕ)
      → before.history ≡ found → Answer before (lines from to) answer after
      → AreStatedLines found.entries from to answer
  -- so were the reports and the lines that a session printed: of the entries that there were then
  pub printed : (place turn : ℕ) (s : ServedSession V) (key : List ℕ) (from to : ℕ)
      (answer : List ℕ) → slice_get sessions place ≡ Some s
      → slice_get s.commands turn ≡ Some (report key from to)
      → slice_get s.answers turn ≡ Some answer
      → (n : ℕ) × WereThere sessions found place turn s n
      × IsStatedReport (take n found.entries) key from to answer
  pub printed_lines : (place turn : ℕ) (s : ServedSession V) (from to : ℕ) (answer : List ℕ)
      → slice_get sessions place ≡ Some s → slice_get s.commands turn ≡ Some (lines from to)
      → slice_get s.answers turn ≡ Some answer
      → (n : ℕ) × WereThere sessions found place turn s n
      × AreStatedLines (take n found.entries) from to answer
  -- in them a commitment's Purchase lines have an EffectiveCost of 0, its Used and Unused lines
  -- over its term carry what its purchases cost, to the last nano, and no row counts twice
  pub adds_up : ReportsAddUp found.entries

-- ---- one run
-- A script was served on a store, the volume stopped, and its files were opened again. What is
-- opened is what is promised of this one session; else the device failed, or memory ran out.
pub record KeepsPromise {V : Type 0} (tells : Bool) (view : V → View)
    (served : Result (Unit {0}) ServeFault) (bytes : Option (List ℕ)) (begun : StoreState V)
    (held holds : Option (List ℕ)) (opened : Result (StoreState V) (V × StoreFault))
    : Type 0 where
  -- the store that the script left, and what the stop left of the two files
  pub left : StoreState V
  pub image : Image
  -- the commands that were run, and their answers: what was read, and what was written
  pub run : IsOneRun tells view served bytes begun left held holds
  pub kept : IfOk opened (λ found. IsPromised begun.history
      (session_behind begun run.commands run.answers left image ∷ []) found.history)
  pub otherwise : IfErr opened (λ e. (e.1 ≡ store_fault.Device) ⊎ (e.1 ≡ store_fault.NoMemory))
  -- the volume has counted a failure of the device where one is answered
  pub cause : IfErr opened (λ e. e.1 ≡ store_fault.Device → 0 < (view e.0).failures)
