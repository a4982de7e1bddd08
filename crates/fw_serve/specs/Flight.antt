-- The entry that was in flight when the device failed: the one that a script was sending.
use Rattle.std.specs.Prelude.{◌≡◌, ◌⊎◌, ℕ, suc, Bool, true, false, IsTrue, List, [], ◌∷◌, OnOk, Option, Ok, Result, Some, drop, slice_get, take}
use Rattle.std.specs.Io.KnownBytes.{Appends}
use Rattle.std.specs.List.{concat}
use Rattle.fw_disk.specs.Volume.{LeavesOnly, View}
use Rattle.fw_entry.specs.Entry.{CommandValue, EntryValue}
use Rattle.fw_entry_bytes.specs.Forms.{has_entry}
use Rattle.fw_recover.specs.Stands.{EachStandsFor}
use Rattle.fw_recover.specs.Store.{StoreState}
use Rattle.fw_recover.specs.declared.fault.StoreFault.TheVariants as store_fault
use Rattle.fw_script.specs.Commands.{CommandsOf, StartsWithCommands}
use Rattle.fw_script.specs.Plain.{PlainCommand}
use Rattle.fw_snapshot.specs.Judging.{judged}
use Rattle.fw_snapshot.specs.declared.verdict.Verdict.TheVariants as verdict
use Rattle.fw_serve.specs.Answers.{Answer, entry_made}
use Rattle.fw_serve.specs.Replies.{store_fault_line}
use Rattle.fw_serve.specs.Runs.{AnswersEach, Sends}
use Rattle.fw_serve.specs.Served.{IsScriptOf}
use Rattle.fw_serve.specs.Standings.{Standing, standing_of, IsBetween, LeavesInFlight, Moves}
use Rattle.fw_serve.specs.Writing.{WritesPart}
use Rattle.fw_serve.specs.declared.fault.ServeFault.{ServeFault}

-- the entry is accepted after those of the warehouse, the form of the side in use has it, and the answer says that the device failed
pub record FailsOn (before : Standing) (answer : List ℕ) (e : EntryValue) : Type 0 where
  pub says : answer ≡ store_fault_line store_fault.Device
  pub accepted : judged before.history.entries e ≡ verdict.Accept
  pub of_form : has_entry before.form e ≡ true

-- this entry is that one
abbrev pub FailsOnThis : Standing → EntryValue → List ℕ → EntryValue → Type 0
FailsOnThis before this answer e = (e ≡ this) × FailsOn before answer e

-- it is the one that is made of these parts
abbrev pub FailsOnMade : Standing → List ℕ → ℕ → CommandValue → List ℕ → EntryValue → Type 0
FailsOnMade before origin number command answer e = (entry_made origin number command ≡ Ok e) × FailsOn before answer e

-- it is the one that the command sends
abbrev pub FailsOnSent : Standing → PlainCommand → List ℕ → EntryValue → Type 0
FailsOnSent before command answer e = Sends before.history.currency command e × FailsOn before answer e

-- The entry in flight when the device failed: the one that a command sends which was answered `store S3 Device`. It would have been accepted, and the form of
-- the side in use has it.
pub record IsInFlight (before after : Standing) (commands : List PlainCommand) (answers : List (List ℕ)) (e : EntryValue) : Type 0 where
  pub place : ℕ
  pub command : PlainCommand
  pub asked : slice_get commands place ≡ Some command
  pub fails : slice_get answers place ≡ Some (store_fault_line store_fault.Device)
  pub sends : Sends before.history.currency command e
  pub accepted : judged after.history.entries e ≡ verdict.Accept
  pub of_form : has_entry after.form e ≡ true

-- What a crash leaves within one command and after it. At any moment of it the files stand for the warehouse as it was before the command or as it is
-- after it; or, only where the device failed, with the entry that the command sends, which it may have from then on. Where the device hasn't failed
-- each image stands after the command for what it left. A store that had failed before is as it was.
pub record LeavesWithin {V : Type 0} (tells : Bool) (view : V → View) (old : StoreState V) (command : PlainCommand) (answer : List ℕ) (new : StoreState V) : Type 0 where
  pub any_moment : IsTrue tells → old.failed ≡ false → LeavesOnly (view old.volume) (view new.volume) (IsBetween (FailsOnSent (standing_of view old) command answer) old.history (standing_of view new))
  pub once_failed : IsTrue tells → old.failed ≡ false → new.failed ≡ true → LeavesInFlight (FailsOnSent (standing_of view old) command answer) new.history (view new.volume)
  pub each : IsTrue tells → new.failed ≡ false → EachStandsFor new.history (view new.volume)
  pub stays : old.failed ≡ true → new ≡ old

-- the commands were run one after the other, each on the store that those before it left, and these are the answers, one for each
unfoldable pub RunsInTurn : {V : Type 0} → Bool → (V → View) → StoreState V → List PlainCommand → List (List ℕ) → StoreState V → Type 0
RunsInTurn tells view old [] answers new = (answers ≡ []) × (new ≡ old)
RunsInTurn tells view old (command ∷ commands) answers new =
    (first : List ℕ) × (next : StoreState _) × (more : List (List ℕ)) × Answer (standing_of view old) command first (standing_of view next)
    × LeavesWithin tells view old command first next × RunsInTurn tells view next commands more new × (answers ≡ first ∷ more)

-- The command at this place was run where those before it were done, and those behind it were run on what it left. Where the device failed in one of
-- those before it, each image stands for what they left, or for this with the entry that the failed one sent.
pub record RunsAt {V : Type 0} (tells : Bool) (view : V → View) (old : StoreState V) (commands : List PlainCommand) (answers : List (List ℕ)) (place : ℕ) (command : PlainCommand) (answer : List ℕ) (new : StoreState V) : Type 0 where
  pub middle : StoreState V
  pub next : StoreState V
  pub before : RunsInTurn tells view old (take place commands) (take place answers) middle
  pub told : AnswersEach (standing_of view old) (take place commands) (take place answers) (standing_of view middle)
  pub answered : Answer (standing_of view middle) command answer (standing_of view next)
  pub within : LeavesWithin tells view middle command answer next
  pub once_failed : IsTrue tells → old.failed ≡ false → middle.failed ≡ true
      → LeavesInFlight (IsInFlight (standing_of view old) (standing_of view middle) (take place commands) (take place answers)) middle.history (view middle.volume)
  pub behind : RunsInTurn tells view next (drop (suc place) commands) (drop (suc place) answers) new

-- these commands come first in the script and were run, `left` follows them, the writer got their answers, and this is what they left of the store
pub record RunsSoFar {V : Type 0} (tells : Bool) (view : V → View) (script left : List ℕ) (old new : StoreState V) (held holds : Option (List ℕ)) : Type 0 where
  pub commands : List PlainCommand
  pub answers : List (List ℕ)
  pub reads : StartsWithCommands script commands left
  pub answered : AnswersEach (standing_of view old) commands answers (standing_of view new)
  pub writes : Appends held holds (concat answers)
  pub moves : Moves tells view (IsInFlight (standing_of view old) (standing_of view new) commands answers) old new
  pub in_turn : RunsInTurn tells view old commands answers new

-- the same, where the writer got the answers up to some place
pub record Runs {V : Type 0} (tells : Bool) (view : V → View) (script : List ℕ) (old new : StoreState V) (held holds : Option (List ℕ)) : Type 0 where
  pub left : List ℕ
  pub commands : List PlainCommand
  pub answers : List (List ℕ)
  pub reads : StartsWithCommands script commands left
  pub answered : AnswersEach (standing_of view old) commands answers (standing_of view new)
  pub writes : WritesPart held holds (concat answers)
  pub moves : Moves tells view (IsInFlight (standing_of view old) (standing_of view new) commands answers) old new
  pub in_turn : RunsInTurn tells view old commands answers new

-- the same; where nothing failed these are all commands of the script, and the writer got each answer
pub record RunsTo {V : Type 0} (tells : Bool) (view : V → View) (result : Result (Unit {0}) ServeFault) (script : List ℕ) (old new : StoreState V) (held holds : Option (List ℕ)) : Type 0 where
  pub runs : Runs tells view script old new held holds
  pub whole : OnOk result (CommandsOf script runs.commands × Appends held holds (concat runs.answers))

-- no command was run, or these are the first ones of the script that a reader had; these are the answers, one for each, and the writer got them up to
-- some place
pub record IsRun (bytes : Option (List ℕ)) (before after : Standing) (held holds : Option (List ℕ)) (commands : List PlainCommand) (answers : List (List ℕ)) : Type 0 where
  pub reads : (commands ≡ []) ⊎ ((script : List ℕ) × (left : List ℕ) × IsScriptOf bytes script × StartsWithCommands script commands left)
  pub answered : AnswersEach before commands answers after
  pub writes : WritesPart held holds (concat answers)

-- What a crash leaves of a run of commands. At any moment of it the files stand for the warehouse before with a front of what was added; or, only where
-- the device has failed, with all of this and the entry in flight. Once it has failed each image has all of this, and perhaps that entry.
pub record CrashLeaves {V : Type 0} (view : V → View) (bytes : Option (List ℕ)) (old new : StoreState V) (held holds : Option (List ℕ)) : Type 0 where
  pub commands : List PlainCommand
  pub answers : List (List ℕ)
  pub run : IsRun bytes (standing_of view old) (standing_of view new) held holds commands answers
  pub any_moment : LeavesOnly (view old.volume) (view new.volume) (IsBetween (IsInFlight (standing_of view old) (standing_of view new) commands answers) old.history (standing_of view new))
  pub once_failed : new.failed ≡ true → LeavesInFlight (IsInFlight (standing_of view old) (standing_of view new) commands answers) new.history (view new.volume)

-- the same run, command by command
pub record RunsByCommand {V : Type 0} (tells : Bool) (view : V → View) (bytes : Option (List ℕ)) (old new : StoreState V) (held holds : Option (List ℕ)) : Type 0 where
  pub commands : List PlainCommand
  pub answers : List (List ℕ)
  pub run : IsRun bytes (standing_of view old) (standing_of view new) held holds commands answers
  pub in_turn : RunsInTurn tells view old commands answers new

-- these are all commands of the script that a reader had, and the writer got each answer
pub record IsWholeRun (bytes held holds : Option (List ℕ)) (commands : List PlainCommand) (answers : List (List ℕ)) : Type 0 where
  pub script : List ℕ
  pub given : IsScriptOf bytes script
  pub reads : CommandsOf script commands
  pub writes : Appends held holds (concat answers)

-- Serving a script: one run, of which all is said of the same commands and the same answers.
pub record IsOneRun {V : Type 0} (tells : Bool) (view : V → View) (result : Result (Unit {0}) ServeFault) (bytes : Option (List ℕ)) (old new : StoreState V) (held holds : Option (List ℕ)) : Type 0 where
  -- the commands that were run, and the answers to them, one for each
  pub commands : List PlainCommand
  pub answers : List (List ℕ)
  -- they are the first ones of the script, or none; the writer got the answers up to some place
  pub run : IsRun bytes (standing_of view old) (standing_of view new) held holds commands answers
  -- where nothing failed they are all of the script, and the writer got each answer
  pub whole : OnOk result (IsWholeRun bytes held holds commands answers)
  -- each was run on what those before it left
  pub in_turn : RunsInTurn tells view old commands answers new
  -- at any moment a crash leaves what was there, with a front of what they added; or, only where the
  -- device failed, with all of it and the entry in flight
  pub any_moment : IsTrue tells → old.failed ≡ false
      → LeavesOnly (view old.volume) (view new.volume) (IsBetween (IsInFlight (standing_of view old) (standing_of view new) commands answers) old.history (standing_of view new))
  pub once_failed : IsTrue tells → old.failed ≡ false → new.failed ≡ true
      → LeavesInFlight (IsInFlight (standing_of view old) (standing_of view new) commands answers) new.history (view new.volume)
