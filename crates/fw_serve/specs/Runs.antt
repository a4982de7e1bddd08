-- What commands were answered, one by one, and which entries the answers speak of.
use Rattle.std.specs.Prelude.{◌≡◌, ◌⊎◌, ◌+◌, ⊤, ℕ, true, false, All, List, [], ◌∷◌, Some, Ok, Err, length, slice_get, if◌then◌else◌}
use Rattle.fw_entry.specs.Entry.{CommandValue, EntryValue}
use Rattle.fw_entry.specs.declared.fault.EntryFault.{EntryFault}
use Rattle.fw_entry_bytes.specs.Forms.{has_entry}
use Rattle.fw_recover.specs.Checkpoints.{HasNoRoomFor}
use Rattle.fw_recover.specs.declared.fault.StoreFault.{StoreFault}
use Rattle.fw_recover.specs.declared.fault.StoreFault.TheVariants as store_fault
use Rattle.fw_script.specs.Plain.{PlainCommand, entry, report, lines, state, checkpoint, bad_command, bad_end}
use Rattle.fw_script.specs.Words.{IsSequence}
use Rattle.fw_script.specs.declared.commands.EntryKind.{EntryKind}
use Rattle.fw_snapshot.specs.History.{History}
use Rattle.fw_snapshot.specs.Judging.{judged}
use Rattle.fw_snapshot.specs.Verdicts.{accepted_of, is_accept, verdicts_on, with_more}
use Rattle.fw_snapshot.specs.declared.verdict.Verdict.{Verdict}
use Rattle.fw_snapshot.specs.declared.verdict.Verdict.TheVariants as verdict
use Rattle.fw_serve.specs.Answers.{Answer, HasNoRoom, SequenceReads, entry_made}
use Rattle.fw_serve.specs.Contents.{ContentReads}
use Rattle.fw_serve.specs.Replies.{checkpointed_line, entry_fault_line, no_memory_line, store_fault_line, verdict_line}
use Rattle.fw_serve.specs.Standings.{Standing}

-- the commands are answered in order, each after those before it, and these are the answers, one for each
unfoldable pub AnswersEach : Standing → List PlainCommand → List (List ℕ) → Standing → Type 0
AnswersEach before [] answers after = (answers ≡ []) × (after ≡ before)
AnswersEach before (command ∷ commands) answers after =
    (first : List ℕ) × (next : Standing) × (more : List (List ℕ)) × Answer before command first next × AnswersEach next commands more after × (answers ≡ first ∷ more)

-- the command sends this entry to a warehouse of a currency: its content reads as what the entry brings, its word as the entry's number, and the
-- entry keeps its limits
pub record Sends (currency : List ℕ) (command : PlainCommand) (e : EntryValue) : Type 0 where
  pub kind : EntryKind
  pub sequence : List ℕ
  pub content : List ℕ
  pub is_entry : command ≡ entry kind e.origin sequence content
  pub reads : ContentReads kind currency content (Ok e.command)
  pub numbers : IsSequence sequence e.seq
  pub made : entry_made e.origin e.seq e.command ≡ Ok e

-- the command is no entry's; or its content can't be read, or its parts make no entry, and the answer says why
unfoldable pub SendsNone : List ℕ → PlainCommand → List ℕ → Type 0
SendsNone currency (entry kind origin sequence content) answer =
    ContentReads kind currency content (Err answer)
    ⊎ ((number : ℕ) × (command : CommandValue) × (why : EntryFault) × SequenceReads sequence number × ContentReads kind currency content (Ok command)
    × (entry_made origin number command ≡ Err why) × (answer ≡ entry_fault_line why))
SendsNone currency (report key from to) answer = ⊤
SendsNone currency (lines from to) answer = ⊤
SendsNone currency state answer = ⊤
SendsNone currency checkpoint answer = ⊤
SendsNone currency bad_command answer = ⊤
SendsNone currency bad_end answer = ⊤

-- the command sends an entry that is accepted, and that the form of the side in use doesn't have
abbrev pub LacksKind : Standing → PlainCommand → Type 0
LacksKind before command =
    (e : EntryValue) × Sends before.history.currency command e × (judged before.history.entries e ≡ verdict.Accept) × (has_entry before.form e ≡ false)

-- what the command asks for has no room on the volume: the frame of an entry that is accepted, and that the form of the side in use has, or a side that is
-- made of the warehouse
abbrev pub LacksRoom : Standing → PlainCommand → Type 0
LacksRoom before command =
    ((e : EntryValue) × Sends before.history.currency command e × (judged before.history.entries e ≡ verdict.Accept) × (has_entry before.form e ≡ true) × HasNoRoom before e)
    ⊎ ((command ≡ checkpoint) × HasNoRoomFor before.limit before.history)

-- the answer is `no memory`, or a line that says why the store didn't do what was asked for
abbrev pub IsHindered : List ℕ → Type 0
IsHindered answer = (answer ≡ no_memory_line) ⊎ ((why : StoreFault) × (answer ≡ store_fault_line why))

-- none of the answers is so
abbrev pub NoneHindered : List (List ℕ) → Type 0
NoneHindered answers = All (λ answer. ¬ IsHindered answer) answers

-- the two answers are one, and leave the same entries; or one of them is so
abbrev pub AreOne : List ℕ → List ℕ → Standing → Standing → Type 0
AreOne answer other after after_other = IsHindered answer ⊎ (IsHindered other ⊎ ((answer ≡ other) × (after.history ≡ after_other.history)))

-- Two stores of which a client can't tell one from the other: they have the same entries, both have failed or neither has, their sides in use are of the
-- same form and generation, and each has as much room left behind its log.
pub record AreAlike (one other : Standing) : Type 0 where
  pub history : one.history ≡ other.history
  pub failed : one.failed ≡ other.failed
  pub form : one.form ≡ other.form
  pub generation : one.generation ≡ other.generation
  pub room : one.limit + other.end ≡ other.limit + one.end

-- memory ran out, or the device failed: no standing says when
abbrev pub IsCutShort : List ℕ → Type 0
IsCutShort answer = (answer ≡ no_memory_line) ⊎ (answer ≡ store_fault_line store_fault.Device)

abbrev pub NoneCutShort : List (List ℕ) → Type 0
NoneCutShort answers = All (λ answer. ¬ IsCutShort answer) answers

-- the two answers are one, and leave stores that are alike; or one of them is so
abbrev pub AreSame : List ℕ → List ℕ → Standing → Standing → Type 0
AreSame answer other after after_other = IsCutShort answer ⊎ (IsCutShort other ⊎ ((answer ≡ other) × AreAlike after after_other))

-- A checkpoint that is begun: it is made, or has no room, or is cut short. A state has more than one spelling, of more than one length, and which of them a
-- checkpoint writes nothing says that a client can see: so it is made or has no room by a length that no standing has.
abbrev pub IsOfASide : List ℕ → Type 0
IsOfASide answer = (answer ≡ checkpointed_line) ⊎ ((answer ≡ store_fault_line store_fault.TooLarge) ⊎ IsCutShort answer)

-- these entries, in their order, are those that the commands sent and that were judged, and `replies` are the answers to them. Each other command sent
-- none, or was hindered
unfoldable pub AreJudged : List ℕ → List PlainCommand → List (List ℕ) → List EntryValue → List (List ℕ) → Type 0
AreJudged currency [] answers entries replies = (answers ≡ []) × (entries ≡ []) × (replies ≡ [])
AreJudged currency (command ∷ commands) answers entries replies =
    (answer : List ℕ) × (more : List (List ℕ)) × (answers ≡ answer ∷ more)
    × (((SendsNone currency command answer ⊎ IsHindered answer) × AreJudged currency commands more entries replies)
    ⊎ ((e : EntryValue) × (others : List EntryValue) × (rest : List (List ℕ)) × Sends currency command e × (entries ≡ e ∷ others) × (replies ≡ answer ∷ rest)
    × AreJudged currency commands more others rest))

-- the lines of verdicts that are given one after the other, where a warehouse has so many entries before
unfoldable pub verdict_lines : ℕ → List Verdict → List (List ℕ)
verdict_lines count [] = []
verdict_lines count (v ∷ vs) = verdict_line (count + 1) v ∷ verdict_lines (if is_accept v then count + 1 else count) vs

-- What the answers say of the warehouse: of the entries that they speak of, each is answered by the line of its verdict, and the warehouse holds what it
-- held, and those that were accepted.
pub record AreTold (held : History) (commands : List PlainCommand) (answers : List (List ℕ)) (after : History) : Type 0 where
  pub entries : List EntryValue
  pub are_judged : AreJudged held.currency commands answers entries (verdict_lines (length held.entries) (verdicts_on held.entries entries))
  pub holds : after ≡ with_more held (accepted_of held.entries entries)

-- `rest` are the commands that weren't hindered, and `answered` the answers to them
unfoldable pub AreUnhindered : List PlainCommand → List (List ℕ) → List PlainCommand → List (List ℕ) → Type 0
AreUnhindered [] answers rest answered = (rest ≡ []) × (answered ≡ [])
AreUnhindered (command ∷ commands) answers rest answered =
    (answer : List ℕ) × (more : List (List ℕ)) × (answers ≡ answer ∷ more)
    × ((IsHindered answer × AreUnhindered commands more rest answered)
    ⊎ ((¬ IsHindered answer) × ((others : List PlainCommand) × (replies : List (List ℕ)) × (rest ≡ command ∷ others) × (answered ≡ answer ∷ replies) × AreUnhindered commands more others replies)))

-- the entry is the nth of a list, counted from 1
abbrev pub StandsAt : List EntryValue → ℕ → EntryValue → Type 0
StandsAt entries n e = (place : ℕ) × (n ≡ place + 1) × (slice_get entries place ≡ Some e)
