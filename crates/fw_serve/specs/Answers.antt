-- How single commands and lists of commands are answered, and what they change.
use Rattle.std.specs.Prelude.{◌≡◌, ◌≢◌, ◌⊎◌, ◌+◌, ◌-◌, ◌^◌, ◌<◌, ◌≤◌, ◌==◌, ℕ, zero, suc, true, false, List, [], ◌∷◌, ◌++◌, length, nat_lt, Result, Ok, Err, if◌then◌else◌}
use Rattle.fw_entry.specs.Entry.{CommandValue, EntryValue, is_origin}
use Rattle.fw_entry.specs.Spelling.{IsEntry, most_entry_bytes}
use Rattle.fw_entry.specs.Spelling as spelling
use Rattle.fw_entry.specs.declared.fault.EntryFault.{EntryFault}
use Rattle.fw_entry.specs.declared.fault.EntryFault.TheVariants as fault
use Rattle.fw_entry_bytes.specs.Forms.{has_entry}
use Rattle.fw_entry_bytes.specs.declared.form.Form.TheVariants.{Two}
use Rattle.fw_recover.specs.Checkpoints.{HasNoRoomFor}
use Rattle.fw_recover.specs.declared.fault.StoreFault.TheVariants as store_fault
use Rattle.fw_script.specs.Plain.{PlainCommand, entry, report, lines, state, checkpoint, bad_command, bad_end}
use Rattle.fw_script.specs.Words.{IsSequence}
use Rattle.fw_script.specs.declared.commands.EntryKind.{EntryKind}
use Rattle.fw_segment.specs.Groups.{group}
use Rattle.fw_segment.specs.States.{Spells}
use Rattle.fw_snapshot.specs.Judging.{judged}
use Rattle.fw_snapshot.specs.Verdicts.{with_more}
use Rattle.fw_snapshot.specs.declared.verdict.Verdict.{Verdict}
use Rattle.fw_snapshot.specs.declared.verdict.Verdict.TheVariants as verdict
use Rattle.fw_serve.specs.Contents.{ContentReads}
use Rattle.fw_serve.specs.Replies.{entry_fault_line, conflict_line, store_fault_line, accepted_line, already_line, gap_line, state_line, checkpointed_line, no_memory_line, bad_command_line, bad_end_line}
use Rattle.fw_serve.specs.Questions.{ReportAnswer, LinesAnswer}
use Rattle.fw_serve.specs.Standings.{Standing}

-- the number that a word stands for, or 0 where it is no number of an entry
abbrev pub SequenceReads : List ℕ → ℕ → Type 0
SequenceReads word zero = (n : ℕ) → ¬ IsSequence word n
SequenceReads word (suc n) = IsSequence word (suc n)

abbrev pub parts_entry : List ℕ → ℕ → CommandValue → EntryValue
parts_entry origin seq command = record { origin = origin; seq = seq; command = command }

-- the entry of an origin, a number and a command, or the first reason why there is none
unfoldable pub entry_made : List ℕ → ℕ → CommandValue → Result EntryValue EntryFault
entry_made origin seq command =
    if is_origin origin
    then (if seq == 0 then Err fault.Seq
    else (if nat_lt most_entry_bytes (length (spelling.entry (parts_entry origin seq command))) then Err fault.TooLarge else Ok (parts_entry origin seq command)))
    else Err fault.Origin

-- the store with one more entry, whose frame is behind the end of its log
abbrev pub with_entry : Standing → EntryValue → Standing
with_entry s e = record s { history = with_more s.history (e ∷ []); end = s.end + 5 + length (group (e ∷ [])) }

-- the frame of the entry and the closed gate behind it would end past the limit
abbrev pub HasNoRoom : Standing → EntryValue → Type 0
HasNoRoom s e = s.limit < s.end + 6 + length (group (e ∷ []))

-- the store whose device has failed: it takes nothing more
abbrev pub lost : Standing → Standing
lost s = record s { failed = true }

-- nothing changes, and this is the answer
abbrev pub Stays : Standing → List ℕ → List ℕ → Standing → Type 0
Stays before line text after = (text ≡ line) × (after ≡ before)

-- memory ran out, which changes nothing
abbrev pub RanOut : Standing → List ℕ → Standing → Type 0
RanOut before text after = Stays before no_memory_line text after

-- an entry that is accepted, and that the form of the side in use has, gets the next number and comes to the volume; or the volume has no
-- room for it, or the device fails
abbrev pub Stores : Standing → EntryValue → List ℕ → Standing → Type 0
Stores before e text after =
    ((text ≡ accepted_line (length before.history.entries + 1)) × (after ≡ with_entry before e) × (HasNoRoom before e → ⊥))
    ⊎ ((Stays before (store_fault_line store_fault.TooLarge) text after × HasNoRoom before e)
    ⊎ ((text ≡ store_fault_line store_fault.Device) × (after ≡ lost before)))

-- an entry that is accepted changes nothing where the form of the side in use doesn't have it, whatever room there is
abbrev pub Accepts : Standing → EntryValue → List ℕ → Standing → Type 0
Accepts before e text after =
    ((has_entry before.form e ≡ false) × Stays before (store_fault_line store_fault.OldSide) text after)
    ⊎ ((has_entry before.form e ≡ true) × Stores before e text after)

-- what an entry with this verdict leaves, and what it is answered
unfoldable pub Judges : Standing → EntryValue → Verdict → List ℕ → Standing → Type 0
Judges before e verdict.Accept text after = Accepts before e text after
Judges before e (verdict.Already last) text after = Stays before (already_line last) text after
Judges before e (verdict.Gap expected) text after = Stays before (gap_line expected) text after
Judges before e (verdict.Refused why) text after = Stays before (conflict_line why) text after

-- an entry that was made is judged after those of the warehouse; where the device has failed none is
unfoldable pub Submits : Standing → EntryValue → List ℕ → Standing → Type 0
Submits before e text after =
    ((before.failed ≡ true) × Stays before (store_fault_line store_fault.Failed) text after)
    ⊎ ((before.failed ≡ false) × Judges before e (judged before.history.entries e) text after)

-- an entry that was made keeps its limits, and is judged. What there is no entry of changes nothing
unfoldable pub Makes : Standing → Result EntryValue EntryFault → List ℕ → Standing → Type 0
Makes before (Ok e) text after = IsEntry e × Submits before e text after
Makes before (Err why) text after = Stays before (entry_fault_line why) text after

-- what can't be read changes nothing
unfoldable pub Takes : Standing → List ℕ → ℕ → Result CommandValue (List ℕ) → List ℕ → Standing → Type 0
Takes before origin number (Ok command) text after = Makes before (entry_made origin number command) text after
Takes before origin number (Err line) text after = Stays before line text after

-- an entry's content was read, then the entry was made, and then it was judged after those that were accepted before; or memory
-- ran out on the way
pub record Entered (before : Standing) (kind : EntryKind) (origin sequence content text : List ℕ) (after : Standing) : Type 0 where
  pub reading : Result CommandValue (List ℕ)
  pub reads : ContentReads kind before.history.currency content reading
  pub number : ℕ
  pub numbers : SequenceReads sequence number
  pub taken : Takes before origin number reading text after ⊎ RanOut before text after

-- the greatest generation
abbrev pub last_generation : ℕ
last_generation = 2 ^ 64 - 1

-- a side of the second form is made of the warehouse, whose log is empty and begins behind 25 bytes of header and the body; or the
-- volume has no room for it, or the device fails, or memory runs out
abbrev pub Renews : Standing → List ℕ → Standing → Type 0
Renews before text after =
    ((body : List ℕ) × Spells body before.history × (26 + length body ≤ before.limit) × (text ≡ checkpointed_line)
    × (after ≡ record before { form = Two; generation = before.generation + 1; end = 25 + length body }))
    ⊎ ((Stays before (store_fault_line store_fault.TooLarge) text after × HasNoRoomFor before.limit before.history)
    ⊎ (((text ≡ store_fault_line store_fault.Device) × (after ≡ lost before))
    ⊎ RanOut before text after))

-- a checkpoint is made where the device hasn't failed and there is a further generation
unfoldable pub Checkpoints : Standing → List ℕ → Standing → Type 0
Checkpoints before text after =
    ((before.failed ≡ true) × Stays before (store_fault_line store_fault.Failed) text after)
    ⊎ (((before.failed ≡ false) × (before.generation ≡ last_generation) × Stays before (store_fault_line store_fault.Generations) text after)
    ⊎ ((before.failed ≡ false) × (before.generation ≢ last_generation) × Renews before text after))

-- a command is answered by the text, and the store after it is this; only entries and checkpoints change it
unfoldable pub Answer : Standing → PlainCommand → List ℕ → Standing → Type 0
Answer before (entry kind origin sequence content) text after = Entered before kind origin sequence content text after
Answer before (report key from to) text after = ReportAnswer before.history key from to text × (after ≡ before)
Answer before (lines from to) text after = LinesAnswer before.history from to text × (after ≡ before)
Answer before state text after = Stays before (state_line before.history) text after
Answer before checkpoint text after = Checkpoints before text after
Answer before bad_command text after = Stays before bad_command_line text after
Answer before bad_end text after = Stays before bad_end_line text after

-- the commands are answered in order, each after those before it, and the text is their answers and nothing else
unfoldable pub Answers : Standing → List PlainCommand → List ℕ → Standing → Type 0
Answers before [] text after = (text ≡ []) × (after ≡ before)
Answers before (command ∷ commands) text after =
    (first : List ℕ) × (next : Standing) × (rest : List ℕ) × Answer before command first next × Answers next commands rest after × (text ≡ first ++ rest)
