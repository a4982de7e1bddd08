-- Why a store doesn't do what a command asks for, and what it answers once its device has failed.
use Rattle.std.proofs.Common.{◌≡◌, ◌⊎◌, ◌∙◌, ◌<◌, ◌∷◌, [], ℕ, zero, suc, List, Some, true, get_or, slice_get, Ok, Err, refl, sym, ap, subst, inl, inr, arith}
use Rattle.std.specs.Prelude.{◌==◌, Result, if◌then◌else◌}
use Rattle.fw_amortise.specs.LineValue.{LineValue}
use Rattle.fw_commitment.specs.declared.fault.CommitmentFault.{CommitmentFault}
use Rattle.fw_commitment.specs.declared.fault.CommitmentFault.TheVariants as commitment_fault
use Rattle.fw_disk.specs.declared.volume.Side.{Side}
use Rattle.fw_entry.specs.Entry.{CommandValue, EntryValue}
use Rattle.fw_entry.specs.declared.fault.EntryFault.{EntryFault}
use Rattle.fw_entry.specs.declared.fault.EntryFault.TheVariants as entry_fault
use Rattle.fw_policy.specs.declared.fault.PolicyFault.{PolicyFault}
use Rattle.fw_policy.specs.declared.fault.PolicyFault.TheVariants as policy_fault
use Rattle.fw_query.specs.Reports as reports
use Rattle.fw_query.specs.declared.fault.QueryFault.{QueryFault}
use Rattle.fw_query.specs.declared.fault.QueryFault.TheVariants as query_fault
use Rattle.fw_recover.specs.declared.fault.StoreFault.{StoreFault}
use Rattle.fw_recover.specs.declared.fault.StoreFault.TheVariants as store_fault
use Rattle.fw_rows.specs.declared.fault.RowFault.{RowFault}
use Rattle.fw_rows.specs.declared.fault.RowFault.TheVariants as row_fault
use Rattle.fw_script.specs.Plain.{PlainCommand, entry, report, lines, state, checkpoint, bad_command, bad_end}
use Rattle.fw_script.specs.Words.{IsSequence}
use Rattle.fw_script.specs.declared.commands.EntryKind.{EntryKind}
use Rattle.fw_script.specs.declared.commands.EntryKind.TheVariants as kind
use Rattle.fw_snapshot.specs.History.{History}
use Rattle.fw_snapshot.specs.Judging.{judged}
use Rattle.fw_snapshot.specs.declared.verdict.Conflict.{Conflict}
use Rattle.fw_snapshot.specs.declared.verdict.Conflict.TheVariants as conflict
use Rattle.fw_snapshot.specs.declared.verdict.Verdict.{Verdict}
use Rattle.fw_snapshot.specs.declared.verdict.Verdict.TheVariants as verdict
use Rattle.fw_serve.specs.Answers.{Answer, Checkpoints, Judges, Makes, RanOut, SequenceReads, Stays, Submits, Takes, entry_made, last_generation, lost}
use Rattle.fw_serve.specs.Contents.{ContentReads}
use Rattle.fw_serve.specs.Questions.{lines_answer, report_answer}
use Rattle.fw_serve.specs.Replies.{accepted_line, already_line, bad_command_line, bad_end_line, checkpointed_line, commitment_fault_line, conflict_line, counted, counts_line, entry_fault_line, gap_line, no_memory_line, policy_fault_line, query_fault_line, row_fault_line, state_line, store_fault_line, store_line}
use Rattle.fw_serve.specs.Runs.{AnswersEach, LacksKind, LacksRoom, Sends}
use Rattle.fw_serve.specs.Standings.{Standing}
use Rattle.fw_serve.proofs.MoveFacts.{not_both}
use Rattle.fw_serve.proofs.OneAnswerFacts.{content_one, number_one}
use Rattle.fw_serve.proofs.RunFacts.{sends_made, step}
use Rattle.fw_serve.proofs.WrittenFacts.{same_currency}

-- ---- the lines that say that the store didn't do it
-- the digit of a line of the store, which has the `o` of `store` in its place, and 0 of any other text
abbrev pub store_code : List ℕ → ℕ
store_code text = if get_or text 2 0 == 111 then get_or text 7 0 else 0

house_code : store_code (store_fault_line store_fault.NoHouse) ≡ 49
unfolding store_fault_line store_line
house_code = refl

corrupt_code : (side : Side) (place : ℕ) → store_code (store_fault_line (store_fault.Corrupt side place)) ≡ 50
unfolding store_fault_line store_line
corrupt_code side place = refl

pub device_code : store_code (store_fault_line store_fault.Device) ≡ 51
unfolding store_fault_line store_line
device_code = refl

pub failed_code : store_code (store_fault_line store_fault.Failed) ≡ 52
unfolding store_fault_line store_line
failed_code = refl

pub generations_code : store_code (store_fault_line store_fault.Generations) ≡ 53
unfolding store_fault_line store_line
generations_code = refl

pub full_code : store_code (store_fault_line store_fault.TooLarge) ≡ 54
unfolding store_fault_line store_line
full_code = refl

exists_code : store_code (store_fault_line store_fault.Exists) ≡ 55
unfolding store_fault_line store_line
exists_code = refl

old_code : store_code (store_fault_line store_fault.OldSide) ≡ 56
unfolding store_fault_line store_line
old_code = refl

-- no other line is one of the store
memory_silent : store_code no_memory_line ≡ 0
unfolding no_memory_line
memory_silent = refl

row_silent : (f : RowFault) → store_code (row_fault_line f) ≡ 0
unfolding row_fault_line no_memory_line
row_silent (row_fault.MissingColumn column) = refl
row_silent (row_fault.DoubleColumn column) = refl
row_silent (row_fault.Record number why) = refl
row_silent row_fault.NoRows = refl
row_silent row_fault.TooManyRows = refl
row_silent row_fault.NoMemory = refl

commitment_silent : (f : CommitmentFault) → store_code (commitment_fault_line f) ≡ 0
unfolding commitment_fault_line no_memory_line
commitment_silent commitment_fault.Syntax = refl
commitment_silent (commitment_fault.Field field) = refl
commitment_silent (commitment_fault.Limit field) = refl
commitment_silent commitment_fault.NoMemory = refl

policy_silent : (f : PolicyFault) → store_code (policy_fault_line f) ≡ 0
unfolding policy_fault_line no_memory_line
policy_silent policy_fault.Syntax = refl
policy_silent (policy_fault.Field field) = refl
policy_silent (policy_fault.Limit field) = refl
policy_silent policy_fault.DoubleFrom = refl
policy_silent policy_fault.TargetIsFrom = refl
policy_silent policy_fault.NoMemory = refl

bad_command_silent : store_code bad_command_line ≡ 0
unfolding bad_command_line
bad_command_silent = refl

content_silent : (k : EntryKind) (currency content line : List ℕ) → ContentReads k currency content (Err line) → store_code line ≡ 0
unfolding ContentReads
content_silent kind.Post currency content line reads = ap store_code reads.1 ∙ row_silent reads.0
content_silent kind.Commit currency content line reads = ap store_code reads.1 ∙ commitment_silent reads.0
content_silent kind.Policy currency content line reads = ap store_code reads.1 ∙ policy_silent reads.0
content_silent kind.AddPurchase currency content line reads = ap store_code reads.1 ∙ commitment_silent reads.0
content_silent kind.Withdraw currency content line reads = ap store_code reads.0 ∙ bad_command_silent

entry_silent : (f : EntryFault) → store_code (entry_fault_line f) ≡ 0
unfolding entry_fault_line no_memory_line
entry_silent entry_fault.Origin = refl
entry_silent entry_fault.Seq = refl
entry_silent entry_fault.TooLarge = refl
entry_silent entry_fault.NoMemory = refl

conflict_silent : (why : Conflict) → store_code (conflict_line why) ≡ 0
unfolding conflict_line
conflict_silent conflict.Full = refl
conflict_silent conflict.DoubleId = refl
conflict_silent conflict.IdInUse = refl
conflict_silent conflict.OwnCommitment = refl
conflict_silent conflict.TooManyCommitments = refl
conflict_silent conflict.NoSuchPost = refl
conflict_silent conflict.Withdrawn = refl
conflict_silent conflict.NoSuchCommitment = refl
conflict_silent conflict.PurchaseLimit = refl

accepted_silent : (n : ℕ) → store_code (accepted_line n) ≡ 0
unfolding accepted_line
accepted_silent n = refl

already_silent : (n : ℕ) → store_code (already_line n) ≡ 0
unfolding already_line
already_silent n = refl

gap_silent : (n : ℕ) → store_code (gap_line n) ≡ 0
unfolding gap_line
gap_silent n = refl

query_silent : (f : QueryFault) → store_code (query_fault_line f) ≡ 0
unfolding query_fault_line no_memory_line
query_silent query_fault.Range = refl
query_silent (query_fault.TotalTooLarge group) = refl
query_silent query_fault.NoMemory = refl

counted_silent : (text : List ℕ) → store_code (counted text) ≡ 0
unfolding counted
counted_silent text = refl

report_outcome : (r : Result (List reports.EntryValue) QueryFault) → store_code (report_answer r) ≡ 0
unfolding report_answer
report_outcome (Ok entries) = counted_silent _
report_outcome (Err f) = query_silent f

lines_outcome : (r : Result (List LineValue) QueryFault) → store_code (lines_answer r) ≡ 0
unfolding lines_answer
lines_outcome (Ok found) = counted_silent _
lines_outcome (Err f) = query_silent f

state_silent : (held : History) → store_code (state_line held) ≡ 0
unfolding state_line counts_line
state_silent held = refl

pub checkpointed_silent : store_code checkpointed_line ≡ 0
unfolding checkpointed_line
checkpointed_silent = refl

bad_end_silent : store_code bad_end_line ≡ 0
unfolding bad_end_line
bad_end_silent = refl

-- ---- why a command is answered so
-- by its code: it is no line of the store; or the device failed, and nothing else changes; or it had failed before, or there is no further generation, or no
-- room, or the form of the side in use doesn't have the entry, and nothing changes
abbrev IsCaused : Standing → PlainCommand → ℕ → Standing → Type 0
IsCaused before command code after =
    (code ≡ 0)
    ⊎ (((code ≡ 51) × (after ≡ lost before))
    ⊎ (((code ≡ 52) × (before.failed ≡ true) × (after ≡ before))
    ⊎ (((code ≡ 53) × (command ≡ checkpoint) × (before.generation ≡ last_generation) × (after ≡ before))
    ⊎ (((code ≡ 54) × LacksRoom before command × (after ≡ before))
    ⊎ ((code ≡ 56) × LacksKind before command × (after ≡ before))))))

abbrev Caused : Standing → PlainCommand → List ℕ → Standing → Type 0
Caused before command text after = IsCaused before command (store_code text) after

by_other : (before : Standing) (command : PlainCommand) (text line : List ℕ) (after : Standing) → text ≡ line → store_code line ≡ 0 → Caused before command text after
by_other before command text line after is silent = inl (ap store_code is ∙ silent)

by_device : (before : Standing) (command : PlainCommand) (text : List ℕ) (after : Standing) → text ≡ store_fault_line store_fault.Device → after ≡ lost before → Caused before command text after
by_device before command text after is gone = inr (inl (ap store_code is ∙ device_code, gone))

by_failure : (before : Standing) (command : PlainCommand) (text : List ℕ) (after : Standing) → before.failed ≡ true → Stays before (store_fault_line store_fault.Failed) text after → Caused before command text after
by_failure before command text after fails stays = inr (inr (inl (ap store_code stays.0 ∙ failed_code, fails, stays.1)))

by_limit : (before : Standing) (command : PlainCommand) (text : List ℕ) (after : Standing) → Stays before (store_fault_line store_fault.TooLarge) text after → LacksRoom before command → Caused before command text after
by_limit before command text after stays full = inr (inr (inr (inr (inl (ap store_code stays.0 ∙ full_code, full, stays.1)))))

by_form : (before : Standing) (command : PlainCommand) (text : List ℕ) (after : Standing) → Stays before (store_fault_line store_fault.OldSide) text after → LacksKind before command → Caused before command text after
by_form before command text after stays lacks = inr (inr (inr (inr (inr (ap store_code stays.0 ∙ old_code, lacks, stays.1)))))

judges_caused : (before : Standing) (command : PlainCommand) (e : EntryValue) (v : Verdict) (text : List ℕ) (after : Standing) → Sends before.history.currency command e
    → judged before.history.entries e ≡ v → Judges before e v text after → Caused before command text after
unfolding Judges
judges_caused before command e verdict.Accept text after sends is (inl lacks) = by_form before command text after lacks.1 (e, sends, is, lacks.0)
judges_caused before command e verdict.Accept text after sends is (inr (has, inl stored)) = by_other before command text _ after stored.0 (accepted_silent _)
judges_caused before command e verdict.Accept text after sends is (inr (has, inr (inl full))) = by_limit before command text after full.0 (inl (e, sends, is, has, full.1))
judges_caused before command e verdict.Accept text after sends is (inr (has, inr (inr device))) = by_device before command text after device.0 device.1
judges_caused before command e (verdict.Already last) text after sends is stays = by_other before command text _ after stays.0 (already_silent last)
judges_caused before command e (verdict.Gap expected) text after sends is stays = by_other before command text _ after stays.0 (gap_silent expected)
judges_caused before command e (verdict.Refused why) text after sends is stays = by_other before command text _ after stays.0 (conflict_silent why)

submits_caused : (before : Standing) (command : PlainCommand) (e : EntryValue) (text : List ℕ) (after : Standing) → Sends before.history.currency command e → Submits before e text after
    → Caused before command text after
unfolding Submits
submits_caused before command e text after sends (inl failed) = by_failure before command text after failed.0 failed.1
submits_caused before command e text after sends (inr works) = judges_caused before command e (judged before.history.entries e) text after sends refl works.1

makes_caused : (before : Standing) (k : EntryKind) (origin sequence content text : List ℕ) (after : Standing) (number : ℕ) (command : CommandValue) (made : Result EntryValue EntryFault)
    → entry_made origin number command ≡ made → ContentReads k before.history.currency content (Ok command) → SequenceReads sequence number → Makes before made text after
    → Caused before (entry k origin sequence content) text after
unfolding Makes
makes_caused before k origin sequence content text after number command (Ok e) is reads numbers given =
    submits_caused before (entry k origin sequence content) e text after (sends_made before.history.currency k origin sequence content number command e reads numbers is) given.1
makes_caused before k origin sequence content text after number command (Err why) is reads numbers given = by_other before _ text _ after given.0 (entry_silent why)

takes_caused : (before : Standing) (k : EntryKind) (origin sequence content text : List ℕ) (after : Standing) (number : ℕ) (reading : Result CommandValue (List ℕ))
    → ContentReads k before.history.currency content reading → SequenceReads sequence number
    → Takes before origin number reading text after ⊎ RanOut before text after → Caused before (entry k origin sequence content) text after
unfolding Takes
takes_caused before k origin sequence content text after number (Ok command) reads numbers (inl given) =
    makes_caused before k origin sequence content text after number command (entry_made origin number command) refl reads numbers given
takes_caused before k origin sequence content text after number (Err line) reads numbers (inl given) =
    by_other before _ text line after given.0 (content_silent k before.history.currency content line reads)
takes_caused before k origin sequence content text after number reading reads numbers (inr out) = by_other before _ text _ after out.0 memory_silent

checkpoint_caused : (before : Standing) (text : List ℕ) (after : Standing) → Checkpoints before text after → Caused before checkpoint text after
unfolding Checkpoints
checkpoint_caused before text after (inl failed) = by_failure before checkpoint text after failed.0 failed.1
checkpoint_caused before text after (inr (inl last)) = inr (inr (inr (inl (ap store_code last.2.0 ∙ generations_code, refl, last.1, last.2.1))))
checkpoint_caused before text after (inr (inr (works, further, inl made))) = by_other before checkpoint text _ after made.3 checkpointed_silent
checkpoint_caused before text after (inr (inr (works, further, inr (inl full)))) = by_limit before checkpoint text after full.0 (inr (refl, full.1))
checkpoint_caused before text after (inr (inr (works, further, inr (inr (inl device))))) = by_device before checkpoint text after device.0 device.1
checkpoint_caused before text after (inr (inr (works, further, inr (inr (inr out))))) = by_other before checkpoint text _ after out.0 memory_silent

answer_caused : (before : Standing) (command : PlainCommand) (text : List ℕ) (after : Standing) → Answer before command text after → Caused before command text after
unfolding Answer
answer_caused before (entry k origin sequence content) text after given =
    takes_caused before k origin sequence content text after given.number given.reading given.reads given.numbers given.taken
answer_caused before (report key from to) text after given = by_other before _ text _ after given.0.says (report_outcome given.0.outcome)
answer_caused before (lines from to) text after given = by_other before _ text _ after given.0.says (lines_outcome given.0.outcome)
answer_caused before state text after given = by_other before state text _ after given.0 (state_silent before.history)
answer_caused before checkpoint text after given = checkpoint_caused before text after given
answer_caused before bad_command text after given = by_other before bad_command text _ after given.0 bad_command_silent
answer_caused before bad_end text after given = by_other before bad_end text _ after given.0 bad_end_silent

-- what each code says
device_says : (before : Standing) (command : PlainCommand) (code : ℕ) (after : Standing) → code ≡ 51 → IsCaused before command code after → after ≡ lost before
device_says before command code after is (inl other) = absurd (omega (arith, is, other))
device_says before command code after is (inr (inl fails)) = fails.1
device_says before command code after is (inr (inr (inl failed))) = absurd (omega (arith, is, failed.0))
device_says before command code after is (inr (inr (inr (inl last)))) = absurd (omega (arith, is, last.0))
device_says before command code after is (inr (inr (inr (inr (inl full))))) = absurd (omega (arith, is, full.0))
device_says before command code after is (inr (inr (inr (inr (inr lacks))))) = absurd (omega (arith, is, lacks.0))

failed_says : (before : Standing) (command : PlainCommand) (code : ℕ) (after : Standing) → code ≡ 52 → IsCaused before command code after → (before.failed ≡ true) × (after ≡ before)
failed_says before command code after is (inl other) = absurd (omega (arith, is, other))
failed_says before command code after is (inr (inl fails)) = absurd (omega (arith, is, fails.0))
failed_says before command code after is (inr (inr (inl failed))) = (failed.1, failed.2)
failed_says before command code after is (inr (inr (inr (inl last)))) = absurd (omega (arith, is, last.0))
failed_says before command code after is (inr (inr (inr (inr (inl full))))) = absurd (omega (arith, is, full.0))
failed_says before command code after is (inr (inr (inr (inr (inr lacks))))) = absurd (omega (arith, is, lacks.0))

last_says : (before : Standing) (command : PlainCommand) (code : ℕ) (after : Standing) → code ≡ 53 → IsCaused before command code after
    → (command ≡ checkpoint) × (before.generation ≡ last_generation) × (after ≡ before)
last_says before command code after is (inl other) = absurd (omega (arith, is, other))
last_says before command code after is (inr (inl fails)) = absurd (omega (arith, is, fails.0))
last_says before command code after is (inr (inr (inl failed))) = absurd (omega (arith, is, failed.0))
last_says before command code after is (inr (inr (inr (inl last)))) = (last.1, last.2, last.3)
last_says before command code after is (inr (inr (inr (inr (inl full))))) = absurd (omega (arith, is, full.0))
last_says before command code after is (inr (inr (inr (inr (inr lacks))))) = absurd (omega (arith, is, lacks.0))

full_says : (before : Standing) (command : PlainCommand) (code : ℕ) (after : Standing) → code ≡ 54 → IsCaused before command code after → LacksRoom before command × (after ≡ before)
full_says before command code after is (inl other) = absurd (omega (arith, is, other))
full_says before command code after is (inr (inl fails)) = absurd (omega (arith, is, fails.0))
full_says before command code after is (inr (inr (inl failed))) = absurd (omega (arith, is, failed.0))
full_says before command code after is (inr (inr (inr (inl last)))) = absurd (omega (arith, is, last.0))
full_says before command code after is (inr (inr (inr (inr (inl full))))) = (full.1, full.2)
full_says before command code after is (inr (inr (inr (inr (inr lacks))))) = absurd (omega (arith, is, lacks.0))

old_says : (before : Standing) (command : PlainCommand) (code : ℕ) (after : Standing) → code ≡ 56 → IsCaused before command code after → LacksKind before command × (after ≡ before)
old_says before command code after is (inl other) = absurd (omega (arith, is, other))
old_says before command code after is (inr (inl fails)) = absurd (omega (arith, is, fails.0))
old_says before command code after is (inr (inr (inl failed))) = absurd (omega (arith, is, failed.0))
old_says before command code after is (inr (inr (inr (inl last)))) = absurd (omega (arith, is, last.0))
old_says before command code after is (inr (inr (inr (inr (inl full))))) = absurd (omega (arith, is, full.0))
old_says before command code after is (inr (inr (inr (inr (inr lacks))))) = (lacks.1, lacks.2)

-- no other code comes
abbrev IsKnown : ℕ → Type 0
IsKnown code = (50 < code) × (code < 57) × (code ≡ 55 → ⊥)

known_code : (before : Standing) (command : PlainCommand) (code : ℕ) (after : Standing) → IsCaused before command code after → 0 < code → IsKnown code
known_code before command code after (inl other) some = absurd (omega (arith, other, some))
known_code before command code after (inr (inl fails)) some = (omega (arith, fails.0), omega (arith, fails.0), λ is. omega (arith, is, fails.0))
known_code before command code after (inr (inr (inl failed))) some = (omega (arith, failed.0), omega (arith, failed.0), λ is. omega (arith, is, failed.0))
known_code before command code after (inr (inr (inr (inl last)))) some = (omega (arith, last.0), omega (arith, last.0), λ is. omega (arith, is, last.0))
known_code before command code after (inr (inr (inr (inr (inl full))))) some = (omega (arith, full.0), omega (arith, full.0), λ is. omega (arith, is, full.0))
known_code before command code after (inr (inr (inr (inr (inr lacks))))) some = (omega (arith, lacks.0), omega (arith, lacks.0), λ is. omega (arith, is, lacks.0))

never : (before : Standing) (command : PlainCommand) (text : List ℕ) (after : Standing) (code : ℕ) → store_code text ≡ code → 0 < code → (IsKnown code → ⊥) → Answer before command text after → ⊥
never before command text after code is some none given =
    none (known_code before command code after (subst (λ (n : ℕ). IsCaused before command n after) is (answer_caused before command text after given)) some)

pub store_faults : (before after : Standing) (command : PlainCommand) (why : StoreFault) → Answer before command (store_fault_line why) after
    → (why ≡ store_fault.Device) ⊎ ((why ≡ store_fault.Failed) ⊎ ((why ≡ store_fault.Generations) ⊎ ((why ≡ store_fault.TooLarge) ⊎ ((why ≡ store_fault.OldSide) ⊎ (why ≡ store_fault.NoMemory)))))
store_faults before after command store_fault.NoHouse given = absurd (never before command _ after 49 house_code (omega arith) (λ known. let least = known.0 in omega (arith, least)) given)
store_faults before after command (store_fault.Corrupt side place) given =
    absurd (never before command _ after 50 (corrupt_code side place) (omega arith) (λ known. let least = known.0 in omega (arith, least)) given)
store_faults before after command store_fault.Device given = inl refl
store_faults before after command store_fault.Failed given = inr (inl refl)
store_faults before after command store_fault.Generations given = inr (inr (inl refl))
store_faults before after command store_fault.TooLarge given = inr (inr (inr (inl refl)))
store_faults before after command store_fault.Exists given = absurd (never before command _ after 55 exists_code (omega arith) (λ known. known.2 refl) given)
store_faults before after command store_fault.OldSide given = inr (inr (inr (inr (inl refl))))
store_faults before after command store_fault.NoMemory given = inr (inr (inr (inr (inr refl))))

pub gone_by_answer : (before after : Standing) (command : PlainCommand) → Answer before command (store_fault_line store_fault.Device) after → after ≡ lost before
gone_by_answer before after command given = device_says before command _ after device_code (answer_caused before command _ after given)

pub lost_by_answer : (before after : Standing) (command : PlainCommand) → Answer before command (store_fault_line store_fault.Device) after
    → (after.failed ≡ true) × (after.history ≡ before.history)
lost_by_answer before after command given =
    let gone = gone_by_answer before after command given in
    (ap (λ (s : Standing). s.failed) gone, ap (λ (s : Standing). s.history) gone)

pub failed_by_answer : (before after : Standing) (command : PlainCommand) → Answer before command (store_fault_line store_fault.Failed) after → (before.failed ≡ true) × (after ≡ before)
failed_by_answer before after command given = failed_says before command _ after failed_code (answer_caused before command _ after given)

pub last_by_answer : (before after : Standing) (command : PlainCommand) → Answer before command (store_fault_line store_fault.Generations) after
    → (command ≡ checkpoint) × (before.generation ≡ last_generation) × (after ≡ before)
last_by_answer before after command given = last_says before command _ after generations_code (answer_caused before command _ after given)

pub full_by_answer : (before after : Standing) (command : PlainCommand) → Answer before command (store_fault_line store_fault.TooLarge) after → LacksRoom before command × (after ≡ before)
full_by_answer before after command given = full_says before command _ after full_code (answer_caused before command _ after given)

pub old_by_answer : (before after : Standing) (command : PlainCommand) → Answer before command (store_fault_line store_fault.OldSide) after → LacksKind before command × (after ≡ before)
old_by_answer before after command given = old_says before command _ after old_code (answer_caused before command _ after given)

-- ---- then nothing changes
makes_stays : (before : Standing) (made : Result EntryValue EntryFault) (text : List ℕ) (after : Standing) → before.failed ≡ true → Makes before made text after → after ≡ before
unfolding Makes Submits
makes_stays before (Ok e) text after fails (keeps, inl failed) = failed.1.1
makes_stays before (Ok e) text after fails (keeps, inr works) = absurd (not_both before.failed fails works.0)
makes_stays before (Err why) text after fails given = given.1

takes_stays : (before : Standing) (origin : List ℕ) (number : ℕ) (reading : Result CommandValue (List ℕ)) (text : List ℕ) (after : Standing) → before.failed ≡ true
    → Takes before origin number reading text after ⊎ RanOut before text after → after ≡ before
unfolding Takes
takes_stays before origin number (Ok command) text after fails (inl given) = makes_stays before (entry_made origin number command) text after fails given
takes_stays before origin number (Err line) text after fails (inl given) = given.1
takes_stays before origin number reading text after fails (inr out) = out.1

checkpoint_refused : (before : Standing) (text : List ℕ) (after : Standing) → before.failed ≡ true → Checkpoints before text after → Stays before (store_fault_line store_fault.Failed) text after
unfolding Checkpoints
checkpoint_refused before text after fails (inl failed) = failed.1
checkpoint_refused before text after fails (inr (inl last)) = absurd (not_both before.failed fails last.0)
checkpoint_refused before text after fails (inr (inr works)) = absurd (not_both before.failed fails works.0)

answer_stays : (before : Standing) (command : PlainCommand) (text : List ℕ) (after : Standing) → before.failed ≡ true → Answer before command text after → after ≡ before
unfolding Answer
answer_stays before (entry k origin sequence content) text after fails given = takes_stays before origin given.number given.reading text after fails given.taken
answer_stays before (report key from to) text after fails given = given.1
answer_stays before (lines from to) text after fails given = given.1
answer_stays before state text after fails given = given.1
answer_stays before checkpoint text after fails given = (checkpoint_refused before text after fails given).1
answer_stays before bad_command text after fails given = given.1
answer_stays before bad_end text after fails given = given.1

pub run_stays : (commands : List PlainCommand) (before after : Standing) (answers : List (List ℕ)) → before.failed ≡ true → AnswersEach before commands answers after → after ≡ before
unfolding AnswersEach
run_stays [] before after answers fails given = given.1
run_stays (command ∷ commands) before after answers fails given =
    let same = answer_stays before command given.0 given.1 fails given.3 in
    run_stays commands given.1 after given.2 (ap (λ (s : Standing). s.failed) same ∙ fails) given.4 ∙ same

-- ---- and each entry is refused
-- `store S4 Failed`, or that memory ran out
abbrev IsClosed : List ℕ → Type 0
IsClosed text = (text ≡ store_fault_line store_fault.Failed) ⊎ (text ≡ no_memory_line)

as_read : (word : List ℕ) (n : ℕ) → IsSequence word n → SequenceReads word n
as_read word zero is = absurd (omega (arith, is.positive))
as_read word (suc n) is = is

made_closed : (before : Standing) (e : EntryValue) (text : List ℕ) (after : Standing) (made : Result EntryValue EntryFault) → before.failed ≡ true → made ≡ Ok e → Makes before made text after → IsClosed text
unfolding Makes Submits
made_closed before e text after (Ok d) fails is (keeps, inl failed) = inl failed.1.0
made_closed before e text after (Ok d) fails is (keeps, inr works) = absurd (not_both before.failed fails works.0)
made_closed before e text after (Err why) fails is given = absurd (cc)

read_closed : (before : Standing) (e : EntryValue) (text : List ℕ) (after : Standing) (number : ℕ) (reading : Result CommandValue (List ℕ)) → before.failed ≡ true
    → entry_made e.origin e.seq e.command ≡ Ok e → number ≡ e.seq → (reading ≡ Ok e.command) ⊎ ((reading ≡ Err no_memory_line) ⊎ (Ok e.command ≡ Err no_memory_line))
    → Takes before e.origin number reading text after → IsClosed text
unfolding Takes
read_closed before e text after number (Ok command) fails made same (inl is) given =
    let own : command ≡ e.command = cc in
    made_closed before e text after (entry_made e.origin number command) fails (ap (λ n. entry_made e.origin n command) same ∙ ap (entry_made e.origin e.seq) own ∙ made) given
read_closed before e text after number (Err line) fails made same (inl is) given = absurd (cc)
read_closed before e text after number (Ok command) fails made same (inr (inl is)) given = absurd (cc)
read_closed before e text after number (Err line) fails made same (inr (inl is)) given =
    let out : line ≡ no_memory_line = cc in
    inr (given.0 ∙ out)
read_closed before e text after number reading fails made same (inr (inr is)) given = absurd (cc)

taken_closed : (before : Standing) (e : EntryValue) (text : List ℕ) (after : Standing) (number : ℕ) (reading : Result CommandValue (List ℕ)) → before.failed ≡ true
    → entry_made e.origin e.seq e.command ≡ Ok e → number ≡ e.seq → (reading ≡ Ok e.command) ⊎ ((reading ≡ Err no_memory_line) ⊎ (Ok e.command ≡ Err no_memory_line))
    → Takes before e.origin number reading text after ⊎ RanOut before text after → IsClosed text
taken_closed before e text after number reading fails made same is (inl given) = read_closed before e text after number reading fails made same is given
taken_closed before e text after number reading fails made same is (inr out) = inr out.0

entered_closed : (before : Standing) (k : EntryKind) (e : EntryValue) (sequence content text : List ℕ) (after : Standing) → before.failed ≡ true
    → ContentReads k before.history.currency content (Ok e.command) → IsSequence sequence e.seq → entry_made e.origin e.seq e.command ≡ Ok e
    → Answer before (entry k e.origin sequence content) text after → IsClosed text
unfolding Answer
entered_closed before k e sequence content text after fails reads numbers made given =
    taken_closed before e text after given.number given.reading fails made (number_one sequence given.number e.seq given.numbers (as_read sequence e.seq numbers))
    (content_one k before.history.currency content given.reading (Ok e.command) given.reads reads) given.taken

sent_closed : (before : Standing) (command : PlainCommand) (e : EntryValue) (text : List ℕ) (after : Standing) → before.failed ≡ true → Sends before.history.currency command e
    → Answer before command text after → IsClosed text
sent_closed before command e text after fails sends given =
    entered_closed before sends.kind e sends.sequence sends.content text after fails sends.reads sends.numbers sends.made
    (subst (λ (c : PlainCommand). Answer before c text after) sends.is_entry given)

-- ---- in a script, wherever a command was answered so
-- what holds of each later answer of a store that has failed
abbrev Later : (PlainCommand → List ℕ → Type 0) → Standing → List PlainCommand → List (List ℕ) → Type 0
Later P before commands answers = (place : ℕ) (command : PlainCommand) (answer : List ℕ) → slice_get commands place ≡ Some command → slice_get answers place ≡ Some answer → P command answer

each_later : (P : PlainCommand → List ℕ → Type 0) (before : Standing) → before.failed ≡ true
    → ((command : PlainCommand) (text : List ℕ) (after : Standing) → Answer before command text after → P command text)
    → (commands : List PlainCommand) (after : Standing) (answers : List (List ℕ)) → AnswersEach before commands answers after → Later P before commands answers
unfolding AnswersEach
each_later P before fails holds [] after answers given place command answer sent answered = absurd (cc)
each_later P before fails holds (c ∷ commands) after answers given zero command answer sent answered =
    let own : c ≡ command = cc in
    let there : slice_get (given.0 ∷ given.2) zero ≡ Some answer = subst (λ (l : List (List ℕ)). slice_get l zero ≡ Some answer) given.5 answered in
    let says : given.0 ≡ answer = cc in
    subst (P command) says (subst (λ (x : PlainCommand). P x given.0) own (holds c given.0 given.1 given.3))
each_later P before fails holds (c ∷ commands) after answers given (suc place) command answer sent answered =
    let there : slice_get (given.0 ∷ given.2) (suc place) ≡ Some answer = subst (λ (l : List (List ℕ)). slice_get l (suc place) ≡ Some answer) given.5 answered in
    let same = answer_stays before c given.0 given.1 fails given.3 in
    let rest : AnswersEach before commands given.2 after = subst (λ (s : Standing). AnswersEach s commands given.2 after) same given.4 in
    each_later P before fails holds commands after given.2 rest place command answer sent there

-- from the command on that was answered so
abbrev FromThen : (History → PlainCommand → List ℕ → Type 0) → Type 0
FromThen P = (before : Standing) (command : PlainCommand) (text : List ℕ) (after : Standing) → before.failed ≡ true → Answer before command text after → P before.history command text

from_then : (P : History → PlainCommand → List ℕ → Type 0) → FromThen P → (commands : List PlainCommand) (before after : Standing) (answers : List (List ℕ)) (place later : ℕ) (command : PlainCommand) (answer : List ℕ)
    → AnswersEach before commands answers after → slice_get answers place ≡ Some (store_fault_line store_fault.Device) → place < later
    → slice_get commands later ≡ Some command → slice_get answers later ≡ Some answer → (held : History) × (held.currency ≡ before.history.currency) × P held command answer
unfolding AnswersEach
from_then P holds [] before after answers place later command answer given lost less sent answered = absurd (cc)
from_then P holds (c ∷ commands) before after answers place zero command answer given lost less sent answered = absurd (omega (arith, less))
from_then P holds (c ∷ commands) before after answers zero (suc later) command answer given lost less sent answered =
    let first : slice_get (given.0 ∷ given.2) zero ≡ Some (store_fault_line store_fault.Device) =
    subst (λ (l : List (List ℕ)). slice_get l zero ≡ Some (store_fault_line store_fault.Device)) given.5 lost in
    let says : given.0 ≡ store_fault_line store_fault.Device = cc in
    let fails = (lost_by_answer before given.1 c (subst (λ (t : List ℕ). Answer before c t given.1) says given.3)).0 in
    let there : slice_get (given.0 ∷ given.2) (suc later) ≡ Some answer = subst (λ (l : List (List ℕ)). slice_get l (suc later) ≡ Some answer) given.5 answered in (
      given.1.history,
      same_currency before c given.0 given.1 (step before c given.0 given.1 given.3),
      each_later (P given.1.history) given.1 fails (λ command text after. holds given.1 command text after fails) commands after given.2 given.4 later command answer sent there,
    )
from_then P holds (c ∷ commands) before after answers (suc place) (suc later) command answer given lost less sent answered =
    let first : slice_get (given.0 ∷ given.2) (suc place) ≡ Some (store_fault_line store_fault.Device) =
    subst (λ (l : List (List ℕ)). slice_get l (suc place) ≡ Some (store_fault_line store_fault.Device)) given.5 lost in
    let there : slice_get (given.0 ∷ given.2) (suc later) ≡ Some answer = subst (λ (l : List (List ℕ)). slice_get l (suc later) ≡ Some answer) given.5 answered in
    let sooner : place < later = omega arith in
    let (held, same, is) = from_then P holds commands given.1 after given.2 place later command answer given.4 first sooner sent there in
    (held, same ∙ same_currency before c given.0 given.1 (step before c given.0 given.1 given.3), is)

abbrev EntriesClosed : History → PlainCommand → List ℕ → Type 0
EntriesClosed held command text = (e : EntryValue) → Sends held.currency command e → IsClosed text

pub entries_closed : (before after : Standing) (commands : List PlainCommand) (answers : List (List ℕ)) (place later : ℕ) (command : PlainCommand) (answer : List ℕ) (e : EntryValue)
    → AnswersEach before commands answers after → slice_get answers place ≡ Some (store_fault_line store_fault.Device) → place < later
    → slice_get commands later ≡ Some command → slice_get answers later ≡ Some answer → Sends before.history.currency command e
    → (answer ≡ store_fault_line store_fault.Failed) ⊎ (answer ≡ no_memory_line)
entries_closed before after commands answers place later command answer e given lost less sent answered sends =
    let (held, same, closed) =
    from_then EntriesClosed (λ before command text after fails given e sends. sent_closed before command e text after fails sends given) commands before after answers place later command answer given lost less sent answered in
    closed e (subst (λ currency. Sends currency command e) (sym same) sends)

abbrev CheckpointsClosed : History → PlainCommand → List ℕ → Type 0
CheckpointsClosed held command text = command ≡ checkpoint → text ≡ store_fault_line store_fault.Failed

checkpoint_closed : FromThen CheckpointsClosed
unfolding Answer
checkpoint_closed before command text after fails given is = (checkpoint_refused before text after fails (subst (λ (c : PlainCommand). Answer before c text after) is given)).0

pub checkpoints_closed : (before after : Standing) (commands : List PlainCommand) (answers : List (List ℕ)) (place later : ℕ) (answer : List ℕ)
    → AnswersEach before commands answers after → slice_get answers place ≡ Some (store_fault_line store_fault.Device) → place < later
    → slice_get commands later ≡ Some checkpoint → slice_get answers later ≡ Some answer → answer ≡ store_fault_line store_fault.Failed
checkpoints_closed before after commands answers place later answer given lost less sent answered =
    let (held, same, closed) = from_then CheckpointsClosed checkpoint_closed commands before after answers place later checkpoint answer given lost less sent answered in
    closed refl

-- the line of a device that fails is none of the two
pub device_not_closed : (answer : List ℕ) → answer ≡ store_fault_line store_fault.Device → (answer ≡ store_fault_line store_fault.Failed) ⊎ (answer ≡ no_memory_line) → ⊥
device_not_closed answer device (inl failed) =
    let codes = sym device_code ∙ ap store_code (sym device ∙ failed) ∙ failed_code in
    absurd (omega (arith, codes))
device_not_closed answer device (inr memory) =
    let codes = sym device_code ∙ ap store_code (sym device ∙ memory) ∙ memory_silent in
    absurd (omega (arith, codes))
