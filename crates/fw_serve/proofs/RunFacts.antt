-- What a run of commands is answered, and what it leaves.
use Rattle.std.proofs.Common.{◌≡◌, ◌⊎◌, ◌∙◌, ◌+◌, ◌++◌, ◌∷◌, [], ℕ, zero, suc, List, Bool, true, false, length, Ok, Err, refl, sym, ap, subst, inl, inr, length-append, append-nil}
use Rattle.std.specs.Prelude.{◌==◌, Result, if◌then◌else◌, nat_lt}
use Rattle.std.specs.List.{concat}
use Rattle.fw_entry.specs.Entry.{CommandValue, EntryValue, is_origin}
use Rattle.fw_entry.specs.Spelling as spelling
use Rattle.fw_entry.specs.Spelling.{most_entry_bytes}
use Rattle.fw_entry.specs.declared.fault.EntryFault.{EntryFault}
use Rattle.fw_entry.specs.declared.fault.EntryFault.TheVariants as entry_fault
use Rattle.fw_entry_bytes.specs.Forms.{has_entry}
use Rattle.fw_recover.specs.declared.fault.StoreFault.{StoreFault}
use Rattle.fw_recover.specs.declared.fault.StoreFault.TheVariants as store_fault
use Rattle.fw_recover.proofs.Standing.{no_more}
use Rattle.fw_script.specs.Plain.{PlainCommand, entry, report, lines, state, checkpoint, bad_command, bad_end}
use Rattle.fw_script.specs.Words.{IsSequence}
use Rattle.fw_script.specs.declared.commands.EntryKind.{EntryKind}
use Rattle.fw_snapshot.specs.History.{History}
use Rattle.fw_snapshot.specs.Judging.{judged}
use Rattle.fw_snapshot.specs.Verdicts.{accepted_of, is_accept, kept_by, taken, verdicts_on, with_more}
use Rattle.fw_snapshot.specs.declared.verdict.Verdict.{Verdict}
use Rattle.fw_snapshot.specs.declared.verdict.Verdict.TheVariants as verdict
use Rattle.fw_serve.specs.Answers.{Answer, Answers, Checkpoints, Judges, Makes, SequenceReads, Stays, Submits, Takes, entry_made, parts_entry}
use Rattle.fw_serve.specs.Contents.{ContentReads}
use Rattle.fw_serve.specs.Replies.{no_memory_line, store_fault_line, verdict_line, checkpointed_line}
use Rattle.fw_serve.specs.Runs.{AnswersEach, AreJudged, AreTold, IsHindered, Sends, SendsNone, verdict_lines}
use Rattle.fw_serve.specs.Standings.{Standing}
use Rattle.fw_serve.proofs.MoveFacts.{more_twice, not_both}
use Rattle.fw_serve.proofs.SilentFacts.{speaks, verdict_speaks, hindered_silent, content_silent, entry_silent, report_silent, lines_silent, state_silent, checkpointed_silent, bad_command_silent, bad_end_silent}

-- a command sends no entry that is judged, and leaves the entries as they were; or it sends one, which is answered by the line of its verdict
abbrev pub OneStep : Standing → PlainCommand → List ℕ → Standing → Type 0
OneStep before command text after =
    ((SendsNone before.history.currency command text ⊎ IsHindered text) × (speaks text ≡ false) × (after.history ≡ before.history))
    ⊎ ((e : EntryValue) × Sends before.history.currency command e × (text ≡ verdict_line (length before.history.entries + 1) (judged before.history.entries e))
    × (judged before.history.entries e ≡ verdict.Accept → has_entry before.form e ≡ true) × (after.history ≡ with_more before.history (taken before.history.entries e)))

pub same_history : (a b : Standing) → a ≡ b → a.history ≡ b.history
same_history a b same = ap (λ (s : Standing). s.history) same

-- memory ran out, or the store didn't do it
hindered : (before : Standing) (command : PlainCommand) (text : List ℕ) (after : Standing) → IsHindered text → after.history ≡ before.history → OneStep before command text after
hindered before command text after is same = inl (inr is, hindered_silent text is, same)

by_store : (before : Standing) (command : PlainCommand) (text : List ℕ) (after : Standing) (why : StoreFault) → text ≡ store_fault_line why → after.history ≡ before.history
    → OneStep before command text after
by_store before command text after why is same = hindered before command text after (inr (why, is)) same

-- ---- entries that are judged
unkept : (before : Standing) (command : PlainCommand) (e : EntryValue) (text : List ℕ) (after : Standing) (v : Verdict) → Sends before.history.currency command e
    → judged before.history.entries e ≡ v → is_accept v ≡ false → Stays before (verdict_line (length before.history.entries + 1) v) text after → OneStep before command text after
unkept before command e text after v sends is unaccepted stays =
    let none : kept_by v e ≡ [] = ap (λ b. if b then e ∷ [] else []) unaccepted in
    inr (
      e,
      sends,
      stays.0 ∙ sym (ap (verdict_line (length before.history.entries + 1)) is),
      λ accepted. absurd (not_both (is_accept v) (ap is_accept (sym is ∙ accepted)) unaccepted),
      same_history after before stays.1
          ∙ no_more before.history
          ∙ sym (ap (λ (l : List EntryValue). with_more before.history l) none)
          ∙ sym (ap (λ (v : Verdict). with_more before.history (kept_by v e)) is),
    )

judged_step : (before : Standing) (command : PlainCommand) (e : EntryValue) (text : List ℕ) (after : Standing) (v : Verdict) → Sends before.history.currency command e
    → judged before.history.entries e ≡ v → Judges before e v text after → OneStep before command text after
unfolding Judges verdict_line
judged_step before command e text after verdict.Accept sends is (inl lacks) = by_store before command text after store_fault.OldSide lacks.1.0 (same_history after before lacks.1.1)
judged_step before command e text after verdict.Accept sends is (inr (has, inl stored)) =
    inr (
      e,
      sends,
      stored.0 ∙ sym (ap (verdict_line (length before.history.entries + 1)) is),
      λ accepted. has,
      ap (λ (s : Standing). s.history) stored.1 ∙ sym (ap (λ (v : Verdict). with_more before.history (kept_by v e)) is),
    )
judged_step before command e text after verdict.Accept sends is (inr (has, inr (inl full))) =
    by_store before command text after store_fault.TooLarge full.0.0 (same_history after before full.0.1)
judged_step before command e text after verdict.Accept sends is (inr (has, inr (inr device))) =
    by_store before command text after store_fault.Device device.0 (ap (λ (s : Standing). s.history) device.1)
judged_step before command e text after (verdict.Already last) sends is stays = unkept before command e text after (verdict.Already last) sends is refl stays
judged_step before command e text after (verdict.Gap expected) sends is stays = unkept before command e text after (verdict.Gap expected) sends is refl stays
judged_step before command e text after (verdict.Refused why) sends is stays = unkept before command e text after (verdict.Refused why) sends is refl stays

submit_step : (before : Standing) (command : PlainCommand) (e : EntryValue) (text : List ℕ) (after : Standing) → Sends before.history.currency command e → Submits before e text after
    → OneStep before command text after
unfolding Submits
submit_step before command e text after sends (inl failed) = by_store before command text after store_fault.Failed failed.1.0 (same_history after before failed.1.1)
submit_step before command e text after sends (inr works) = judged_step before command e text after (judged before.history.entries e) sends refl works.1

-- ---- entries that are made
made_of : (a b c : Bool) (p e : EntryValue) (x y z : EntryFault) → (if a then (if b then Err x else (if c then Err y else Ok p)) else Err z) ≡ Ok e → p ≡ e
made_of true true c p e x y z h = absurd (cc)
made_of true false true p e x y z h = absurd (cc)
made_of true false false p e x y z h = cc
made_of false b c p e x y z h = absurd (cc)

pub made_parts : (origin : List ℕ) (number : ℕ) (command : CommandValue) (e : EntryValue) → entry_made origin number command ≡ Ok e → parts_entry origin number command ≡ e
unfolding entry_made
made_parts origin number command e h =
    made_of (is_origin origin) (number == 0) (nat_lt most_entry_bytes (length (spelling.entry (parts_entry origin number command)))) (parts_entry origin number command) e
    entry_fault.Seq entry_fault.TooLarge entry_fault.Origin h

never_made : (a : Bool) (e : EntryValue) (x z : EntryFault) (r : Result EntryValue EntryFault) → r ≡ (if a then Err x else Err z) → r ≡ Ok e → ⊥
never_made true e x z r is h = absurd (cc)
never_made false e x z r is h = absurd (cc)

made_zero : (origin : List ℕ) (command : CommandValue) → entry_made origin zero command ≡ (if is_origin origin then Err entry_fault.Seq else Err entry_fault.Origin)
unfolding entry_made
made_zero origin command = refl

made_number : (word origin : List ℕ) (number : ℕ) (command : CommandValue) (e : EntryValue) → SequenceReads word number → entry_made origin number command ≡ Ok e → IsSequence word number
made_number word origin zero command e reads made = absurd (never_made (is_origin origin) e entry_fault.Seq entry_fault.Origin _ (made_zero origin command) made)
made_number word origin (suc n) command e reads made = reads

pub sends_made : (currency : List ℕ) (k : EntryKind) (origin sequence content : List ℕ) (number : ℕ) (command : CommandValue) (e : EntryValue)
    → ContentReads k currency content (Ok command) → SequenceReads sequence number → entry_made origin number command ≡ Ok e → Sends currency (entry k origin sequence content) e
sends_made currency k origin sequence content number command e reads numbers made =
    let parts = made_parts origin number command e made in
    let own : Sends currency (entry k origin sequence content) (parts_entry origin number command) = record {
      kind = k;
      sequence = sequence;
      content = content;
      is_entry = refl;
      reads = reads;
      numbers = made_number sequence origin number command e numbers made;
      made = made ∙ ap Ok (sym parts);
    } in
    subst (λ (x : EntryValue). Sends currency (entry k origin sequence content) x) parts own

make_step : (before : Standing) (k : EntryKind) (origin sequence content text : List ℕ) (after : Standing) (number : ℕ) (command : CommandValue) (made : Result EntryValue EntryFault)
    → entry_made origin number command ≡ made → ContentReads k before.history.currency content (Ok command) → SequenceReads sequence number → Makes before made text after
    → OneStep before (entry k origin sequence content) text after
unfolding Makes SendsNone
make_step before k origin sequence content text after number command (Ok e) is reads numbers given =
    submit_step before (entry k origin sequence content) e text after (sends_made before.history.currency k origin sequence content number command e reads numbers is) given.1
make_step before k origin sequence content text after number command (Err why) is reads numbers given =
    inl (inl (inr (number, command, why, numbers, reads, is, given.0)), ap speaks given.0 ∙ entry_silent why, same_history after before given.1)

take_step : (before : Standing) (k : EntryKind) (origin sequence content text : List ℕ) (after : Standing) (number : ℕ) (reading : Result CommandValue (List ℕ))
    → ContentReads k before.history.currency content reading → SequenceReads sequence number → Takes before origin number reading text after
    → OneStep before (entry k origin sequence content) text after
unfolding Takes SendsNone
take_step before k origin sequence content text after number (Ok command) reads numbers given =
    make_step before k origin sequence content text after number command (entry_made origin number command) refl reads numbers given
take_step before k origin sequence content text after number (Err line) reads numbers given =
    inl (
      inl (inl (subst (λ (l : List ℕ). ContentReads k before.history.currency content (Err l)) (sym given.0) reads)),
      ap speaks given.0 ∙ content_silent k before.history.currency content line reads,
      same_history after before given.1,
    )

entered_step : (before : Standing) (k : EntryKind) (origin sequence content text : List ℕ) (after : Standing) (number : ℕ) (reading : Result CommandValue (List ℕ))
    → ContentReads k before.history.currency content reading → SequenceReads sequence number
    → Takes before origin number reading text after ⊎ Stays before no_memory_line text after → OneStep before (entry k origin sequence content) text after
entered_step before k origin sequence content text after number reading reads numbers (inl given) =
    take_step before k origin sequence content text after number reading reads numbers given
entered_step before k origin sequence content text after number reading reads numbers (inr out) =
    hindered before (entry k origin sequence content) text after (inl out.0) (same_history after before out.1)

-- ---- checkpoints
pub checkpoint_leaves : (before : Standing) (text : List ℕ) (after : Standing) → Checkpoints before text after → (IsHindered text ⊎ (text ≡ checkpointed_line)) × (after.history ≡ before.history)
unfolding Checkpoints
checkpoint_leaves before text after (inl failed) = (inl (inr (store_fault.Failed, failed.1.0)), same_history after before failed.1.1)
checkpoint_leaves before text after (inr (inl last)) = (inl (inr (store_fault.Generations, last.2.0)), same_history after before last.2.1)
checkpoint_leaves before text after (inr (inr (works, further, inl made))) = (inr made.3, ap (λ (s : Standing). s.history) made.4)
checkpoint_leaves before text after (inr (inr (works, further, inr (inl full)))) = (inl (inr (store_fault.TooLarge, full.0.0)), same_history after before full.0.1)
checkpoint_leaves before text after (inr (inr (works, further, inr (inr (inl device))))) = (inl (inr (store_fault.Device, device.0)), ap (λ (s : Standing). s.history) device.1)
checkpoint_leaves before text after (inr (inr (works, further, inr (inr (inr out))))) = (inl (inl out.0), same_history after before out.1)

checkpoint_step : (before : Standing) (text : List ℕ) (after : Standing) → IsHindered text ⊎ (text ≡ checkpointed_line) → after.history ≡ before.history → OneStep before checkpoint text after
unfolding SendsNone
checkpoint_step before text after (inl is) same = hindered before checkpoint text after is same
checkpoint_step before text after (inr is) same = inl (inl tt, ap speaks is ∙ checkpointed_silent, same)

-- ---- commands
pub step : (before : Standing) (command : PlainCommand) (text : List ℕ) (after : Standing) → Answer before command text after → OneStep before command text after
unfolding Answer SendsNone
step before (entry k origin sequence content) text after given =
    entered_step before k origin sequence content text after given.number given.reading given.reads given.numbers given.taken
step before (report key from to) text after given = inl (inl tt, report_silent before.history key from to text given.0, same_history after before given.1)
step before (lines from to) text after given = inl (inl tt, lines_silent before.history from to text given.0, same_history after before given.1)
step before state text after given = inl (inl tt, ap speaks given.0 ∙ state_silent before.history, same_history after before given.1)
step before checkpoint text after given =
    let left = checkpoint_leaves before text after given in
    checkpoint_step before text after left.0 left.1
step before bad_command text after given = inl (inl tt, ap speaks given.0 ∙ bad_command_silent, same_history after before given.1)
step before bad_end text after given = inl (inl tt, ap speaks given.0 ∙ bad_end_silent, same_history after before given.1)

-- an answer that says that memory ran out, or that the store didn't do it, leaves the entries as they were
left_by_step : (before : Standing) (command : PlainCommand) (text : List ℕ) (after : Standing) → OneStep before command text after → IsHindered text → after.history ≡ before.history
left_by_step before command text after (inl passed) out = passed.2
left_by_step before command text after (inr (e, sends, says, has, grows)) out =
    absurd (not_both (speaks text) (ap speaks says ∙ verdict_speaks (length before.history.entries + 1) (judged before.history.entries e)) (hindered_silent text out))

pub hindered_leaves : (before : Standing) (command : PlainCommand) (text : List ℕ) (after : Standing) → Answer before command text after → IsHindered text → after.history ≡ before.history
hindered_leaves before command text after answered out = left_by_step before command text after (step before command text after answered) out

-- ---- runs
count_taken : (entries : List EntryValue) (e : EntryValue) (b : Bool) → (if b then length entries + 1 else length entries) ≡ length (entries ++ (if b then e ∷ [] else []))
count_taken entries e true = sym (length-append entries (e ∷ []))
count_taken entries e false = ap length (sym (append-nil entries))

lines_more : (held : List EntryValue) (e : EntryValue) (others : List EntryValue) (text : List ℕ) → text ≡ verdict_line (length held + 1) (judged held e)
    → verdict_lines (length held) (verdicts_on held (e ∷ others)) ≡ text ∷ verdict_lines (length (held ++ taken held e)) (verdicts_on (held ++ taken held e) others)
unfolding verdict_lines verdicts_on
lines_more held e others text says =
    ap (λ (t : List ℕ). t ∷ verdict_lines (if is_accept (judged held e) then length held + 1 else length held) (verdicts_on (held ++ taken held e) others)) (sym says)
    ∙ ap (λ n. text ∷ verdict_lines n (verdicts_on (held ++ taken held e) others)) (count_taken held e (is_accept (judged held e)))

one_more : (before : Standing) (command : PlainCommand) (text : List ℕ) (next : Standing) (commands : List PlainCommand) (answers more : List (List ℕ)) (after : History)
    → answers ≡ text ∷ more → OneStep before command text next → AreTold next.history commands more after → AreTold before.history (command ∷ commands) answers after
unfolding AreJudged accepted_of
one_more before command text next commands answers more after is (inl passed) rest =
    let told : AreTold before.history commands more after = subst (λ (h : History). AreTold h commands more after) passed.2 rest in
    record { entries = told.entries; are_judged = (text, more, is, inl (passed.0, told.are_judged)); holds = told.holds }
one_more before command text next commands answers more after is (inr (e, sends, says, has, grows)) rest =
    let held = before.history.entries in
    let told : AreTold (with_more before.history (taken held e)) commands more after = subst (λ (h : History). AreTold h commands more after) grows rest in
    record {
      entries = e ∷ told.entries;
      are_judged = (
        text,
        more,
        is,
        inr (
          e,
          told.entries,
          verdict_lines (length (held ++ taken held e)) (verdicts_on (held ++ taken held e) told.entries),
          sends,
          refl,
          lines_more held e told.entries text says,
          told.are_judged,
        ),
      );
      holds = told.holds ∙ more_twice before.history (taken held e) (accepted_of (held ++ taken held e) told.entries);
    }

none_told : (held : History) (answers : List (List ℕ)) → answers ≡ [] → AreTold held [] answers held
unfolding AreJudged verdict_lines verdicts_on accepted_of
none_told held answers none = record { entries = []; are_judged = (none, refl, refl); holds = no_more held }

pub told : (before : Standing) (commands : List PlainCommand) (answers : List (List ℕ)) (after : Standing) → AnswersEach before commands answers after
    → AreTold before.history commands answers after.history
unfolding AnswersEach
told before [] answers after given =
    subst (λ (h : History). AreTold before.history [] answers h) (sym (same_history after before given.1)) (none_told before.history answers given.0)
told before (command ∷ commands) answers after given =
    one_more before command given.0 given.1 commands answers given.2 after.history given.5 (step before command given.0 given.1 given.3) (told given.1 commands given.2 after given.4)

-- what is written is one answer for each command
pub each_answered : (before after : Standing) (commands : List PlainCommand) (text : List ℕ) → Answers before commands text after
    → (answers : List (List ℕ)) × (text ≡ concat answers) × AnswersEach before commands answers after
unfolding Answers AnswersEach
each_answered before after [] text given = ([], given.0, (refl, given.1))
each_answered before after (command ∷ commands) text given =
    let rest = each_answered given.1 after commands given.2 given.4 in
    (given.0 ∷ rest.0, given.5 ∙ ap (λ (l : List ℕ). given.0 ++ l) rest.1, (given.0, given.1, rest.0, given.3, rest.2, refl))
