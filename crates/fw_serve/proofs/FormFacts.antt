-- The form of the side in use: a checkpoint makes it the second one, which has each entry.
use Rattle.std.proofs.Common.{◌≡◌, ◌⊎◌, ◌∙◌, ◌<◌, ◌∷◌, [], ℕ, zero, suc, List, Some, true, slice_get, Ok, Err, ap, subst, inl, inr, ⊎_elim, arith}
use Rattle.std.specs.Prelude.{Result}
use Rattle.fw_entry.specs.Entry.{CommandValue, EntryValue}
use Rattle.fw_entry.specs.declared.fault.EntryFault.{EntryFault}
use Rattle.fw_entry_bytes.specs.Forms.{has_entry}
use Rattle.fw_entry_bytes.specs.declared.form.Form.{Form}
use Rattle.fw_entry_bytes.specs.declared.form.Form.TheVariants.{Two}
use Rattle.fw_recover.specs.declared.fault.StoreFault.TheVariants as store_fault
use Rattle.fw_script.specs.Plain.{PlainCommand, entry, report, lines, state, checkpoint, bad_command, bad_end}
use Rattle.fw_snapshot.specs.Judging.{judged}
use Rattle.fw_snapshot.specs.declared.verdict.Verdict.{Verdict}
use Rattle.fw_snapshot.specs.declared.verdict.Verdict.TheVariants as verdict
use Rattle.fw_serve.specs.Answers.{Answer, Checkpoints, Judges, Makes, RanOut, Renews, Submits, Takes, entry_made}
use Rattle.fw_serve.specs.Replies.{checkpointed_line, store_fault_line}
use Rattle.fw_serve.specs.Runs.{AnswersEach}
use Rattle.fw_serve.specs.Standings.{Standing}
use Rattle.fw_serve.proofs.AlikeFacts.{made_leaves}
use Rattle.fw_serve.proofs.FailedFacts.{old_by_answer}
use Rattle.fw_serve.proofs.MoveFacts.{not_both}

-- ---- what a command leaves
-- the side in use is of the form that it was of, or of the second one
abbrev KeepsForm : Standing → Standing → Type 0
KeepsForm before after = (after.form ≡ before.form) ⊎ (after.form ≡ Two)

same_form : (before after : Standing) → after ≡ before → KeepsForm before after
same_form before after same = inl (ap (λ (s : Standing). s.form) same)

judges_form : (before : Standing) (e : EntryValue) (v : Verdict) (text : List ℕ) (after : Standing) → Judges before e v text after → KeepsForm before after
unfolding Judges
judges_form before e verdict.Accept text after (inl lacks) = same_form before after lacks.1.1
judges_form before e verdict.Accept text after (inr (has, inl stored)) = inl (ap (λ (s : Standing). s.form) stored.1)
judges_form before e verdict.Accept text after (inr (has, inr (inl full))) = same_form before after full.0.1
judges_form before e verdict.Accept text after (inr (has, inr (inr device))) = inl (ap (λ (s : Standing). s.form) device.1)
judges_form before e (verdict.Already last) text after stays = same_form before after stays.1
judges_form before e (verdict.Gap expected) text after stays = same_form before after stays.1
judges_form before e (verdict.Refused why) text after stays = same_form before after stays.1

submits_form : (before : Standing) (e : EntryValue) (text : List ℕ) (after : Standing) → Submits before e text after → KeepsForm before after
unfolding Submits
submits_form before e text after (inl failed) = same_form before after failed.1.1
submits_form before e text after (inr works) = judges_form before e (judged before.history.entries e) text after works.1

makes_form : (before : Standing) (made : Result EntryValue EntryFault) (text : List ℕ) (after : Standing) → Makes before made text after → KeepsForm before after
unfolding Makes
makes_form before (Ok e) text after given = submits_form before e text after given.1
makes_form before (Err why) text after given = same_form before after given.1

takes_form : (before : Standing) (origin : List ℕ) (number : ℕ) (reading : Result CommandValue (List ℕ)) (text : List ℕ) (after : Standing)
    → Takes before origin number reading text after ⊎ RanOut before text after → KeepsForm before after
unfolding Takes
takes_form before origin number (Ok command) text after (inl given) = makes_form before (entry_made origin number command) text after given
takes_form before origin number (Err line) text after (inl given) = same_form before after given.1
takes_form before origin number reading text after (inr out) = same_form before after out.1

renews_form : (before : Standing) (text : List ℕ) (after : Standing) → Renews before text after → KeepsForm before after
renews_form before text after (inl made) = inr (ap (λ (s : Standing). s.form) made.4)
renews_form before text after (inr (inl full)) = same_form before after full.0.1
renews_form before text after (inr (inr (inl device))) = inl (ap (λ (s : Standing). s.form) device.1)
renews_form before text after (inr (inr (inr out))) = same_form before after out.1

checkpoint_form : (before : Standing) (text : List ℕ) (after : Standing) → Checkpoints before text after → KeepsForm before after
unfolding Checkpoints
checkpoint_form before text after (inl failed) = same_form before after failed.1.1
checkpoint_form before text after (inr (inl last)) = same_form before after last.2.1
checkpoint_form before text after (inr (inr (works, further, renews))) = renews_form before text after renews

answer_form : (before : Standing) (command : PlainCommand) (text : List ℕ) (after : Standing) → Answer before command text after → KeepsForm before after
unfolding Answer
answer_form before (entry k origin sequence content) text after given = takes_form before origin given.number given.reading text after given.taken
answer_form before (report key from to) text after given = same_form before after given.1
answer_form before (lines from to) text after given = same_form before after given.1
answer_form before state text after given = same_form before after given.1
answer_form before checkpoint text after given = checkpoint_form before text after given
answer_form before bad_command text after given = same_form before after given.1
answer_form before bad_end text after given = same_form before after given.1

-- ---- once the side in use is of the second form
stays_second : (before : Standing) (command : PlainCommand) (text : List ℕ) (after : Standing) → before.form ≡ Two → Answer before command text after → after.form ≡ Two
stays_second before command text after second given = ⊎_elim (λ same. same ∙ second) (λ made. made) (answer_form before command text after given)

has_each : (form : Form) (e : EntryValue) → form ≡ Two → has_entry form e ≡ true
has_each form e second = ap (λ (f : Form). has_entry f e) second

never_old : (before : Standing) (command : PlainCommand) (after : Standing) → before.form ≡ Two → Answer before command (store_fault_line store_fault.OldSide) after → ⊥
never_old before command after second given =
    let (e, sends, accepted, lacks) = (old_by_answer before after command given).0 in
    not_both (has_entry before.form e) (has_each before.form e second) lacks

pub second_never_old : (commands : List PlainCommand) (before after : Standing) (answers : List (List ℕ)) (place : ℕ) → before.form ≡ Two → AnswersEach before commands answers after
    → slice_get answers place ≡ Some (store_fault_line store_fault.OldSide) → ⊥
unfolding AnswersEach
second_never_old [] before after answers place second given answered =
    let none : slice_get [] place ≡ Some (store_fault_line store_fault.OldSide) = subst (λ (l : List (List ℕ)). slice_get l place ≡ Some (store_fault_line store_fault.OldSide)) given.0 answered in
    absurd (cc)
second_never_old (command ∷ commands) before after answers zero second given answered =
    let there : slice_get (given.0 ∷ given.2) zero ≡ Some (store_fault_line store_fault.OldSide) =
    subst (λ (l : List (List ℕ)). slice_get l zero ≡ Some (store_fault_line store_fault.OldSide)) given.5 answered in
    let says : given.0 ≡ store_fault_line store_fault.OldSide = cc in
    never_old before command given.1 second (subst (λ (t : List ℕ). Answer before command t given.1) says given.3)
second_never_old (command ∷ commands) before after answers (suc place) second given answered =
    let there : slice_get (given.0 ∷ given.2) (suc place) ≡ Some (store_fault_line store_fault.OldSide) =
    subst (λ (l : List (List ℕ)). slice_get l (suc place) ≡ Some (store_fault_line store_fault.OldSide)) given.5 answered in
    second_never_old commands given.1 after given.2 place (stays_second before command given.0 given.1 second given.3) given.4 there

-- ---- behind a checkpoint that was made
made_second : (before : Standing) (command : PlainCommand) (text : List ℕ) (after : Standing) → command ≡ checkpoint → text ≡ checkpointed_line → Answer before command text after → after.form ≡ Two
unfolding Answer
made_second before command text after is made given =
    let own : Checkpoints before text after = subst (λ (c : PlainCommand). Answer before c text after) is given in
    (made_leaves before text after made own).2

pub checkpointed_never_old : (commands : List PlainCommand) (before after : Standing) (answers : List (List ℕ)) (place later : ℕ) → AnswersEach before commands answers after
    → slice_get commands place ≡ Some checkpoint → slice_get answers place ≡ Some checkpointed_line → place < later
    → slice_get answers later ≡ Some (store_fault_line store_fault.OldSide) → ⊥
unfolding AnswersEach
checkpointed_never_old [] before after answers place later given sent made less answered = absurd (cc)
checkpointed_never_old (command ∷ commands) before after answers place zero given sent made less answered = absurd (omega (arith, less))
checkpointed_never_old (command ∷ commands) before after answers zero (suc later) given sent made less answered =
    let own : command ≡ checkpoint = cc in
    let first : slice_get (given.0 ∷ given.2) zero ≡ Some checkpointed_line = subst (λ (l : List (List ℕ)). slice_get l zero ≡ Some checkpointed_line) given.5 made in
    let says : given.0 ≡ checkpointed_line = cc in
    let there : slice_get (given.0 ∷ given.2) (suc later) ≡ Some (store_fault_line store_fault.OldSide) =
    subst (λ (l : List (List ℕ)). slice_get l (suc later) ≡ Some (store_fault_line store_fault.OldSide)) given.5 answered in
    second_never_old commands given.1 after given.2 later (made_second before command given.0 given.1 own says given.3) given.4 there
checkpointed_never_old (command ∷ commands) before after answers (suc place) (suc later) given sent made less answered =
    let first : slice_get (given.0 ∷ given.2) (suc place) ≡ Some checkpointed_line = subst (λ (l : List (List ℕ)). slice_get l (suc place) ≡ Some checkpointed_line) given.5 made in
    let there : slice_get (given.0 ∷ given.2) (suc later) ≡ Some (store_fault_line store_fault.OldSide) =
    subst (λ (l : List (List ℕ)). slice_get l (suc later) ≡ Some (store_fault_line store_fault.OldSide)) given.5 answered in
    let sooner : place < later = omega arith in
    checkpointed_never_old commands given.1 after given.2 place later given.4 sent first sooner there
