-- A warehouse stays whole, command by command, and its reports add up.
use Rattle.std.proofs.Common.{◌≡◌, ◌⊎◌, ◌++◌, ◌∷◌, [], ℕ, zero, suc, List, Ok, Err, Some, refl, sym, ap, subst, inl, inr, slice_get, take}
use Rattle.std.specs.Prelude.{Result}
use Rattle.std.proofs.lemmas.List.Elements.{All-append, All-cons, All-nil}
use Rattle.fw_entry.specs.Entry.{CommandValue, EntryValue}
use Rattle.fw_entry.specs.Spelling.{IsEntry}
use Rattle.fw_entry.specs.declared.fault.EntryFault.{EntryFault}
use Rattle.fw_query.proofs.AccountedFacts.{lines_account}
use Rattle.fw_query.proofs.BoughtFacts.{bought_between}
use Rattle.fw_query.proofs.CarriedFacts.{carried_between, carried_term, purchases_cost_nothing, shares_bill_nothing}
use Rattle.fw_query.proofs.DirectFacts.{billed_lines, charged_direct, direct_lines}
use Rattle.fw_script.specs.Plain.{PlainCommand, entry, report, lines, state, checkpoint, bad_command, bad_end}
use Rattle.fw_snapshot.proofs.LegalFacts.{legal_more}
use Rattle.fw_snapshot.specs.History.{History}
use Rattle.fw_snapshot.specs.Judging.{judged}
use Rattle.fw_snapshot.specs.Verdicts.{with_more}
use Rattle.fw_snapshot.specs.declared.verdict.Verdict.{Verdict}
use Rattle.fw_snapshot.specs.declared.verdict.Verdict.TheVariants as verdict
use Rattle.fw_serve.specs.Answers.{Answer, Judges, Makes, RanOut, Submits, Takes, entry_made}
use Rattle.fw_serve.specs.Runs.{AnswersEach}
use Rattle.fw_serve.specs.Standings.{Standing}
use Rattle.fw_serve.specs.Whole.{IsWhole, ReportsAddUp}
use Rattle.fw_serve.proofs.RunFacts.{checkpoint_leaves, same_history}

pub whole_adds_up : (entries : List EntryValue) → IsWhole entries → ReportsAddUp entries
whole_adds_up entries whole = record {
  charged = λ key from to groups is. charged_direct entries key from to groups whole.each is;
  direct = λ key from to all groups are is. direct_lines entries key from to all groups are is;
  term = λ from to all place c are there early late. carried_term entries from to all place c whole.legal whole.each are there early late;
  billed = λ key from to all groups are is. billed_lines entries key from to all groups are is;
  hours = λ from to all place c are there. carried_between entries from to all place c whole.legal are there;
  purchases = λ from to all place c are there. purchases_cost_nothing entries from to all place c whole.legal whole.each are there;
  bought = λ from to all place c forward are there. bought_between entries from to all place c whole.legal whole.each forward are there;
  unbilled = λ from to all place c are there. shares_bill_nothing entries from to all place c whole.legal are there;
  rows = λ from to all forward are. lines_account entries from to all forward are;
}

-- ---- commands
-- the entries are as they were, or one more that was accepted and keeps its limits
abbrev Adds : History → History → Type 0
Adds before after = (after ≡ before) ⊎ ((e : EntryValue) × IsEntry e × (judged before.entries e ≡ verdict.Accept) × (after ≡ with_more before (e ∷ [])))

same_adds : (before after : Standing) → after ≡ before → Adds before.history after.history
same_adds before after same = inl (same_history after before same)

judges_adds : (before : Standing) (e : EntryValue) (text : List ℕ) (after : Standing) (v : Verdict) → IsEntry e → judged before.history.entries e ≡ v → Judges before e v text after
    → Adds before.history after.history
unfolding Judges
judges_adds before e text after verdict.Accept keeps is (inl lacks) = same_adds before after lacks.1.1
judges_adds before e text after verdict.Accept keeps is (inr (has, inl stored)) = inr (e, keeps, is, ap (λ (s : Standing). s.history) stored.1)
judges_adds before e text after verdict.Accept keeps is (inr (has, inr (inl full))) = same_adds before after full.0.1
judges_adds before e text after verdict.Accept keeps is (inr (has, inr (inr device))) = inl (ap (λ (s : Standing). s.history) device.1)
judges_adds before e text after (verdict.Already last) keeps is stays = same_adds before after stays.1
judges_adds before e text after (verdict.Gap expected) keeps is stays = same_adds before after stays.1
judges_adds before e text after (verdict.Refused why) keeps is stays = same_adds before after stays.1

submits_adds : (before : Standing) (e : EntryValue) (text : List ℕ) (after : Standing) → IsEntry e → Submits before e text after → Adds before.history after.history
unfolding Submits
submits_adds before e text after keeps (inl failed) = same_adds before after failed.1.1
submits_adds before e text after keeps (inr works) = judges_adds before e text after (judged before.history.entries e) keeps refl works.1

makes_adds : (before : Standing) (made : Result EntryValue EntryFault) (text : List ℕ) (after : Standing) → Makes before made text after → Adds before.history after.history
unfolding Makes
makes_adds before (Ok e) text after given = submits_adds before e text after given.0 given.1
makes_adds before (Err why) text after given = same_adds before after given.1

takes_adds : (before : Standing) (origin : List ℕ) (number : ℕ) (reading : Result CommandValue (List ℕ)) (text : List ℕ) (after : Standing)
    → Takes before origin number reading text after ⊎ RanOut before text after → Adds before.history after.history
unfolding Takes
takes_adds before origin number (Ok command) text after (inl given) = makes_adds before (entry_made origin number command) text after given
takes_adds before origin number (Err line) text after (inl given) = same_adds before after given.1
takes_adds before origin number reading text after (inr out) = same_adds before after out.1

answer_adds : (before : Standing) (command : PlainCommand) (text : List ℕ) (after : Standing) → Answer before command text after → Adds before.history after.history
unfolding Answer
answer_adds before (entry k origin sequence content) text after given = takes_adds before origin given.number given.reading text after given.taken
answer_adds before (report key from to) text after given = same_adds before after given.1
answer_adds before (lines from to) text after given = same_adds before after given.1
answer_adds before state text after given = same_adds before after given.1
answer_adds before checkpoint text after given = inl (checkpoint_leaves before text after given).1
answer_adds before bad_command text after given = same_adds before after given.1
answer_adds before bad_end text after given = same_adds before after given.1

adds_whole : (before after : History) → IsWhole before.entries → Adds before after → IsWhole after.entries
adds_whole before after whole (inl same) = subst (λ (h : History). IsWhole h.entries) (sym same) whole
adds_whole before after whole (inr (e, keeps, is, grows)) =
    let one : IsWhole (before.entries ++ e ∷ []) = record {
      legal = legal_more [] before.entries e whole.legal is;
      each = All-append IsEntry before.entries (e ∷ []) whole.each (All-cons IsEntry e [] keeps (All-nil IsEntry));
    } in
    subst (λ (h : History). IsWhole h.entries) (sym grows) one

pub command_whole : (before after : Standing) (command : PlainCommand) (answer : List ℕ) → IsWhole before.history.entries → Answer before command answer after → IsWhole after.history.entries
command_whole before after command answer whole answered = adds_whole before.history after.history whole (answer_adds before command answer after answered)

-- ---- runs
pub script_whole : (commands : List PlainCommand) (before after : Standing) (answers : List (List ℕ)) → IsWhole before.history.entries → AnswersEach before commands answers after
    → IsWhole after.history.entries
unfolding AnswersEach
script_whole [] before after answers whole given = subst (λ (s : Standing). IsWhole s.history.entries) (sym given.1) whole
script_whole (command ∷ commands) before after answers whole given =
    script_whole commands given.1 after given.2 (command_whole before given.1 command given.0 whole given.3) given.4

-- before a command of a run the warehouse is the one that the commands before it left
pub moment_whole : (commands : List PlainCommand) (before after : Standing) (answers : List (List ℕ)) (place : ℕ) (command : PlainCommand) (answer : List ℕ) → IsWhole before.history.entries
    → AnswersEach before commands answers after → slice_get commands place ≡ Some command → slice_get answers place ≡ Some answer
    → (middle : Standing) × (next : Standing) × AnswersEach before (take place commands) (take place answers) middle × Answer middle command answer next
    × IsWhole middle.history.entries × ReportsAddUp middle.history.entries
unfolding AnswersEach
moment_whole [] before after answers place command answer whole given asked answered = absurd (cc)
moment_whole (c ∷ commands) before after answers zero command answer whole given asked answered =
    let own : c ≡ command = cc in
    let there : slice_get (given.0 ∷ given.2) zero ≡ Some answer = subst (λ (l : List (List ℕ)). slice_get l zero ≡ Some answer) given.5 answered in
    let says : given.0 ≡ answer = cc in
    let mine : Answer before command answer given.1 =
    subst (λ (t : List ℕ). Answer before command t given.1) says (subst (λ (x : PlainCommand). Answer before x given.0 given.1) own given.3) in
    (before, given.1, (refl, refl), mine, whole, whole_adds_up before.history.entries whole)
moment_whole (c ∷ commands) before after answers (suc place) command answer whole given asked answered =
    let there : slice_get (given.0 ∷ given.2) (suc place) ≡ Some answer = subst (λ (l : List (List ℕ)). slice_get l (suc place) ≡ Some answer) given.5 answered in
    let later = moment_whole commands given.1 after given.2 place command answer (command_whole before given.1 c given.0 whole given.3) given.4 asked there in
    let more : take (suc place) answers ≡ given.0 ∷ take place given.2 = ap (λ (l : List (List ℕ)). take (suc place) l) given.5 in
    (later.0, later.1, (given.0, given.1, take place given.2, given.3, later.2, more), later.3, later.4, later.5)
