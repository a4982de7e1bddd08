-- What serving a dump leaves.
use Rattle.std.proofs.Common.{◌≡◌, ◌⊎◌, ◌∙◌, ℕ, zero, suc, List, [], ◌∷◌, ◌++◌, Ok, Err, refl, sym, ap, subst, inl, inr, arith}
use Rattle.std.specs.Prelude.{Result}
use Rattle.std.specs.List.{AllZip}
use Rattle.std.proofs.lemmas.List.Elements.{All-head, All-tail}
use Rattle.fw_entry.specs.Entry.{CommandValue, EntryValue}
use Rattle.fw_entry.specs.declared.fault.EntryFault.{EntryFault}
use Rattle.fw_script.specs.Commands.{CommandsOf, FirstCommand}
use Rattle.fw_script.specs.Plain.{PlainCommand, entry}
use Rattle.fw_script.specs.Words.{IsSequence}
use Rattle.fw_script.specs.declared.commands.EntryKind.{EntryKind}
use Rattle.fw_script.proofs.CommandsLaws.{FirstCommand-one}
use Rattle.fw_snapshot.specs.Judging.{IsLegalAfter}
use Rattle.fw_snapshot.specs.Verdicts.{accepted_of, with_more}
use Rattle.fw_snapshot.proofs.VerdictFacts.{all_accepted}
use Rattle.fw_serve.specs.Answers.{SequenceReads, entry_made}
use Rattle.fw_serve.specs.Contents.{ContentReads}
use Rattle.fw_serve.specs.Replies.{no_memory_line}
use Rattle.fw_serve.specs.Runs.{AnswersEach, AreJudged, IsHindered, NoneHindered, Sends, SendsNone}
use Rattle.fw_serve.specs.Standings.{Standing}
use Rattle.fw_serve.proofs.OneAnswerFacts.{content_one, entry_one, number_one}
use Rattle.fw_serve.proofs.RunFacts.{told}
use Rattle.fw_dump.specs.Dumps.{IsDumpOf, IsTextOf}

-- ---- a dump holds one command for each entry
begins : (currency text first rest : List ℕ) (e : EntryValue) → (one : IsTextOf currency first e) → text ≡ first ++ rest → FirstCommand text one.command rest
begins currency text first rest e one is = subst (λ t. FirstCommand t one.command rest) (sym is) (one.first rest)

pub commands_sent : (currency text : List ℕ) (entries : List EntryValue) (commands : List PlainCommand) → IsDumpOf currency entries text → CommandsOf text commands → AllZip (Sends currency) commands entries
unfolding IsDumpOf CommandsOf
commands_sent currency text [] [] dumped read = tt
commands_sent currency text [] (c ∷ commands) dumped read = absurd (read.1.begins.some dumped)
commands_sent currency text (e ∷ entries) [] dumped read =
    let first = begins currency text dumped.0 dumped.1 e dumped.2 dumped.4 in
    absurd (first.begins.some read)
commands_sent currency text (e ∷ entries) (c ∷ commands) dumped read =
    let first = begins currency text dumped.0 dumped.1 e dumped.2 dumped.4 in
    let same = FirstCommand-one text c dumped.2.command read.0 dumped.1 read.1 first in (
      subst (λ (k : PlainCommand). Sends currency k e) (sym same.0) dumped.2.sends,
      commands_sent currency dumped.1 entries commands dumped.3 (subst (λ t. CommandsOf t commands) same.1 read.2),
    )

-- ---- a command that sends an entry is judged, unless it is hindered
sequence_reads : (word : List ℕ) (n : ℕ) → IsSequence word n → SequenceReads word n
sequence_reads word zero h = absurd (omega (arith, h.positive))
sequence_reads word (suc n) h = h

fault_hindered : (answer : List ℕ) (command : CommandValue) (r s : Result CommandValue (List ℕ)) → r ≡ Err answer → s ≡ Ok command → (r ≡ s) ⊎ ((r ≡ Err no_memory_line) ⊎ (s ≡ Err no_memory_line)) → IsHindered answer
fault_hindered answer command r s is_r is_s (inl same) = absurd (cc)
fault_hindered answer command r s is_r is_s (inr (inl out)) = let is : answer ≡ no_memory_line = cc in inl is
fault_hindered answer command r s is_r is_s (inr (inr out)) = absurd (cc)

not_refused : (e : EntryValue) (number : ℕ) (command : CommandValue) (why : EntryFault) (r s : Result CommandValue (List ℕ)) → r ≡ Ok command → s ≡ Ok e.command → number ≡ e.seq
    → entry_made e.origin number command ≡ Err why → entry_made e.origin e.seq e.command ≡ Ok e → (r ≡ s) ⊎ ((r ≡ Err no_memory_line) ⊎ (s ≡ Err no_memory_line)) → ⊥
not_refused e number command why r s is_r is_s same refused made (inl one) =
    let value : command ≡ e.command = cc in
    let both : entry_made e.origin number command ≡ entry_made e.origin e.seq e.command = ap (λ n. entry_made e.origin n command) same ∙ ap (entry_made e.origin e.seq) value in
    let wrong : Err why ≡ Ok e = sym refused ∙ both ∙ made in
    absurd (cc)
not_refused e number command why r s is_r is_s same refused made (inr (inl out)) = absurd (cc)
not_refused e number command why r s is_r is_s same refused made (inr (inr out)) = absurd (cc)

entry_hindered : (currency : List ℕ) (k : EntryKind) (sequence content answer : List ℕ) (e : EntryValue) → ContentReads k currency content (Ok e.command) → IsSequence sequence e.seq
    → entry_made e.origin e.seq e.command ≡ Ok e → SendsNone currency (entry k e.origin sequence content) answer → IsHindered answer
unfolding SendsNone
entry_hindered currency k sequence content answer e reads numbers made (inl fault) =
    fault_hindered answer e.command (Err answer) (Ok e.command) refl refl (content_one k currency content (Err answer) (Ok e.command) fault reads)
entry_hindered currency k sequence content answer e reads numbers made (inr (number, command, why, reading, read, refused, says)) =
    let same = number_one sequence number e.seq reading (sequence_reads sequence e.seq numbers) in
    absurd (not_refused e number command why (Ok command) (Ok e.command) refl refl same refused made (content_one k currency content (Ok command) (Ok e.command) read reads))

none_hindered : (currency : List ℕ) (c : PlainCommand) (answer : List ℕ) (e : EntryValue) → Sends currency c e → SendsNone currency c answer → IsHindered answer
none_hindered currency c answer e sends none =
    entry_hindered currency sends.kind sends.sequence sends.content answer e sends.reads sends.numbers sends.made (subst (λ (x : PlainCommand). SendsNone currency x answer) sends.is_entry none)

one_judged : (currency : List ℕ) (c : PlainCommand) (commands : List PlainCommand) (answer : List ℕ) (more replies : List (List ℕ)) (found : List EntryValue) (e : EntryValue) (entries : List EntryValue)
    → Sends currency c e → ((others : List EntryValue) (rest : List (List ℕ)) → AreJudged currency commands more others rest → others ≡ entries) → ¬ IsHindered answer
    → ((SendsNone currency c answer ⊎ IsHindered answer) × AreJudged currency commands more found replies)
    ⊎ ((d : EntryValue) × (others : List EntryValue) × (rest : List (List ℕ)) × Sends currency c d × (found ≡ d ∷ others) × (replies ≡ answer ∷ rest) × AreJudged currency commands more others rest)
    → found ≡ e ∷ entries
one_judged currency c commands answer more replies found e entries sends later fine (inl (inl none, rest)) = absurd (fine (none_hindered currency c answer e sends none))
one_judged currency c commands answer more replies found e entries sends later fine (inl (inr out, rest)) = absurd (fine out)
one_judged currency c commands answer more replies found e entries sends later fine (inr (d, others, rest, sent, is, says, judged)) =
    is ∙ ap (λ (x : EntryValue). x ∷ others) (entry_one currency c d e sent sends) ∙ ap (λ (l : List EntryValue). e ∷ l) (later others rest judged)

all_judged : (currency : List ℕ) (commands : List PlainCommand) (answers : List (List ℕ)) (found entries : List EntryValue) (replies : List (List ℕ)) → AllZip (Sends currency) commands entries
    → NoneHindered answers → AreJudged currency commands answers found replies → found ≡ entries
unfolding AreJudged
all_judged currency [] answers found [] replies sent fine judged = judged.1
all_judged currency [] answers found (e ∷ entries) replies sent fine judged = absurd sent
all_judged currency (c ∷ commands) answers found [] replies sent fine judged = absurd sent
all_judged currency (c ∷ commands) answers found (e ∷ entries) replies sent fine judged =
    let well : NoneHindered (judged.0 ∷ judged.1) = subst NoneHindered judged.2 fine in
    one_judged currency c commands judged.0 judged.1 replies found e entries sent.0
    (λ others rest given. all_judged currency commands judged.1 others entries rest sent.1 (All-tail (λ t. ¬ IsHindered t) judged.0 judged.1 well) given)
    (All-head (λ t. ¬ IsHindered t) judged.0 judged.1 well) judged.3

-- ---- a warehouse that a dump is served by
pub dump_served : (text : List ℕ) (entries : List EntryValue) (before after : Standing) (commands : List PlainCommand) (answers : List (List ℕ)) → IsDumpOf before.history.currency entries text
    → IsLegalAfter before.history.entries entries → CommandsOf text commands → AnswersEach before commands answers after → NoneHindered answers → after.history ≡ with_more before.history entries
dump_served text entries before after commands answers dumped legal read answered fine =
    let held = before.history in
    let found = told before commands answers after answered in
    let sent = commands_sent held.currency text entries commands dumped read in
    let same = all_judged held.currency commands answers found.entries entries _ sent fine found.are_judged in
    found.holds ∙ ap (λ (l : List EntryValue). with_more held (accepted_of held.entries l)) same ∙ ap (with_more held) (all_accepted held.entries entries legal)
