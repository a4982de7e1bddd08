-- Texts of entries, one by one and one behind the other.
use Rattle.std.proofs.Common.{◌≡◌, ◌∙◌, ℕ, List, [], ◌∷◌, ◌++◌, Ok, None, map, refl, sym, ap, subst, append_assoc, append-nil}
use Rattle.std.specs.Prelude.{slice_get}
use Rattle.fw_entry.specs.Entry.{CommandValue, EntryValue}
use Rattle.fw_entry.specs.Spelling.{IsEntry}
use Rattle.fw_script.specs.Commands.{FirstCommand}
use Rattle.fw_script.specs.Plain.{PlainCommand, entry}
use Rattle.fw_script.specs.Words.{IsSequence}
use Rattle.fw_script.specs.declared.commands.EntryKind.{EntryKind}
use Rattle.fw_serve.specs.Answers.{parts_entry}
use Rattle.fw_serve.specs.Contents.{ContentReads}
use Rattle.fw_serve.specs.Runs.{Sends}
use Rattle.fw_serve.proofs.AnswerFacts.{made_is}
use Rattle.fw_dump.specs.Dumps.{IsDumpOf, IsTextOf}
use Rattle.fw_dump.proofs.Behind.{EndsLine, entry_behind}

-- a command whose parts read as an entry's sends it
pub sends_parts : (currency : List ℕ) (k : EntryKind) (origin sequence content : List ℕ) (number : ℕ) (command : CommandValue) (e : EntryValue) → IsEntry e → e ≡ parts_entry origin number command
    → IsSequence sequence number → ContentReads k currency content (Ok command) → Sends currency (entry k origin sequence content) e
sends_parts currency k origin sequence content number command e keeps is numbers reads = record {
  kind = k;
  sequence = sequence;
  content = content;
  is_entry = ap (λ (x : EntryValue). entry k x.origin sequence content) (sym is);
  reads = subst (λ (x : EntryValue). ContentReads k currency content (Ok x.command)) (sym is) reads;
  numbers = subst (λ (x : EntryValue). IsSequence sequence x.seq) (sym is) numbers;
  made = made_is e keeps;
}

-- a text that ends with a line feed and is one command, which sends the entry, is its text
pub text_alone : (currency text : List ℕ) (command : PlainCommand) (e : EntryValue) → EndsLine text → FirstCommand text command [] → Sends currency command e → IsTextOf currency text e
text_alone currency text command e ends first sends = record {
  command = entry sends.kind e.origin sends.sequence sends.content;
  first = λ rest. entry_behind text rest sends.kind e.origin sends.sequence sends.content (subst (λ (c : PlainCommand). FirstCommand text c []) sends.is_entry first) ends;
  sends = subst (λ (c : PlainCommand). Sends currency c e) sends.is_entry sends;
}

-- the text of one more entry goes behind a dump
pub dump_more : (currency : List ℕ) (entries : List EntryValue) (e : EntryValue) (text last : List ℕ) → IsDumpOf currency entries text → IsTextOf currency last e
    → IsDumpOf currency (entries ++ e ∷ []) (text ++ last)
unfolding IsDumpOf
dump_more currency [] e text last dumped one = (last, [], one, refl, ap (λ t. t ++ last) dumped ∙ sym (append-nil last))
dump_more currency (x ∷ entries) e text last dumped one =
    (dumped.0, dumped.1 ++ last, dumped.2, dump_more currency entries e dumped.1 last dumped.3 one, ap (λ t. t ++ last) dumped.4 ∙ append_assoc dumped.0 dumped.1 last)

-- the dump of no entry
pub dump_none : (currency : List ℕ) → IsDumpOf currency [] []
unfolding IsDumpOf
dump_none currency = refl

-- nothing is left where there is no first head
pub none_first : {A B : Type 0} (f : A → B) (entries : List A) → None ≡ slice_get (map f entries) 0 → entries ≡ []
none_first f [] none = refl
none_first f (e ∷ entries) none = absurd (cc)
