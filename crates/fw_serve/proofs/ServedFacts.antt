-- Lemmas on the answers to a list of commands.
use Rattle.std.proofs.Common.{◌≡◌, ◌∙◌, ℕ, List, [], ◌∷◌, ◌++◌, sym, ap, refl, subst, append-nil, append_assoc, Option}
use Rattle.std.specs.Io.KnownBytes.{Appends, Keeps}
use Rattle.std.proofs.KnownBytes.{Appends-nil, Appends-trans, Appends-kept}
use Rattle.fw_script.specs.Commands.{CommandsOf, FirstCommand, StartsWithCommands}
use Rattle.fw_script.specs.Plain.{PlainCommand}
use Rattle.fw_serve.specs.Standings.{Standing}
use Rattle.fw_serve.specs.Answers.{Answer, Answers}
use Rattle.fw_serve.specs.Served.{ServesSoFar, Serves}

-- one more command was read
pub StartsWithCommands-more : (text : List ℕ) (commands : List PlainCommand) (left : List ℕ) (command : PlainCommand) (rest : List ℕ)
    → StartsWithCommands text commands left → FirstCommand left command rest → StartsWithCommands text (commands ++ command ∷ []) rest
unfolding StartsWithCommands
StartsWithCommands-more text [] left command rest reads first = (rest, subst (λ t. FirstCommand t command rest) reads first, refl)
StartsWithCommands-more text (c ∷ commands) left command rest reads first =
    (reads.0, reads.1, StartsWithCommands-more reads.0 commands left command rest reads.2 first)

-- where nothing is left these are the commands of the text
pub CommandsOf-whole : (text : List ℕ) (commands : List PlainCommand) (rest : List ℕ) → StartsWithCommands text commands rest → rest ≡ [] → CommandsOf text commands
unfolding StartsWithCommands CommandsOf
CommandsOf-whole text [] rest reads none = sym reads ∙ none
CommandsOf-whole text (c ∷ commands) rest reads none = (reads.0, reads.1, CommandsOf-whole reads.0 commands rest reads.2 none)

-- one more command was answered
pub Answers-more : (before : Standing) (commands : List PlainCommand) (answers : List ℕ) (middle : Standing) (command : PlainCommand) (text : List ℕ) (after : Standing)
    → Answers before commands answers middle → Answer middle command text after → Answers before (commands ++ command ∷ []) (answers ++ text) after
unfolding Answers
Answers-more before [] answers middle command text after done answer =
    (text, after, [], subst (λ h. Answer h command text after) done.1 answer, (refl, refl), ap (λ l. l ++ text) done.0 ∙ sym (append-nil text))
Answers-more before (c ∷ commands) answers middle command text after done answer = (
  done.0,
  done.1,
  done.2 ++ text,
  done.3,
  Answers-more done.1 commands done.2 middle command text after done.4 answer,
  ap (λ l. l ++ text) done.5 ∙ append_assoc done.0 done.2 text,
)

-- no command was read
pub ServesSoFar-none : (script left : List ℕ) (store : Standing) (held : Option (List ℕ)) → left ≡ script → ServesSoFar script left store store held held
unfolding StartsWithCommands Answers
ServesSoFar-none script left store held same = record { commands = []; reads = same; answers = []; answered = (refl, refl); writes = Appends-nil held }

-- one more command was done, and its answer written
pub ServesSoFar-more : (script left : List ℕ) (command : PlainCommand) (rest : List ℕ) (before middle after : Standing) (text : List ℕ) (a b c : Option (List ℕ))
    → ServesSoFar script left before middle a b → FirstCommand left command rest → Answer middle command text after → Appends b c text → ServesSoFar script rest before after a c
ServesSoFar-more script left command rest before middle after text a b c done first answer wrote = record {
  commands = done.commands ++ command ∷ [];
  reads = StartsWithCommands-more script done.commands left command rest done.reads first;
  answers = done.answers ++ text;
  answered = Answers-more before done.commands done.answers middle command text after done.answered answer;
  writes = Appends-trans a b c done.answers text done.writes wrote;
}

-- all commands are done, and the writer was flushed
pub Serves-whole : (script left : List ℕ) (before after : Standing) (a b c : Option (List ℕ)) → ServesSoFar script left before after a b → left ≡ [] → Keeps b c
    → Serves script before after a c
Serves-whole script left before after a b c done none kept = record {
  commands = done.commands;
  reads = CommandsOf-whole script done.commands left done.reads none;
  answers = done.answers;
  answered = done.answered;
  writes = Appends-kept a b c done.answers done.writes kept;
}
