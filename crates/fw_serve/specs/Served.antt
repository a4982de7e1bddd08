-- What serving a script does.
use Rattle.std.specs.Prelude.{◌≡◌, ℕ, List, Option, IfSome, ◌≤◌, ◌^◌, length, ◌⊎◌}
use Rattle.std.specs.Io.KnownBytes.{Appends, Keeps}
use Rattle.fw_script.specs.Commands.{CommandsOf, FirstCommand, StartsWithCommands}
use Rattle.fw_script.specs.Plain.{PlainCommand}
use Rattle.fw_serve.specs.Answers.{Answer, Answers}
use Rattle.fw_serve.specs.Standings.{Standing}
use Rattle.fw_serve.specs.Writing.{WritesPart}

-- each command of the script is run, and the writer, where its bytes are known, got their answers and nothing else
pub record Serves (script : List ℕ) (before after : Standing) (held holds : Option (List ℕ)) : Type 0 where
  pub commands : List PlainCommand
  pub reads : CommandsOf script commands
  pub answers : List ℕ
  pub answered : Answers before commands answers after
  pub writes : Appends held holds answers

-- the commands that come first in the script are run, `left` is what follows them, and the writer got their answers
pub record ServesSoFar (script left : List ℕ) (before after : Standing) (held holds : Option (List ℕ)) : Type 0 where
  pub commands : List PlainCommand
  pub reads : StartsWithCommands script commands left
  pub answers : List ℕ
  pub answered : Answers before commands answers after
  pub writes : Appends held holds answers

-- the first command of what is left is run, and the writer got its answer up to some place
pub record AnswersPart (left : List ℕ) (before after : Standing) (held holds : Option (List ℕ)) : Type 0 where
  pub command : PlainCommand
  pub rest : List ℕ
  pub reads : FirstCommand left command rest
  pub answer : List ℕ
  pub answered : Answer before command answer after
  pub writes : WritesPart held holds answer

-- the commands that come first in the script are run, and no others: those whose answers the writer got whole, and at most one
-- more, whose answer it got up to some place. Nothing else was written
pub record ServesInPart (script : List ℕ) (before after : Standing) (held holds : Option (List ℕ)) : Type 0 where
  pub left : List ℕ
  pub between : Standing
  pub holds_between : Option (List ℕ)
  pub whole : ServesSoFar script left before between held holds_between
  pub last : ((after ≡ between) × Keeps holds_between holds) ⊎ AnswersPart left between after holds_between holds

-- the most bytes of a script
abbrev pub most_bytes : ℕ
most_bytes = 2 ^ 30

-- the most workers
abbrev pub most_workers : ℕ
most_workers = 64

-- the script is all the bytes that the reader had, where these are known, and isn't too long
abbrev pub IsScriptOf : Option (List ℕ) → List ℕ → Type 0
IsScriptOf bytes script = IfSome bytes (λ known. script ≡ known) × (length script ≤ most_bytes)

-- the reader's script is served
pub record IsServed (bytes : Option (List ℕ)) (before after : Standing) (held holds : Option (List ℕ)) : Type 0 where
  pub script : List ℕ
  pub given : IsScriptOf bytes script
  pub serves : Serves script before after held holds

-- the reader's script is served in part
pub record IsServedInPart (bytes : Option (List ℕ)) (before after : Standing) (held holds : Option (List ℕ)) : Type 0 where
  pub script : List ℕ
  pub given : IsScriptOf bytes script
  pub serves : ServesInPart script before after held holds
