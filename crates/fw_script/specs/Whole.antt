-- Whole commands: they stay what they are, whatever follows them.
use Rattle.std.specs.Prelude.{◌≡◌, ◌≢◌, ◌⊎◌, ℕ, List, [], ◌∷◌, ◌++◌, map, All, Vec}
use Rattle.std.specs.declared.sync.Arc.{Arc}
use Rattle.std.specs.Global.{Global}
use Rattle.fw_script.specs.Commands.{FirstCommand}
use Rattle.fw_script.specs.Plain.{PlainCommand}

-- these are the commands of the text, and they come first in it whatever follows
unfoldable pub AreWholeCommands : List ℕ → List PlainCommand → Type 0
AreWholeCommands text [] = text ≡ []
AreWholeCommands text (command ∷ commands) =
    (rest : List ℕ) × ((more : List ℕ) → FirstCommand (text ++ more) command (rest ++ more)) × AreWholeCommands rest commands

-- the text is made of whole commands
abbrev pub IsWhole : List ℕ → Type 0
IsWhole text = (commands : List PlainCommand) × AreWholeCommands text commands

-- the text is made of one whole command or more
abbrev pub IsPiece : List ℕ → Type 0
IsPiece text = (text ≢ []) × IsWhole text

-- the bytes of each piece
abbrev pub texts_of : List (Arc (Vec ℕ Global) Global) → List (List ℕ)
texts_of pieces = map (λ piece. piece.value.items) pieces

-- where something comes behind what is being read, this is made of whole commands, and so is each piece
abbrev pub ComeInTurn : List ℕ → List (List ℕ) → List ℕ → Type 0
ComeInTurn text pieces last = (IsWhole text ⊎ ((pieces ≡ []) × (last ≡ []))) × All IsPiece pieces
