-- The texts of entries, and dumps.
use Rattle.std.specs.Prelude.{◌≡◌, ℕ, List, [], ◌∷◌, ◌++◌}
use Rattle.fw_entry.specs.Entry.{EntryValue}
use Rattle.fw_script.specs.Commands.{FirstCommand}
use Rattle.fw_script.specs.Plain.{PlainCommand}
use Rattle.fw_serve.specs.Runs.{Sends}

-- The text is a command that sends this entry to a warehouse of this currency: whatever follows the text, its first command is this one, and what
-- follows is left.
pub record IsTextOf (currency text : List ℕ) (e : EntryValue) : Type 0 where
  pub command : PlainCommand
  pub first : (rest : List ℕ) → FirstCommand (text ++ rest) command rest
  pub sends : Sends currency command e

-- a dump of entries: the text of each, in their order, and nothing else
unfoldable pub IsDumpOf : List ℕ → List EntryValue → List ℕ → Type 0
IsDumpOf currency [] text = text ≡ []
IsDumpOf currency (e ∷ entries) text =
    (first : List ℕ)
    × (rest : List ℕ)
    × IsTextOf currency first e
    × IsDumpOf currency entries rest
    × (text ≡ first ++ rest)
