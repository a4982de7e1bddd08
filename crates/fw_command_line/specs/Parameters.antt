-- What a command takes, and the argument of clap that stands for it.
use Rattle.std.specs.Prelude.{◌≡◌, ℕ, Bool, true, List, Option, None, Some, if◌then◌else◌}
use Rattle.std.specs.Borrow.{Bor}
use Rattle.clap.specs.declared.builder.arg.Arg.{Arg}
use Rattle.clap.specs.declared.builder.texts.Texts.{Texts}
use Rattle.clap.specs.declared.builder.texts.Texts.TheVariants as texts
use Rattle.fw_command_line.specs.declared.parameter.Parameter.{Parameter}
use Rattle.fw_command_line.specs.declared.parameter.Takes.{Takes}
use Rattle.fw_command_line.specs.declared.parameter.Takes.TheVariants.{Many, Named, Nothing, One}

-- the name of an option
abbrev pub name_of : Bool → Bor (List ℕ) → Option (Bor (List ℕ)) → Option (Bor (List ℕ))
name_of is_option name before = if is_option then Some name else before

-- what help calls the values
abbrev pub names_of : Takes → Texts → Texts
names_of Nothing before = before
names_of (One name) before = texts.One name
names_of (Many name) before = texts.One name
names_of (Named names) before = texts.Many names

-- the value where none is given
abbrev pub defaults_of : Option (Bor (List ℕ)) → Texts → Texts
defaults_of None before = before
defaults_of (Some value) before = texts.One value

-- an argument is what a parameter says
pub record IsArgument (p : Parameter) (a : Arg) : Type 0 where
  pub id : a.id ≡ p.id
  pub name : p.is_option ≡ true → a.long ≡ Some p.id
  pub action : a.action ≡ Some p.action
  pub needed : a.required ≡ p.is_needed
  pub help : a.help ≡ Some p.help
  pub apart : a.conflicts.items ≡ p.apart.now
