-- What is sent where posts of an origin are replaced.
use Rattle.std.specs.Prelude.{◌≡◌, ℕ, List, map}
use Rattle.std.specs.List.{All}
use Rattle.fw_charge.specs.Charge.{Charge}
use Rattle.fw_entry.specs.Entry.{CommandValue, EntryValue}
use Rattle.fw_entry.specs.Entry.CommandValue.{post, withdraw}
use Rattle.fw_replace.specs.declared.posts.Post.{Post}

-- the entries are of this origin, and ask for these commands, in order
pub record Ask (origin : List ℕ) (entries : List EntryValue) (commands : List CommandValue) : Type 0 where
  pub sent : All (λ e. e.origin ≡ origin) entries
  pub commands_are : map (λ e. e.command) entries ≡ commands

-- the commands that withdraw posts
abbrev pub withdrawals : List Post → List CommandValue
withdrawals posts = map (λ p. withdraw p.number) posts

-- the commands that post the rows of parts
abbrev pub postings : List (List Charge) → List CommandValue
postings parts = map post parts
