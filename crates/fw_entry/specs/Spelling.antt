-- The bytes that an entry is written as, and the entries that there are.
use Rattle.std.specs.Prelude.{◌≡◌, ◌<◌, ◌≤◌, ◌^◌, ⊤, ℕ, List, ◌∷◌, ◌++◌, length, All, IsTrue}
use Rattle.fw_bytes.specs.Spelling.{number64, text, listed}
use Rattle.fw_charge.specs.Charge.{Charge, most_post_rows}
use Rattle.fw_charge.specs.Spelling.{row, IsRow}
use Rattle.fw_terms.specs.Spelling.{commitment, policy, added, IsSpelledCommitment, IsSpelledPolicy, IsSpelledAdded}
use Rattle.fw_entry.specs.Entry.{CommandValue, EntryValue, is_origin}
use Rattle.fw_entry.specs.Entry.CommandValue.{post, commit, set_policy, withdraw, add_purchase}
use Rattle.fw_entry.specs.Kinds.{kind_of, kind_code}

-- what a command brings
unfoldable pub brought : CommandValue → List ℕ
brought (post rows) = listed row rows
brought (commit c) = commitment c
brought (set_policy p) = policy p
brought (withdraw n) = number64 n
brought (add_purchase a) = added a

-- a command: one byte for its kind, and what it brings
unfoldable pub command : CommandValue → List ℕ
command c = kind_code (kind_of c) ∷ brought c

-- an entry: its origin, its number, and its command
unfoldable pub entry : EntryValue → List ℕ
entry e = text e.origin ++ (number64 e.seq ++ command e.command)

abbrev pub most_entry_bytes : ℕ
most_entry_bytes = 4194304

-- as many rows as a post may have: 1 to 4,096
pub record IsRowCount (rows : List Charge) : Type 0 where
  pub some : 0 < length rows
  pub few : length rows ≤ most_post_rows

abbrev pub HasRowCount : CommandValue → Type 0
HasRowCount (post rows) = IsRowCount rows
HasRowCount (commit c) = ⊤
HasRowCount (set_policy p) = ⊤
HasRowCount (withdraw n) = ⊤
HasRowCount (add_purchase a) = ⊤

-- 1 to 4,096 rows, each of which has a spelling
pub record IsPost (rows : List Charge) : Type 0 where
  pub count : IsRowCount rows
  pub each : All IsRow rows

abbrev pub IsCommand : CommandValue → Type 0
IsCommand (post rows) = IsPost rows
IsCommand (commit c) = IsSpelledCommitment c
IsCommand (set_policy p) = IsSpelledPolicy p
IsCommand (withdraw n) = n < 2 ^ 64
IsCommand (add_purchase a) = IsSpelledAdded a

-- what each entry keeps: its origin is a name, its number is from 1 on, its command keeps the limits, and all of it is written in at most
-- 4,194,304 bytes
pub record IsEntry (e : EntryValue) : Type 0 where
  pub origin : IsTrue (is_origin e.origin)
  pub some_seq : 0 < e.seq
  pub seq : e.seq < 2 ^ 64
  pub command : IsCommand e.command
  pub size : length (entry e) ≤ most_entry_bytes
