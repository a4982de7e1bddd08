-- Reading entries.
use Rattle.std.specs.Prelude.{◌<◌, ◌^◌, ℕ, Bool, List, length, nat_lt, nat_le, IsTrue}
use Rattle.std.specs.Int.{w64}
use Rattle.fw_bytes.specs.Reading.{Reading, number_at, text_at, code_at, checked, both, seen, list_at}
use Rattle.fw_charge.specs.Charge.{Charge, most_post_rows}
use Rattle.fw_row_bytes.specs.Reading.{row_at}
use Rattle.fw_terms_bytes.specs.Reading.{of_kind, commitment_at, policy_at, added_at}
use Rattle.fw_entry.specs.Entry.{CommandValue, EntryValue, is_origin}
use Rattle.fw_entry.specs.Entry.CommandValue.{post, commit, set_policy, withdraw, add_purchase}
use Rattle.fw_entry.specs.Kinds.{kind_meant}
use Rattle.fw_entry.specs.Spelling.{entry, most_entry_bytes}
use Rattle.fw_entry.specs.declared.kind.CommandKind.{CommandKind}
use Rattle.fw_entry.specs.declared.kind.CommandKind.TheVariants as kind
use Rattle.fw_entry_bytes.specs.declared.form.Form.{Form}
use Rattle.fw_entry_bytes.specs.Forms.{has_kind}

-- ---- who sent an entry, and its number

-- a name: 1 to 64 ASCII letters, digits, `-`, `_` and `.`
unfoldable pub origin_at : Reading (List ℕ)
origin_at = checked is_origin text_at

abbrev pub IsOrigin : List ℕ → Type 0
IsOrigin bytes = IsTrue (is_origin bytes)

-- numbers count from 1
abbrev pub is_seq : ℕ → Bool
is_seq n = nat_lt 0 n

unfoldable pub seq_at : Reading ℕ
seq_at = checked is_seq (number_at w64)

abbrev pub IsSeq : ℕ → Type 0
IsSeq n = (0 < n) × (n < 2 ^ 64)

-- ---- what an entry asks for

-- the byte of a kind that the form has; any other is a fault
unfoldable pub kind_at : Form → Reading CommandKind
kind_at form = checked (has_kind form) (code_at kind_meant)

-- the rows of a post: 1 to 4,096 of them
unfoldable pub rows_at : Reading (List Charge)
rows_at = list_at 1 most_post_rows row_at

-- what a command of a kind brings
unfoldable pub brought_at : CommandKind → Reading CommandValue
brought_at kind.Post = seen post rows_at
brought_at kind.Commit = seen commit commitment_at
brought_at kind.SetPolicy = seen set_policy policy_at
brought_at kind.Withdraw = seen withdraw (number_at w64)
brought_at kind.AddPurchase = seen add_purchase added_at

-- the kind, and what a command of this kind brings
unfoldable pub command_at : Form → Reading CommandValue
command_at form = of_kind (kind_at form) brought_at

-- ---- an entry

abbrev pub Fields : Type 0
Fields = List ℕ × (ℕ × CommandValue)

-- the fields, in order, each in its range
unfoldable pub fields_at : Form → Reading Fields
fields_at form = both origin_at (both seq_at (command_at form))

abbrev pub entry_from : Fields → EntryValue
entry_from f = record { origin = f.0; seq = f.1.0; command = f.1.1 }

-- it is written in at most 4,194,304 bytes
abbrev pub is_small : EntryValue → Bool
is_small e = nat_le (length (entry e)) most_entry_bytes

-- an entry; one that is too large is a fault at its first byte, after the faults of its fields
unfoldable pub entry_at : Form → Reading EntryValue
entry_at form = checked is_small (seen entry_from (fields_at form))
