-- The entries of a list that count, under new numbers.
use Rattle.std.specs.Prelude.{◌≡◌, ◌+◌, ◌≤◌, ℕ, Bool, false, true, List, [], ◌∷◌, filter, if◌then◌else◌}
use Rattle.std.specs.List.{Contains}
use Rattle.std.specs.Str.{bytes_eq}
use Rattle.fw_entry.specs.Entry.{CommandValue, EntryValue}
use Rattle.fw_entry.specs.Entry.CommandValue.{post, commit, set_policy, withdraw, add_purchase}
use Rattle.fw_snapshot.specs.Posts.{stays}

-- whether what a command brings counts: rows do where the post stays, and what a withdrawal brings doesn't
abbrev pub counts_by : Bool → CommandValue → Bool
counts_by stay (post rows) = stay
counts_by stay (commit c) = true
counts_by stay (set_policy p) = true
counts_by stay (withdraw n) = false
counts_by stay (add_purchase a) = true

-- whether an entry of these counts: each does but a withdrawal, and a post that one of them withdraws
abbrev pub does_count : List EntryValue → EntryValue → Bool
does_count entries e = counts_by (stays entries e) e.command

-- those of some entries that count, in order, where the first list has all entries
abbrev pub counting_of : List EntryValue → List EntryValue → List EntryValue
counting_of entries some = filter (does_count entries) some

-- the entries of a list that count, in order
abbrev pub kept : List EntryValue → List EntryValue
kept entries = counting_of entries entries

-- the same entry under another number
abbrev pub with_number : ℕ → EntryValue → EntryValue
with_number n e = record e { seq = n }

-- how many entries of each origin there are with one more of this origin
abbrev pub one_more_of : List ℕ → (List ℕ → ℕ) → List ℕ → ℕ
one_more_of origin before other = before other + (if bytes_eq other origin then 1 else 0)

-- entries under new numbers: each has one more than there are entries of its origin before it, where so many of each origin come before
-- them all
unfoldable pub numbered : (List ℕ → ℕ) → List EntryValue → List EntryValue
numbered before [] = []
numbered before (e ∷ es) = with_number (before e.origin + 1) e ∷ numbered (one_more_of e.origin before) es

-- the entries of a list that count, in order, where those of each origin have the numbers 1, 2, 3 ..
unfoldable pub compacted : List EntryValue → List EntryValue
compacted entries = numbered (λ origin. 0) (kept entries)

-- an entry of these, under a number that is no greater
pub record IsOneOf (entries : List EntryValue) (e : EntryValue) : Type 0 where
  pub old : EntryValue
  pub there : Contains entries old
  pub is : e ≡ with_number e.seq old
  pub no_greater : e.seq ≤ old.seq
