-- Entries without their rows, which stand together in one list.
use Rattle.std.specs.Prelude.{◌<◌, ◌≤◌, ⊤, ℕ, List, [], ◌∷◌, length, take, drop, sum_by}
use Rattle.fw_charge.specs.Charge.{Charge, most_post_rows}
use Rattle.fw_terms.specs.Commitment.{CommitmentValue}
use Rattle.fw_terms.specs.Policy.{PolicyValue}
use Rattle.fw_terms.specs.Added.{AddedValue}
use Rattle.fw_entry.specs.Entry.{CommandValue, EntryValue}
use Rattle.fw_entry.specs.Entry.CommandValue.{post, commit, set_policy, withdraw, add_purchase}

-- what a command brings, of a post the number of its rows alone
pub data ContentValue : Type 0 where
  posted_rows : ℕ → ContentValue
  committed_to : CommitmentValue → ContentValue
  policy_set : PolicyValue → ContentValue
  post_withdrawn : ℕ → ContentValue
  purchase_added : AddedValue → ContentValue

-- an entry without its rows
pub record HeadValue : Type 0 where
  pub origin : List ℕ
  pub seq : ℕ
  pub content : ContentValue

abbrev pub content_of : CommandValue → ContentValue
content_of (post rows) = posted_rows (length rows)
content_of (commit c) = committed_to c
content_of (set_policy p) = policy_set p
content_of (withdraw n) = post_withdrawn n
content_of (add_purchase a) = purchase_added a

-- the head of an entry
abbrev pub head_of : EntryValue → HeadValue
head_of e = record { origin = e.origin; seq = e.seq; content = content_of e.command }

-- how many rows a head stands for
abbrev pub row_count : ContentValue → ℕ
row_count (posted_rows n) = n
row_count (committed_to c) = 0
row_count (policy_set p) = 0
row_count (post_withdrawn n) = 0
row_count (purchase_added a) = 0

unfoldable pub row_counts : List HeadValue → ℕ
row_counts heads = sum_by (λ h. row_count h.content) heads

-- the command of a head, with these rows if it is a post
abbrev pub command_of : ContentValue → List Charge → CommandValue
command_of (posted_rows n) rows = post rows
command_of (committed_to c) rows = commit c
command_of (policy_set p) rows = set_policy p
command_of (post_withdrawn n) rows = withdraw n
command_of (purchase_added a) rows = add_purchase a

abbrev pub entry_of : HeadValue → List Charge → EntryValue
entry_of h rows = record { origin = h.origin; seq = h.seq; command = command_of h.content rows }

-- the entries of heads, whose rows stand in one list: each post's head takes as many as it says from the front of what the heads before it left
unfoldable pub entries_of : List HeadValue → List Charge → List EntryValue
entries_of [] rows = []
entries_of (h ∷ heads) rows = entry_of h (take (row_count h.content) rows) ∷ entries_of heads (drop (row_count h.content) rows)

-- as many rows as a post may have, where it is one: 1 to 4,096
abbrev pub HasRows : ContentValue → Type 0
HasRows (posted_rows n) = (0 < n) × (n ≤ most_post_rows)
HasRows (committed_to c) = ⊤
HasRows (policy_set p) = ⊤
HasRows (post_withdrawn n) = ⊤
HasRows (purchase_added a) = ⊤
