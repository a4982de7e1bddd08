-- What the entries that were accepted come to.
use Rattle.std.specs.Prelude.{ℕ, Bool, false, ◌&&◌, ◌==◌, List, [], ◌∷◌, ◌++◌, Option, Some, None, length, map, filter, if◌then◌else◌}
use Rattle.std.specs.List.{fold, flat_map, list_any}
use Rattle.std.specs.Str.{bytes_eq}
use Rattle.fw_charge.specs.Charge.{Charge}
use Rattle.fw_terms.specs.Commitment.{PurchaseValue, CommitmentValue}
use Rattle.fw_terms.specs.Policy.{PolicyValue}
use Rattle.fw_entry.specs.Entry.{CommandValue, EntryValue}
use Rattle.fw_entry.specs.Entry.CommandValue.{post, commit, set_policy, withdraw, add_purchase}

-- the currency of a warehouse, and the entries that it accepted, in order
pub record History : Type 0 where
  pub currency : List ℕ
  pub entries : List EntryValue

-- what a single command brings
abbrev pub posted : CommandValue → List Charge
posted (post rows) = rows
posted (commit c) = []
posted (set_policy p) = []
posted (withdraw n) = []
posted (add_purchase a) = []

abbrev pub committed : CommandValue → List CommitmentValue
committed (post rows) = []
committed (commit c) = c ∷ []
committed (set_policy p) = []
committed (withdraw n) = []
committed (add_purchase a) = []

-- what a command adds to the purchases of the commitment with this id
abbrev pub added : List ℕ → CommandValue → List PurchaseValue
added id (post rows) = []
added id (commit c) = []
added id (set_policy p) = []
added id (withdraw n) = []
added id (add_purchase a) = if bytes_eq a.id id then a.purchase ∷ [] else []

abbrev pub policy_after : Option PolicyValue → CommandValue → Option PolicyValue
policy_after before (post rows) = before
policy_after before (commit c) = before
policy_after before (set_policy p) = Some p
policy_after before (withdraw n) = before
policy_after before (add_purchase a) = before

-- the rows that were ever posted, in order: what the segments of a state hold, and what its limit of rows counts
unfoldable pub rows_posted : List EntryValue → List Charge
rows_posted entries = flat_map (λ e. posted e.command) entries

-- whether a command withdraws the post of this number of its sender
abbrev pub withdraws : ℕ → CommandValue → Bool
withdraws seq (post rows) = false
withdraws seq (commit c) = false
withdraws seq (set_policy p) = false
withdraws seq (withdraw n) = n == seq
withdraws seq (add_purchase a) = false

-- whether one of these entries withdraws the post of this sender and number: each sender withdraws its own posts alone
unfoldable pub is_withdrawn : List EntryValue → List ℕ → ℕ → Bool
is_withdrawn entries origin seq = list_any (λ w. bytes_eq origin w.origin && withdraws seq w.command) entries

-- the rows of an entry that count where these are all entries: those that it posts, unless one of them withdraws it
abbrev pub counting : List EntryValue → EntryValue → List Charge
counting entries e = if is_withdrawn entries e.origin e.seq then [] else posted e.command

-- the rows that count, in order: what reports sum, and whose ids are in use
unfoldable pub rows_of : List EntryValue → List Charge
rows_of entries = flat_map (counting entries) entries

-- what was committed to, in order, each with its own purchases alone
unfoldable pub committed_of : List EntryValue → List CommitmentValue
committed_of entries = flat_map (λ e. committed e.command) entries

-- the purchases that were added to the commitment with this id, in order, whoever sent them
unfoldable pub purchases_added : List ℕ → List EntryValue → List PurchaseValue
purchases_added id entries = flat_map (λ e. added id e.command) entries

-- a commitment with all its purchases: its own, and behind them those that were added to it
abbrev pub with_added : List EntryValue → CommitmentValue → CommitmentValue
with_added entries c = record c { purchases = c.purchases ++ purchases_added c.id entries }

-- the commitments that count: those that were committed to, in order, each with all its purchases
unfoldable pub commitments_of : List EntryValue → List CommitmentValue
commitments_of entries = map (with_added entries) (committed_of entries)

-- the policy that holds: the one that was set last
unfoldable pub policy_of : List EntryValue → Option PolicyValue
policy_of entries = fold (λ before e. policy_after before e.command) None entries

-- how many entries came from an origin
unfoldable pub entries_from : List ℕ → List EntryValue → ℕ
entries_from origin entries = length (filter (λ e. bytes_eq origin e.origin) entries)
