-- What adding a document does.
use Rattle.std.specs.Prelude.{◌≡◌, ◌+◌, ⊤, ℕ, Bool, true, false, List, [], ◌∷◌, Some}
use Rattle.std.specs.List.{Any, Contains}
use Rattle.fw_entry.specs.Entry.{CommandValue, EntryValue}
use Rattle.fw_entry.specs.Entry.CommandValue.{post, commit, set_policy, withdraw, add_purchase}
use Rattle.fw_recover.specs.Store.{StoreState}
use Rattle.fw_terms.specs.Added.{AddedValue}
use Rattle.fw_terms.specs.Commitment.{CommitmentValue}
use Rattle.fw_snapshot.specs.History.{History, committed_of, commitments_of, policy_of, entries_from}
use Rattle.fw_snapshot.specs.Verdicts.{with_more}
use Rattle.fw_adding.specs.declared.adding.Outcome.{Outcome}
use Rattle.fw_adding.specs.declared.adding.Outcome.TheVariants as outcome

-- a command as the entry of an origin and a number
abbrev pub entry_of : List ℕ → ℕ → CommandValue → EntryValue
entry_of origin number command = record { origin = origin; seq = number; command = command }

-- the number of the next entry of an origin
unfoldable pub next_number : List ℕ → List EntryValue → ℕ
next_number origin entries = entries_from origin entries + 1

-- a command as the next entry of an origin
abbrev pub next_entry : List ℕ → CommandValue → List EntryValue → EntryValue
next_entry origin command entries = entry_of origin (next_number origin entries) command

-- a commitment is the one that a purchase is added to, and has an equal one
abbrev pub IsPaid : AddedValue → CommitmentValue → Type 0
IsPaid a c = (c.id ≡ a.id) × Contains c.purchases a.purchase

-- one of the commitments is
abbrev pub HasPurchase : AddedValue → List CommitmentValue → Type 0
HasPurchase a commitments = Any (IsPaid a) commitments

-- what a command brings is there: an equal commitment, as it was committed to; an equal policy that holds; or of a purchase that is added an equal
-- one of its commitment, its own or one that was added
unfoldable pub IsThere : CommandValue → List EntryValue → Type 0
IsThere (post rows) entries = ⊥
IsThere (commit c) entries = Contains (committed_of entries) c
IsThere (set_policy p) entries = policy_of entries ≡ Some p
IsThere (withdraw n) entries = ⊥
IsThere (add_purchase a) entries = HasPurchase a (commitments_of entries)

-- a purchase that is added is new: its commitment has no equal one. Of other commands nothing is said
unfoldable pub IsNewPurchase : CommandValue → List EntryValue → Type 0
IsNewPurchase (post rows) entries = ⊤
IsNewPurchase (commit c) entries = ⊤
IsNewPurchase (set_policy p) entries = ⊤
IsNewPurchase (withdraw n) entries = ⊤
IsNewPurchase (add_purchase a) entries = ¬ HasPurchase a (commitments_of entries)

-- a command adds no purchase
unfoldable pub IsNoPurchase : CommandValue → Type 0
IsNoPurchase (post rows) = ⊤
IsNoPurchase (commit c) = ⊤
IsNoPurchase (set_policy p) = ⊤
IsNoPurchase (withdraw n) = ⊤
IsNoPurchase (add_purchase a) = ⊥

-- a purchase of which an equal one is there is added just where it is to be added again
abbrev pub Repeats : Bool → Outcome → CommandValue → List EntryValue → Type 0
Repeats again outcome.Added command entries = again ≡ false → IsNewPurchase command entries
Repeats again outcome.Same command entries = again ≡ true → IsNoPurchase command

-- a warehouse has the next entry of an origin more; or what is brought is there, and it stays
abbrev pub Follows : Outcome → List ℕ → CommandValue → History → History → Type 0
Follows outcome.Added origin command old new =
    new ≡ with_more old (next_entry origin command old.entries ∷ [])
Follows outcome.Same origin command old new = (new ≡ old) × IsThere command old.entries

abbrev pub Becomes : {V : Type 0}
    → Outcome → List ℕ → CommandValue → StoreState V → StoreState V → Type 0
Becomes outcome.Added origin command old new =
    Follows outcome.Added origin command old.history new.history
Becomes outcome.Same origin command old new = (new ≡ old) × IsThere command old.history.entries
