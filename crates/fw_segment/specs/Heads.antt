-- The heads of a state's entries: the entries without their rows.
use Rattle.std.specs.Prelude.{◌<◌, ◌≤◌, ◌^◌, ℕ, Bool, ◌&&◌, List, ◌∷◌, ◌++◌, length, nat_lt, nat_le}
use Rattle.std.specs.Int.{w32, w64}
use Rattle.std.specs.List.{flat_map}
use Rattle.fw_bytes.specs.Spelling.{number32, number64, text}
use Rattle.fw_bytes.specs.Reading.{Reading, ◌>>=◌, number_at, checked, both, seen, times}
use Rattle.fw_terms.specs.Spelling.{commitment, policy, added, IsSpelledCommitment, IsSpelledPolicy, IsSpelledAdded}
use Rattle.fw_terms_bytes.specs.Reading.{of_kind, commitment_at, policy_at, added_at}
use Rattle.fw_entry.specs.Kinds.{kind_code}
use Rattle.fw_entry.specs.declared.kind.CommandKind.{CommandKind}
use Rattle.fw_entry.specs.declared.kind.CommandKind.TheVariants as kind
use Rattle.fw_entry_bytes.specs.declared.form.Form.{Form}
use Rattle.fw_entry_bytes.specs.Reading.{origin_at, seq_at, kind_at, IsOrigin, IsSeq}
use Rattle.fw_snapshot.specs.Heads.{ContentValue, HeadValue}
use Rattle.fw_snapshot.specs.Heads.ContentValue.{posted_rows, committed_to, policy_set, post_withdrawn, purchase_added}
use Rattle.fw_charge.specs.Charge.{most_post_rows}

-- ---- how a head is written

-- the kind of the entry's command
abbrev pub kind_of : ContentValue → CommandKind
kind_of (posted_rows n) = kind.Post
kind_of (committed_to c) = kind.Commit
kind_of (policy_set p) = kind.SetPolicy
kind_of (post_withdrawn n) = kind.Withdraw
kind_of (purchase_added a) = kind.AddPurchase

-- the number of rows of a post, or what else the entry brought
unfoldable pub brought : ContentValue → List ℕ
brought (posted_rows n) = number32 n
brought (committed_to c) = commitment c
brought (policy_set p) = policy p
brought (post_withdrawn n) = number64 n
brought (purchase_added a) = added a

-- a byte for the kind, and what the entry brought
unfoldable pub content : ContentValue → List ℕ
content c = kind_code (kind_of c) ∷ brought c

unfoldable pub head : HeadValue → List ℕ
head h = text h.origin ++ (number64 h.seq ++ content h.content)

-- their number, in eight bytes, and each in turn
unfoldable pub heads : List HeadValue → List ℕ
heads hs = number64 (length hs) ++ flat_map head hs

-- ---- which heads there are

-- a post has 1 to 4,096 rows
abbrev pub is_post_count : ℕ → Bool
is_post_count n = nat_lt 0 n && nat_le n most_post_rows

abbrev pub IsContent : ContentValue → Type 0
IsContent (posted_rows n) = (0 < n) × (n ≤ most_post_rows)
IsContent (committed_to c) = IsSpelledCommitment c
IsContent (policy_set p) = IsSpelledPolicy p
IsContent (post_withdrawn n) = n < 2 ^ 64
IsContent (purchase_added a) = IsSpelledAdded a

pub record IsHead (h : HeadValue) : Type 0 where
  pub origin : IsOrigin h.origin
  pub seq : IsSeq h.seq
  pub content : IsContent h.content

-- ---- how a head is read

unfoldable pub post_count_at : Reading ℕ
post_count_at = checked is_post_count (number_at w32)

-- what an entry of a kind brought
unfoldable pub brought_at : CommandKind → Reading ContentValue
brought_at kind.Post = seen posted_rows post_count_at
brought_at kind.Commit = seen committed_to commitment_at
brought_at kind.SetPolicy = seen policy_set policy_at
brought_at kind.Withdraw = seen post_withdrawn (number_at w64)
brought_at kind.AddPurchase = seen purchase_added added_at

-- the kind, which the form has, and what an entry of this kind brought
unfoldable pub content_at : Form → Reading ContentValue
content_at form = of_kind (kind_at form) brought_at

abbrev pub head_from : List ℕ × (ℕ × ContentValue) → HeadValue
head_from f = record { origin = f.0; seq = f.1.0; content = f.1.1 }

unfoldable pub head_fields_at : Form → Reading (List ℕ × (ℕ × ContentValue))
head_fields_at form = both origin_at (both seq_at (content_at form))

unfoldable pub head_at : Form → Reading HeadValue
head_at form = seen head_from (head_fields_at form)

unfoldable pub heads_at : Form → Reading (List HeadValue)
heads_at form bytes = do
  n ← number_at w64 bytes
  times (head_at form) n.0 n.1
