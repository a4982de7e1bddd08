-- What is read of an entry is spelled so, and what is spelled so is read.
use Rattle.std.proofs.Common.{◌≡◌, ◌<◌, ◌^◌, ℕ, List, [], ◌∷◌, refl, arith}
use Rattle.std.specs.Prelude.{IsTrue}
use Rattle.std.proofs.lemmas.Bool.{leb-true, le-leb}
use Rattle.fw_bytes.specs.Spelling.{number64, text, listed, pair, FitsPair, FitsChecked, FitsList}
use Rattle.fw_bytes.specs.Reading.{checked, seen}
use Rattle.fw_bytes.proofs.Laws.{IsFormat, code_format, checked_format, seen_format, both_format, list_format, list_parts, list_fits}
use Rattle.fw_charge.specs.Charge.{Charge, most_post_rows}
use Rattle.fw_charge.specs.Spelling.{row, IsRow}
use Rattle.fw_row_bytes.proofs.RowFormat.{row_format}
use Rattle.fw_terms.specs.Commitment.{CommitmentValue}
use Rattle.fw_terms.specs.Policy.{PolicyValue}
use Rattle.fw_terms.specs.Added.{AddedValue}
use Rattle.fw_terms.specs.Spelling.{IsSpelledCommitment, IsSpelledPolicy, IsSpelledAdded}
use Rattle.fw_terms_bytes.proofs.Formats.{case_format, kind_format, told_format}
use Rattle.fw_terms_bytes.proofs.AddedFormat.{added_format}
use Rattle.fw_terms_bytes.proofs.CommitmentFormat.{commitment_format}
use Rattle.fw_terms_bytes.proofs.PolicyFormat.{policy_format}
use Rattle.fw_entry.specs.Entry.{CommandValue, EntryValue}
use Rattle.fw_entry.specs.Entry.CommandValue.{post, commit, set_policy, withdraw, add_purchase}
use Rattle.fw_entry.specs.Kinds.{kind_of, kind_code, kind_meant}
use Rattle.fw_entry.specs.declared.kind.CommandKind.{CommandKind}
use Rattle.fw_entry.specs.declared.kind.CommandKind.TheVariants as kind
use Rattle.fw_entry.proofs.KindFacts.{kind_back, kind_there}
use Rattle.fw_entry.specs.Spelling.{brought, command, entry, IsPost, IsCommand, IsEntry}
use Rattle.fw_entry_bytes.specs.declared.form.Form.{Form}
use Rattle.fw_entry_bytes.specs.Forms.{has_kind, has_entry}
use Rattle.fw_entry_bytes.specs.Reading.{IsOrigin, IsSeq, rows_at, kind_at, brought_at, command_at, Fields, fields_at, entry_from, is_small, entry_at}
use Rattle.fw_entry_bytes.proofs.Facts.{origin_format, seq_format, target_format}

-- ---- the rows of a post

is_post : (rows : List Charge) → FitsList 1 most_post_rows IsRow rows → IsPost rows
is_post rows h = let p = list_parts IsRow 1 most_post_rows rows h in record { count = record { some = p.0; few = p.1 }; each = p.2 }

post_fits : (rows : List Charge) → IsPost rows → FitsList 1 most_post_rows IsRow rows
post_fits rows h = list_fits IsRow 1 most_post_rows rows h.count.some h.count.few (omega arith) h.each

pub rows_format : IsFormat rows_at (listed row) IsPost
unfolding rows_at
rows_format = record {
  takes = λ bytes x is e. let t = (list_format 1 most_post_rows row_format).takes bytes x is e in (t.0, is_post x.0 t.1);
  again = λ rows rest h. (list_format 1 most_post_rows row_format).again rows rest (post_fits rows h);
}

-- ---- what an entry asks for

-- a command of a kind, within its limits
abbrev IsOfKind : CommandKind → CommandValue → Type 0
IsOfKind k c = (kind_of c ≡ k) × IsCommand c

post_back : (c : CommandValue) → IsOfKind kind.Post c → (rows : List Charge) × (post rows ≡ c) × IsPost rows
post_back (post rows) h = (rows, refl, h.1)
post_back (commit c) h = let e = h.0 in absurd cc
post_back (set_policy p) h = let e = h.0 in absurd cc
post_back (withdraw n) h = let e = h.0 in absurd cc
post_back (add_purchase a) h = let e = h.0 in absurd cc

commit_back : (c : CommandValue) → IsOfKind kind.Commit c → (one : CommitmentValue) × (commit one ≡ c) × IsSpelledCommitment one
commit_back (post rows) h = let e = h.0 in absurd cc
commit_back (commit c) h = (c, refl, h.1)
commit_back (set_policy p) h = let e = h.0 in absurd cc
commit_back (withdraw n) h = let e = h.0 in absurd cc
commit_back (add_purchase a) h = let e = h.0 in absurd cc

set_policy_back : (c : CommandValue) → IsOfKind kind.SetPolicy c → (one : PolicyValue) × (set_policy one ≡ c) × IsSpelledPolicy one
set_policy_back (post rows) h = let e = h.0 in absurd cc
set_policy_back (commit c) h = let e = h.0 in absurd cc
set_policy_back (set_policy p) h = (p, refl, h.1)
set_policy_back (withdraw n) h = let e = h.0 in absurd cc
set_policy_back (add_purchase a) h = let e = h.0 in absurd cc

withdraw_back : (c : CommandValue) → IsOfKind kind.Withdraw c → (n : ℕ) × (withdraw n ≡ c) × (n < 2 ^ 64)
withdraw_back (post rows) h = let e = h.0 in absurd cc
withdraw_back (commit c) h = let e = h.0 in absurd cc
withdraw_back (set_policy p) h = let e = h.0 in absurd cc
withdraw_back (withdraw n) h = (n, refl, h.1)
withdraw_back (add_purchase a) h = let e = h.0 in absurd cc

add_purchase_back : (c : CommandValue) → IsOfKind kind.AddPurchase c → (one : AddedValue) × (add_purchase one ≡ c) × IsSpelledAdded one
add_purchase_back (post rows) h = let e = h.0 in absurd cc
add_purchase_back (commit c) h = let e = h.0 in absurd cc
add_purchase_back (set_policy p) h = let e = h.0 in absurd cc
add_purchase_back (withdraw n) h = let e = h.0 in absurd cc
add_purchase_back (add_purchase a) h = (a, refl, h.1)

brought_format : (k : CommandKind) → IsFormat (brought_at k) brought (IsOfKind k)
unfolding brought_at brought
brought_format kind.Post = case_format (λ (rows : List Charge). post rows) brought (IsOfKind kind.Post) (λ rows. refl) (λ rows h. (refl, h)) post_back rows_format
brought_format kind.Commit = case_format (λ (c : CommitmentValue). commit c) brought (IsOfKind kind.Commit) (λ c. refl) (λ c h. (refl, h)) commit_back commitment_format
brought_format kind.SetPolicy = case_format (λ (p : PolicyValue). set_policy p) brought (IsOfKind kind.SetPolicy) (λ p. refl) (λ p h. (refl, h)) set_policy_back policy_format
brought_format kind.Withdraw = case_format (λ (n : ℕ). withdraw n) brought (IsOfKind kind.Withdraw) (λ n. refl) (λ n h. (refl, h)) withdraw_back target_format
brought_format kind.AddPurchase = case_format (λ (a : AddedValue). add_purchase a) brought (IsOfKind kind.AddPurchase) (λ a. refl) (λ a h. (refl, h)) add_purchase_back added_format

-- the byte of a kind that the form has
pub kind_byte_format : (form : Form) → IsFormat (kind_at form) (λ k. kind_code k ∷ []) (λ k. IsTrue (has_kind form k))
unfolding kind_at
kind_byte_format form = told_format (λ k h. h.1) (λ k h. (tt, h)) (checked_format (has_kind form) (code_format kind_meant kind_code kind_back kind_there))

-- a command within its limits, of a kind that the form has
abbrev pub FitsCommand : Form → CommandValue → Type 0
FitsCommand form c = IsTrue (has_kind form (kind_of c)) × IsCommand c

pub command_format : (form : Form) → IsFormat (command_at form) command (FitsCommand form)
unfolding command_at command
command_format form = kind_format kind_code kind_of (kind_byte_format form) brought_format

-- ---- an entry

entry_to : EntryValue → Fields
entry_to e = (e.origin, (e.seq, e.command))

abbrev pub FitFields : Form → Fields → Type 0
FitFields form = FitsPair IsOrigin (FitsPair IsSeq (FitsCommand form))

pub fields_format : (form : Form) → IsFormat (fields_at form) (pair text (pair number64 command)) (FitFields form)
unfolding fields_at
fields_format form = both_format origin_format (both_format seq_format (command_format form))

small_format : (form : Form) → IsFormat (checked is_small (seen entry_from (fields_at form))) (λ e. pair text (pair number64 command) (entry_to e)) (FitsChecked is_small (λ e. FitFields form (entry_to e)))
unfolding entry_to
small_format form = checked_format is_small (seen_format entry_from entry_to (λ x h. refl) (λ y h. refl) (fields_format form))

-- an entry within its limits, which the form has
abbrev pub FitsEntry : Form → EntryValue → Type 0
FitsEntry form e = IsEntry e × IsTrue (has_entry form e)

pub entry_format : (form : Form) → IsFormat (entry_at form) entry (FitsEntry form)
unfolding entry_at entry entry_to
entry_format form = record {
  takes = λ bytes x is e.
      let t = (small_format form).takes bytes x is e in
      (t.0, (record { origin = t.1.0.0; some_seq = t.1.0.1.0.0; seq = t.1.0.1.0.1; command = t.1.0.1.1.1; size = leb-true _ _ t.1.1 }, t.1.0.1.1.0));
  again = λ e rest h.
      (small_format form).again e rest ((h.0.origin, ((h.0.some_seq, h.0.seq), (h.1, h.0.command))), le-leb _ _ h.0.size);
}
