-- Heads: what is read is spelled so, and what is spelled so is read.
use Rattle.std.proofs.Common.{◌≡◌, ◌<◌, ◌≤◌, ◌^◌, ℕ, true, List, ◌++◌, length, refl, sym, subst, append_assoc, arith}
use Rattle.std.specs.Prelude.{nat_lt, nat_le, IsTrue}
use Rattle.std.specs.Int.{w32, w64, to_le_bytes}
use Rattle.std.specs.List.{flat_map, AllByRecursion}
use Rattle.std.proofs.lemmas.Bool.{and_parts, ltb-true, lt-ltb, leb-true, le-leb}
use Rattle.fw_bytes.specs.Spelling.{number32, number64, text, pair, FitsPair, Fits64}
use Rattle.fw_bytes.specs.Reading.{number_at, seen, times}
use Rattle.fw_bytes.proofs.Laws.{IsFormat, Takes, Takes-then, times_takes, times_again, bind_ok, checked_format, seen_format, both_format, number_format, wide32, wide64}
use Rattle.fw_entry.specs.Kinds.{kind_code}
use Rattle.fw_entry.specs.declared.kind.CommandKind.{CommandKind}
use Rattle.fw_entry.specs.declared.kind.CommandKind.TheVariants as kind
use Rattle.fw_entry_bytes.specs.declared.form.Form.{Form}
use Rattle.fw_entry_bytes.specs.Forms.{has_kind}
use Rattle.fw_entry_bytes.specs.Reading.{IsOrigin, IsSeq}
use Rattle.fw_entry_bytes.proofs.EntryFormat.{kind_byte_format}
use Rattle.fw_entry_bytes.proofs.Facts.{origin_format, seq_format, target_format}
use Rattle.fw_terms.specs.Commitment.{CommitmentValue}
use Rattle.fw_terms.specs.Policy.{PolicyValue}
use Rattle.fw_terms.specs.Added.{AddedValue}
use Rattle.fw_terms.specs.Spelling.{IsSpelledCommitment, IsSpelledPolicy, IsSpelledAdded}
use Rattle.fw_terms_bytes.proofs.AddedFormat.{added_format}
use Rattle.fw_terms_bytes.proofs.Formats.{case_format, kind_format}
use Rattle.fw_terms_bytes.proofs.CommitmentFormat.{commitment_format}
use Rattle.fw_terms_bytes.proofs.PolicyFormat.{policy_format}
use Rattle.fw_snapshot.specs.Heads.{ContentValue, HeadValue}
use Rattle.fw_snapshot.specs.Heads.ContentValue.{posted_rows, committed_to, policy_set, post_withdrawn, purchase_added}
use Rattle.fw_segment.specs.Heads.{kind_of, brought, content, head, heads, is_post_count, IsContent, IsHead, post_count_at, brought_at, content_at, head_from, head_fields_at, head_at, heads_at}
use Rattle.fw_charge.specs.Charge.{most_post_rows}

-- ---- what an entry brought

abbrev IsPostCount : ℕ → Type 0
IsPostCount n = (0 < n) × (n ≤ most_post_rows)

is_count : (n : ℕ) → is_post_count n ≡ true → IsPostCount n
is_count n e = let p = and_parts (nat_lt 0 n) (nat_le n most_post_rows) e in (ltb-true _ _ p.0, leb-true _ _ p.1)

count_is : (n : ℕ) → IsPostCount n → is_post_count n ≡ true
count_is n h = rw (lt-ltb 0 n h.0, le-leb n most_post_rows h.1) refl

count_format : IsFormat post_count_at number32 IsPostCount
unfolding post_count_at
count_format =
    let f = checked_format is_post_count (number_format w32 (2 ^ 32) wide32) in
    record {
      takes = λ bytes x is e. let t = f.takes bytes x is e in (t.0, is_count x.0 t.1.1);
      again = λ n rest h. f.again n rest (lt-ltb _ _ (omega (arith, h.1)), count_is n h);
    }

-- what an entry of a kind brought, within its limits
abbrev IsOfKind : CommandKind → ContentValue → Type 0
IsOfKind k c = (kind_of c ≡ k) × IsContent c

post_back : (c : ContentValue) → IsOfKind kind.Post c → (n : ℕ) × (posted_rows n ≡ c) × IsPostCount n
post_back (posted_rows n) h = (n, refl, h.1)
post_back (committed_to c) h = let e = h.0 in absurd cc
post_back (policy_set p) h = let e = h.0 in absurd cc
post_back (post_withdrawn n) h = let e = h.0 in absurd cc
post_back (purchase_added a) h = let e = h.0 in absurd cc

commit_back : (c : ContentValue) → IsOfKind kind.Commit c → (one : CommitmentValue) × (committed_to one ≡ c) × IsSpelledCommitment one
commit_back (posted_rows n) h = let e = h.0 in absurd cc
commit_back (committed_to c) h = (c, refl, h.1)
commit_back (policy_set p) h = let e = h.0 in absurd cc
commit_back (post_withdrawn n) h = let e = h.0 in absurd cc
commit_back (purchase_added a) h = let e = h.0 in absurd cc

set_policy_back : (c : ContentValue) → IsOfKind kind.SetPolicy c → (one : PolicyValue) × (policy_set one ≡ c) × IsSpelledPolicy one
set_policy_back (posted_rows n) h = let e = h.0 in absurd cc
set_policy_back (committed_to c) h = let e = h.0 in absurd cc
set_policy_back (policy_set p) h = (p, refl, h.1)
set_policy_back (post_withdrawn n) h = let e = h.0 in absurd cc
set_policy_back (purchase_added a) h = let e = h.0 in absurd cc

withdraw_back : (c : ContentValue) → IsOfKind kind.Withdraw c → (n : ℕ) × (post_withdrawn n ≡ c) × (n < 2 ^ 64)
withdraw_back (posted_rows n) h = let e = h.0 in absurd cc
withdraw_back (committed_to c) h = let e = h.0 in absurd cc
withdraw_back (policy_set p) h = let e = h.0 in absurd cc
withdraw_back (post_withdrawn n) h = (n, refl, h.1)
withdraw_back (purchase_added a) h = let e = h.0 in absurd cc

add_purchase_back : (c : ContentValue) → IsOfKind kind.AddPurchase c → (one : AddedValue) × (purchase_added one ≡ c) × IsSpelledAdded one
add_purchase_back (posted_rows n) h = let e = h.0 in absurd cc
add_purchase_back (committed_to c) h = let e = h.0 in absurd cc
add_purchase_back (policy_set p) h = let e = h.0 in absurd cc
add_purchase_back (post_withdrawn n) h = let e = h.0 in absurd cc
add_purchase_back (purchase_added a) h = (a, refl, h.1)

brought_format : (k : CommandKind) → IsFormat (brought_at k) brought (IsOfKind k)
unfolding brought_at brought
brought_format kind.Post = case_format (λ (n : ℕ). posted_rows n) brought (IsOfKind kind.Post) (λ n. refl) (λ n h. (refl, h)) post_back count_format
brought_format kind.Commit = case_format (λ (c : CommitmentValue). committed_to c) brought (IsOfKind kind.Commit) (λ c. refl) (λ c h. (refl, h)) commit_back commitment_format
brought_format kind.SetPolicy = case_format (λ (p : PolicyValue). policy_set p) brought (IsOfKind kind.SetPolicy) (λ p. refl) (λ p h. (refl, h)) set_policy_back policy_format
brought_format kind.Withdraw = case_format (λ (n : ℕ). post_withdrawn n) brought (IsOfKind kind.Withdraw) (λ n. refl) (λ n h. (refl, h)) withdraw_back target_format
brought_format kind.AddPurchase = case_format (λ (a : AddedValue). purchase_added a) brought (IsOfKind kind.AddPurchase) (λ a. refl) (λ a h. (refl, h)) add_purchase_back added_format

-- what an entry brought, within its limits, of a kind that the form has
abbrev FitsContent : Form → ContentValue → Type 0
FitsContent form c = IsTrue (has_kind form (kind_of c)) × IsContent c

content_format : (form : Form) → IsFormat (content_at form) content (FitsContent form)
unfolding content_at content
content_format form = kind_format kind_code kind_of (kind_byte_format form) brought_format

-- ---- a head

head_to : HeadValue → List ℕ × (ℕ × ContentValue)
head_to h = (h.origin, (h.seq, h.content))

fields_format : (form : Form) → IsFormat (head_fields_at form) (pair text (pair number64 content)) (FitsPair IsOrigin (FitsPair IsSeq (FitsContent form)))
unfolding head_fields_at
fields_format form = both_format origin_format (both_format seq_format (content_format form))

seen_head_format : (form : Form) → IsFormat (seen head_from (head_fields_at form)) (λ h. pair text (pair number64 content) (head_to h)) (λ h. FitsPair IsOrigin (FitsPair IsSeq (FitsContent form)) (head_to h))
unfolding head_to
seen_head_format form = seen_format head_from head_to (λ x h. refl) (λ y h. refl) (fields_format form)

-- a head within its limits, of a kind that the form has
abbrev pub FitsHead : Form → HeadValue → Type 0
FitsHead form h = IsHead h × IsTrue (has_kind form (kind_of h.content))

pub head_format : (form : Form) → IsFormat (head_at form) head (FitsHead form)
unfolding head_at head head_to
head_format form = record {
  takes = λ bytes x is e.
      let t = (seen_head_format form).takes bytes x is e in
      (t.0, (record { origin = t.1.0; seq = t.1.1.0; content = t.1.1.1.1 }, t.1.1.1.0));
  again = λ h rest is.
      (seen_head_format form).again h rest (is.0.origin, (is.0.seq, (is.1, is.0.content)));
}

-- ---- heads

abbrev pub AreHeads : Form → List HeadValue → Type 0
AreHeads form hs = Fits64 (length hs) × AllByRecursion (FitsHead form) hs

pub heads_format : (form : Form) → IsFormat (heads_at form) heads (AreHeads form)
unfolding heads_at heads
heads_format form = record {
  takes = λ bytes x is e.
      let b = bind_ok (number_at w64 bytes) (λ n. times (head_at form) n.0 n.1) x e in
      let t = (number_format w64 (2 ^ 64) wide64).takes bytes b.0 is b.1 in
      let u = times_takes (head_format form) b.0.0 b.0.1 x t.0.rest_fits b.2 in
      let both_taken = Takes-then bytes (to_le_bytes w64 b.0.0) b.0.1 (flat_map head x.0) x.1 t.0 u.0 in
      let whole : Takes bytes (to_le_bytes w64 (length x.0) ++ flat_map head x.0) x.1 = subst (λ (k : ℕ). Takes bytes (to_le_bytes w64 k ++ flat_map head x.0) x.1) (sym u.1) both_taken in
      (whole, (rw u.1 t.1, u.2));
  again = λ hs rest h.
      rw (append_assoc (to_le_bytes w64 (length hs)) (flat_map head hs) rest, (number_format w64 (2 ^ 64) wide64).again (length hs) (flat_map head hs ++ rest) h.0) (times_again (head_format form) hs rest h.1);
}
