-- The state that follows another by one entry.
use Rattle.std.proofs.Common.{◌≡◌, ◌+◌, ◌≤◌, ℕ, List, [], ◌∷◌, ◌++◌, All, if◌then◌else◌, length, map, refl, sym, ap, subst, ◌∙◌, arith, length-append, Option, None}
use Rattle.std.specs.Str.{bytes_eq}
use Rattle.std.proofs.lemmas.List.Elements.{All-push, All-nil}
use Rattle.fw_charge.specs.Charge.{Charge}
use Rattle.fw_entry.specs.Entry.{CommandValue, EntryValue}
use Rattle.fw_entry.specs.Entry.CommandValue.{post, commit, set_policy, withdraw, add_purchase}
use Rattle.fw_terms.specs.Policy.{PolicyValue}
use Rattle.fw_terms.specs.Commitment.{CommitmentValue}
use Rattle.fw_entry.specs.Spelling.{IsEntry}
use Rattle.fw_persistent.specs.Counts.{count_of}
use Rattle.fw_snapshot.specs.History.{History, posted, committed, policy_after, rows_posted, rows_of, committed_of, commitments_of, policy_of}
use Rattle.fw_snapshot.specs.Adding.{commitments_after, NoneRefuses}
use Rattle.fw_snapshot.specs.Judging.{judged, IsLegal, IsLegalAfter, carries, most_rows, most_commitments}
use Rattle.fw_snapshot.specs.Uses.{posts_with, withdrawn_with, commitments_with}
use Rattle.fw_posted.specs.Marks.{selected}
use Rattle.fw_posted.specs.Rows.{segment_rows}
use Rattle.fw_snapshot.specs.Posts.{posted_len, spans_from, spans_at, counts_of, counts_after, target_of, times_named, marked, IsNamed}
use Rattle.fw_snapshot.specs.declared.posts.Span.{Span}
use Rattle.fw_snapshot.specs.Heads.{ContentValue, HeadValue, head_of, content_of, command_of, row_count, row_counts, entries_of}
use Rattle.fw_snapshot.specs.Held.{held_commitments, held_policy}
use Rattle.fw_snapshot.specs.StateView.{state_entries, state_view, KeepsState}
use Rattle.fw_snapshot.specs.declared.state.State.TheInside.{Inside}
use Rattle.fw_snapshot.specs.declared.verdict.Verdict.TheVariants as verdict
use Rattle.fw_snapshot.proofs.EntryFacts.{committed_of_more, policy_of_more, posts_with_more, commitments_with_append}
use Rattle.fw_snapshot.proofs.SpanFacts.{spans_more}
use Rattle.fw_snapshot.proofs.MarkFacts.{rows_selected}
use Rattle.fw_snapshot.proofs.NamedFacts.{counts_follow, ids_follow}
use Rattle.fw_snapshot.proofs.HeadFacts.{row_counts_cons, rows_posted_entries, heads_of_entries, length_entries, entries_of_more, entry_back, row_count_back}
use Rattle.fw_snapshot.proofs.AddedFacts.{commitments_count}
use Rattle.fw_snapshot.proofs.AddingFacts.{commitments_of_more, none_refuses}
use Rattle.fw_snapshot.proofs.LegalFacts.{legal_more, accepted_rows, few_rows, few_commitments}

-- what a state keeps, as its readers want it
pub kept_rows : (s : Inside) → KeepsState s → segment_rows s.posted.segments ≡ rows_posted (state_entries s)
kept_rows s keeps = sym (rows_posted_entries s.heads (segment_rows s.posted.segments) keeps.rows)

pub kept_heads : (s : Inside) → KeepsState s → s.heads ≡ map head_of (state_entries s)
kept_heads s keeps = sym (heads_of_entries s.heads (segment_rows s.posted.segments) keeps.rows)

pub kept_length : (s : Inside) → KeepsState s → length s.heads ≡ length (state_entries s)
kept_length s keeps = sym (length_entries s.heads (segment_rows s.posted.segments) keeps.rows)

pub kept_few : (s : Inside) → KeepsState s → length (segment_rows s.posted.segments) ≤ most_rows
kept_few s keeps =
    let few = few_rows (state_entries s) keeps.legal in
    let count = ap length (kept_rows s keeps) in
    omega arith

-- the rows that count are those that are marked
pub kept_counting : (s : Inside) → KeepsState s → selected s.posted.counts (segment_rows s.posted.segments) ≡ rows_of (state_entries s)
kept_counting s keeps = ap (λ counts. selected counts (segment_rows s.posted.segments)) keeps.counts ∙ ap (selected (counts_of (state_entries s))) (kept_rows s keeps) ∙ sym (rows_selected (state_entries s))

-- where the rows of an entry stand that comes behind a state's
abbrev pub span_behind : Inside → EntryValue → Span
span_behind s e = record { start = length (segment_rows s.posted.segments); rows = posted_len e }

-- each part of t is that of s with what an entry brings, which withdraws the post of this span, or none
pub record Follows (s t : Inside) (e : EntryValue) (named : Option Span) : Type 0 where
  pub is_named : IsNamed (state_entries s) e.origin e.command named
  pub heads : t.heads ≡ s.heads ++ head_of e ∷ []
  pub rows : segment_rows t.posted.segments ≡ segment_rows s.posted.segments ++ posted e.command
  pub counts : t.posted.counts ≡ counts_after named (posted_len e) s.posted.counts
  pub commitments : held_commitments t.commitments ≡ commitments_after (held_commitments s.commitments) e.command
  pub policy : held_policy t.policy ≡ policy_after (held_policy s.policy) e.command
  pub origins : (origin : List ℕ) → spans_at origin t.origins ≡ spans_at origin s.origins ++ (if bytes_eq origin e.origin then span_behind s e ∷ [] else [])
  pub registered : (id : List ℕ) → count_of id t.registered ≡ count_of id s.registered + commitments_with id (committed e.command)
  pub carried : (id : List ℕ) → count_of id t.carried ≡ count_of id s.carried + (if carries id (posted e.command) then 1 else 0)
  pub withdrawn : (id : List ℕ) → count_of id t.withdrawn ≡ count_of id s.withdrawn + times_named id named (segment_rows s.posted.segments)

-- then its entries are those of s and this one
pub follows_entries : (s t : Inside) (e : EntryValue) (named : Option Span) → KeepsState s → Follows s t e named → state_entries t ≡ state_entries s ++ e ∷ []
follows_entries s t e named keeps follows =
    let count : row_count (content_of e.command) ≡ length (posted e.command) = row_count_back e.command in
    ap (λ heads. entries_of heads (segment_rows t.posted.segments)) follows.heads
    ∙ ap (λ rows. entries_of (s.heads ++ head_of e ∷ []) rows) follows.rows
    ∙ entries_of_more s.heads (segment_rows s.posted.segments) (head_of e) (posted e.command) keeps.rows count
    ∙ ap (λ x. state_entries s ++ x ∷ []) (entry_back e)

row_counts_more : (heads : List _) (e : EntryValue) → row_counts (heads ++ head_of e ∷ []) ≡ row_counts heads + length (posted e.command)
unfolding row_counts
row_counts_more [] e = row_counts_cons (head_of e) [] ∙ ap (λ n. n + row_counts []) (row_count_back e.command) ∙ omega arith
row_counts_more (h ∷ heads) e =
    let first = row_counts_cons h (heads ++ head_of e ∷ []) in
    let rest = row_counts_more heads e in
    let whole = row_counts_cons h heads in
    omega arith

-- and it keeps what a state keeps, if the entry is accepted
pub follows_keeps : (s t : Inside) (e : EntryValue) (named : Option Span) → KeepsState s → judged (state_entries s) e ≡ verdict.Accept → IsEntry e → Follows s t e named → KeepsState t
follows_keeps s t e named keeps accepted entry follows =
    let es = state_entries s in
    let same : state_entries t ≡ es ++ e ∷ [] = follows_entries s t e named keeps follows in
    let lengths : length (segment_rows t.posted.segments) ≡ length (segment_rows s.posted.segments) + length (posted e.command) = ap length follows.rows ∙ length-append (segment_rows s.posted.segments) (posted e.command) in
    let posted_so = kept_rows s keeps in
    record {
      legal = subst IsLegal (sym same) (legal_more [] es e keeps.legal accepted);
      each = subst (All IsEntry) (sym same) (All-push IsEntry es e keeps.each entry);
      rows = lengths ∙ ap (λ n. n + length (posted e.command)) keeps.rows ∙ sym (row_counts_more s.heads e) ∙ ap row_counts (sym follows.heads);
      counts = follows.counts ∙ ap (counts_after named (posted_len e)) keeps.counts ∙ sym (counts_follow es e named keeps.legal accepted follows.is_named) ∙ ap counts_of (sym same);
      commitments = follows.commitments ∙ ap (λ list. commitments_after list e.command) keeps.commitments ∙ sym (commitments_of_more es e keeps.legal accepted) ∙ ap commitments_of (sym same);
      policy = follows.policy ∙ ap (λ before. policy_after before e.command) keeps.policy ∙ sym (policy_of_more es e) ∙ ap policy_of (sym same);
      origins = λ origin.
          follows.origins origin
          ∙ ap (λ spans. spans ++ (if bytes_eq origin e.origin then span_behind s e ∷ [] else [])) (keeps.origins origin)
          ∙ ap (λ rows. spans_from 0 origin es ++ (if bytes_eq origin e.origin then (let span : Span = record { start = length rows; rows = posted_len e } in span) ∷ [] else [])) posted_so
          ∙ ap (λ n. spans_from 0 origin es ++ (if bytes_eq origin e.origin then (let span : Span = record { start = n; rows = posted_len e } in span) ∷ [] else [])) (let none_before : length (rows_posted es) ≡ 0 + length (rows_posted es) = omega arith in none_before)
          ∙ sym (spans_more 0 origin es e)
          ∙ ap (spans_from 0 origin) (sym same);
      registered = λ id. follows.registered id ∙ ap (λ n. n + commitments_with id (committed e.command)) (keeps.registered id) ∙ sym (commitments_with_append id (committed_of es) (committed e.command)) ∙ ap (commitments_with id) (sym (committed_of_more es e) ∙ ap committed_of (sym same));
      carried = λ id. follows.carried id ∙ ap (λ n. n + (if carries id (posted e.command) then 1 else 0)) (keeps.carried id) ∙ sym (posts_with_more id es e) ∙ ap (posts_with id) (sym same);
      withdrawn = λ id.
          follows.withdrawn id
          ∙ ap (λ n. n + times_named id named (segment_rows s.posted.segments)) (keeps.withdrawn id)
          ∙ ap (λ rows. withdrawn_with id es + times_named id named rows) posted_so
          ∙ sym (ids_follow es e named id keeps.legal accepted follows.is_named)
          ∙ ap (withdrawn_with id) (sym same);
    }

-- and it is seen as the history with the entry behind the others
pub follows_view : (s t : Inside) (now : History) (e : EntryValue) (named : Option Span) → state_view s ≡ now → KeepsState s → t.currency ≡ s.currency → Follows s t e named → state_view t ≡ record { currency = now.currency; entries = now.entries ++ e ∷ [] }
follows_view s t now e named seen keeps currency follows =
    ap (λ letters. let made : History = record { currency = letters; entries = state_entries t } in made) currency
    ∙ ap (λ es. let made : History = record { currency = s.currency; entries = es } in made) (follows_entries s t e named keeps follows)
    ∙ ap (λ (h : History). let made : History = record { currency = h.currency; entries = h.entries ++ e ∷ [] } in made) seen

-- the head that is made of an entry's parts
pub head_made : (origin : List ℕ) (seq : ℕ) (content : ContentValue) (head : HeadValue) (e : EntryValue) → head ≡ record { origin = origin; seq = seq; content = content } → origin ≡ e.origin → seq ≡ e.seq → content ≡ content_of e.command → head ≡ head_of e
head_made origin seq content head e made same_origin same_seq same_content =
    made
    ∙ ap (λ o. let h : HeadValue = record { origin = o; seq = seq; content = content } in h) same_origin
    ∙ ap (λ n. let h : HeadValue = record { origin = e.origin; seq = n; content = content } in h) same_seq
    ∙ ap (λ c. let h : HeadValue = record { origin = e.origin; seq = e.seq; content = c } in h) same_content

-- the policy after a command doesn't hang on its rows
by_content : (before : Option PolicyValue) (c : CommandValue) → policy_after before (command_of (content_of c) []) ≡ policy_after before c
by_content before (post rows) = refl
by_content before (commit c) = refl
by_content before (set_policy p) = refl
by_content before (withdraw n) = refl
by_content before (add_purchase a) = refl

pub policy_by_content : (before : Option PolicyValue) (content : ContentValue) (c : CommandValue) → content ≡ content_of c → policy_after before (command_of content []) ≡ policy_after before c
policy_by_content before content c same = ap (λ x. policy_after before (command_of x [])) same ∙ by_content before c

-- neither does the number of the post that it withdraws
target_back : (c : CommandValue) → target_of (command_of (content_of c) []) ≡ target_of c
target_back (post rows) = refl
target_back (commit c) = refl
target_back (set_policy p) = refl
target_back (withdraw n) = refl
target_back (add_purchase a) = refl

pub target_by_content : (content : ContentValue) (c : CommandValue) → content ≡ content_of c → target_of (command_of content []) ≡ target_of c
target_by_content content c same = ap (λ x. target_of (command_of x [])) same ∙ target_back c

-- neither do the commitments after it, nor what they refuse
after_by_content : (before : List CommitmentValue) (c : CommandValue) → commitments_after before (command_of (content_of c) []) ≡ commitments_after before c
after_by_content before (post rows) = refl
after_by_content before (commit c) = refl
after_by_content before (set_policy p) = refl
after_by_content before (withdraw n) = refl
after_by_content before (add_purchase a) = refl

pub commitments_by_content : (before : List CommitmentValue) (content : ContentValue) (c : CommandValue) → content ≡ content_of c → commitments_after before (command_of content []) ≡ commitments_after before c
commitments_by_content before content c same = ap (λ x. commitments_after before (command_of x [])) same ∙ after_by_content before c

refuses_by_content : (before : List CommitmentValue) (c : CommandValue) → NoneRefuses before c → NoneRefuses before (command_of (content_of c) [])
refuses_by_content before (post rows) none = tt
refuses_by_content before (commit c) none = tt
refuses_by_content before (set_policy p) none = tt
refuses_by_content before (withdraw n) none = tt
refuses_by_content before (add_purchase a) none = none

-- a state's commitments refuse nothing that an accepted entry brings
pub follows_refuses : (s : Inside) (e : EntryValue) (content : ContentValue) → KeepsState s → judged (state_entries s) e ≡ verdict.Accept → content ≡ content_of e.command → NoneRefuses (held_commitments s.commitments) (command_of content [])
follows_refuses s e content keeps accepted same =
    subst (λ cs. NoneRefuses cs (command_of content [])) (sym keeps.commitments)
    (subst (λ x. NoneRefuses (commitments_of (state_entries s)) (command_of x [])) (sym same) (refuses_by_content (commitments_of (state_entries s)) e.command (none_refuses (state_entries s) e accepted)))

pub kept_few_commitments : (s : Inside) → KeepsState s → length (held_commitments s.commitments) ≤ most_commitments
kept_few_commitments s keeps =
    let few = few_commitments (state_entries s) keeps.legal in
    let same = ap length keeps.commitments ∙ commitments_count (state_entries s) in
    omega arith

-- the rows of an accepted entry are counted within the limit
pub follows_fits : (s : Inside) (e : EntryValue) (rows : List Charge) → KeepsState s → judged (state_entries s) e ≡ verdict.Accept → rows ≡ posted e.command → length (segment_rows s.posted.segments) + length rows ≤ most_rows
follows_fits s e rows keeps accepted same =
    let count = ap length (kept_rows s keeps) in
    let few = accepted_rows (state_entries s) e accepted (few_rows (state_entries s) keeps.legal) in
    let length_same = ap length same in
    omega arith

-- nothing was accepted where there is nothing
pub record IsBlank (t : Inside) : Type 0 where
  pub heads : t.heads ≡ []
  pub segments : t.posted.segments ≡ []
  pub counts : t.posted.counts ≡ []
  pub commitments : held_commitments t.commitments ≡ []
  pub policy : held_policy t.policy ≡ None
  pub origins : t.origins ≡ []
  pub registered : t.registered ≡ []
  pub carried : t.carried ≡ []
  pub withdrawn : t.withdrawn ≡ []

pub blank_entries : (t : Inside) → IsBlank t → state_entries t ≡ []
unfolding entries_of
blank_entries t blank = ap (λ heads. entries_of heads (segment_rows t.posted.segments)) blank.heads

pub blank_keeps : (t : Inside) → IsBlank t → KeepsState t
unfolding IsLegalAfter row_counts rows_posted committed_of commitments_of policy_of counts_of marked spans_from posts_with withdrawn_with commitments_with
blank_keeps t blank =
    let none = blank_entries t blank in
    let rows : segment_rows t.posted.segments ≡ [] = ap segment_rows blank.segments in
    record {
      legal = subst IsLegal (sym none) tt;
      each = subst (All IsEntry) (sym none) (All-nil IsEntry);
      rows = ap length rows ∙ ap row_counts (sym blank.heads);
      counts = blank.counts ∙ ap counts_of (sym none);
      commitments = blank.commitments ∙ ap commitments_of (sym none);
      policy = blank.policy ∙ ap policy_of (sym none);
      origins = λ origin. ap (spans_at origin) blank.origins ∙ ap (spans_from 0 origin) (sym none);
      registered = λ id. ap (count_of id) blank.registered ∙ ap (λ es. commitments_with id (committed_of es)) (sym none);
      carried = λ id. ap (count_of id) blank.carried ∙ ap (posts_with id) (sym none);
      withdrawn = λ id. ap (count_of id) blank.withdrawn ∙ ap (withdrawn_with id) (sym none);
    }
