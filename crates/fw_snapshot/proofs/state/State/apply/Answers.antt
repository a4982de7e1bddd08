use Rattle.std.proofs.Common.{◌≡◌, ◌+◌, ◌≤◌, ◌++◌, ◌∷◌, [], ℕ, List, Bool, All, Some, IfSome, if◌then◌else◌, length, refl, sym, ap, subst, ◌∙◌, arith}
use Rattle.std.specs.Prelude.{option_copied, string_bytes, Option, take, drop, replicate, true}
use Rattle.std.specs.Str.{bytes_eq}
use Rattle.fw_charge.specs.Charge.{Charge, most_post_rows}
use Rattle.fw_entry.specs.Entry.{EntryValue}
use Rattle.fw_entry.specs.Spelling.{IsEntry}
use Rattle.fw_persistent.specs.Counts.{count_of}
use Rattle.fw_persistent.specs.Values.{Values}
use Rattle.fw_posted.specs.Rows.{segment_rows}
use Rattle.fw_snapshot.specs.Heads.{content_of, command_of}
use Rattle.fw_snapshot.specs.HeadView.{content_view}
use Rattle.fw_snapshot.specs.Held.{held_commitments, held_policy, held_rows}
use Rattle.fw_snapshot.specs.History.{posted, committed, rows_posted}
use Rattle.fw_snapshot.specs.Judging.{judged, carries, IsLegal}
use Rattle.fw_snapshot.specs.Posts.{counts_after, counts_of, marked, named_in, posted_len, stays, spans_at, spans_from, target_of, times_named, IsNamed}
use Rattle.fw_snapshot.specs.StateView.{state_entries}
use Rattle.fw_snapshot.specs.Uses.{commitments_with}
use Rattle.fw_snapshot.specs.declared.posts.Span.{Span}
use Rattle.fw_snapshot.specs.declared.state.State.TheInside.{Inside}
use Rattle.fw_snapshot.specs.declared.verdict.Verdict.TheVariants as verdict
use Rattle.fw_snapshot.proofs.Following.{Follows, follows_keeps, follows_view, follows_refuses, head_made, kept_rows, policy_by_content, commitments_by_content, target_by_content}
use Rattle.fw_snapshot.proofs.MarkFacts.{marked_count}
use Rattle.fw_snapshot.proofs.NamedFacts.{accepted_named, named_no_rows, named_within, named_some, named_few, named_counting}
use Rattle.fw_snapshot.proofs.state.State.apply.Goals as goal
use Rattle.fw_snapshot.proofs.state.State.apply.Goals.{After-result-1, In_ok-carried, In_ok-commitments}

-- the post that is withdrawn is the one that the entry names

found_is : (es : List EntryValue) (e : EntryValue) (spans : Values (List Span)) (origin : List ℕ) (target : Option ℕ) (named : Option Span) → IsLegal es → All IsEntry es → judged es e ≡ verdict.Accept → ((o : List ℕ) → spans_at o spans ≡ spans_from 0 o es) → origin ≡ e.origin → target ≡ target_of e.command → named ≡ named_in (spans_at origin spans) target → IsNamed es e.origin e.command named
found_is es e spans origin target named legal each accepted kept origin_is target_is found =
    subst (IsNamed es e.origin e.command)
    (sym (found ∙ ap (λ o. named_in (spans_at o spans) target) origin_is ∙ ap (λ ss. named_in ss target) (kept e.origin) ∙ ap (named_in (spans_from 0 e.origin es)) target_is))
    (accepted_named es e legal each accepted)

named_of : (c : In_ok-commitments) → IsNamed (state_entries c.self.inside) c.args.entry.now.origin c.args.entry.now.command c.span_named-named.result
named_of c =
    found_is (state_entries c.self.inside) c.args.entry.now c.self.inside.origins c.origin.result.now c.target.result c.span_named-named.result c.self.invariant.legal c.self.invariant.each
    (ap (λ h. judged h.entries c.args.entry.now) c.self.view_is ∙ c.requires)
    c.self.invariant.origins
    c.origin.ensures.name
    (c.target.ensures ∙ target_by_content (content_view c.in_ok-content.content) c.args.entry.now.command (c.in_ok-content.ensures ∙ ap content_of c.command-command.ensures.command))
    c.span_named-named.ensures

named_later : (c : In_ok-carried) → IsNamed (state_entries c.self.inside) c.args.entry.now.origin c.args.entry.now.command c.span_named-named.result
named_later c =
    found_is (state_entries c.self.inside) c.args.entry.now c.self.inside.origins c.origin.result.now c.target.result c.span_named-named.result c.self.invariant.legal c.self.invariant.each
    (ap (λ h. judged h.entries c.args.entry.now) c.self.view_is ∙ c.requires)
    c.self.invariant.origins
    c.origin.ensures.name
    (c.target.ensures ∙ target_by_content (content_view c.in_ok-content.content) c.args.entry.now.command (c.in_ok-content.ensures ∙ ap content_of c.command-command.ensures.command))
    c.span_named-named.ensures

named_last : (c : After-result-1) → IsNamed (state_entries c.self.inside) c.args.entry.now.origin c.args.entry.now.command c.span_named-named.result
named_last c =
    found_is (state_entries c.self.inside) c.args.entry.now c.self.inside.origins c.origin.result.now c.target.result c.span_named-named.result c.self.invariant.legal c.self.invariant.each
    (ap (λ h. judged h.entries c.args.entry.now) c.self.view_is ∙ c.requires)
    c.self.invariant.origins
    c.origin.ensures.name
    (c.target.ensures ∙ target_by_content (content_view c.in_ok-content.content) c.args.entry.now.command (c.in_ok-content.ensures ∙ ap content_of c.command-command.ensures.command))
    c.span_named-named.ensures

counts_len : (es : List EntryValue) → length (counts_of es) ≡ length (rows_posted es)
unfolding counts_of marked
counts_len es = marked_count (stays es) es

pub posted_after-requires-clause-no_rows : goal.posted_after-requires-clause-no_rows
posted_after-requires-clause-no_rows c =
    let e = c.args.entry.now in
    let rows_are = c.posted-rows.ensures ∙ ap posted c.command-command.ensures.command in
    subst (λ (rows : List Charge). IfSome c.span_named-named.result (λ _. rows ≡ [])) (sym rows_are) (named_no_rows (state_entries c.self.inside) e c.span_named-named.result (named_of c))

pub posted_after-requires-clause-within : goal.posted_after-requires-clause-within
posted_after-requires-clause-within c =
    let s = c.self.inside in
    let marks = ap length c.self.invariant.counts ∙ counts_len (state_entries s) in
    subst (λ (n : ℕ). IfSome c.span_named-named.result (λ span. span.start + span.rows ≤ n)) (sym marks) (named_within (state_entries s) c.args.entry.now c.span_named-named.result (named_of c))

pub posted_after-requires-clause-some : goal.posted_after-requires-clause-some
posted_after-requires-clause-some c = named_some (state_entries c.self.inside) c.args.entry.now c.span_named-named.result (named_of c)

pub posted_after-requires-clause-counting : goal.posted_after-requires-clause-counting
posted_after-requires-clause-counting c =
    let s = c.self.inside in
    let e = c.args.entry.now in
    let accepted : judged (state_entries s) e ≡ verdict.Accept = ap (λ h. judged h.entries e) c.self.view_is ∙ c.requires in
    subst (λ (counts : List Bool). IfSome c.span_named-named.result (λ span. take span.rows (drop span.start counts) ≡ replicate span.rows true)) (sym c.self.invariant.counts)
    (named_counting (state_entries s) e c.span_named-named.result c.self.invariant.legal accepted (named_of c))

pub withdrawn_after-requires-clause-within : goal.withdrawn_after-requires-clause-within
withdrawn_after-requires-clause-within c =
    let s = c.self.inside in
    subst (λ (rows : List Charge). IfSome c.span_named-named.result (λ span. span.start + span.rows ≤ length rows)) (sym (kept_rows s c.self.invariant)) (named_within (state_entries s) c.args.entry.now c.span_named-named.result (named_later c))

pub withdrawn_after-requires-clause-some : goal.withdrawn_after-requires-clause-some
withdrawn_after-requires-clause-some c = named_some (state_entries c.self.inside) c.args.entry.now c.span_named-named.result (named_later c)

pub withdrawn_after-requires-clause-few : goal.withdrawn_after-requires-clause-few
withdrawn_after-requires-clause-few c = named_few (state_entries c.self.inside) c.args.entry.now c.span_named-named.result c.self.invariant.each (named_later c)

pub commitments_after-requires : goal.commitments_after-requires
commitments_after-requires c =
    let accepted = ap (λ h. judged h.entries c.args.entry.now) c.self.view_is ∙ c.requires in
    follows_refuses c.self.inside c.args.entry.now (content_view c.in_ok-content.content) c.self.invariant accepted (c.in_ok-content.ensures ∙ ap content_of c.command-command.ensures.command)

-- the state that is made, and that it is what follows

posted_is : (c : After-result-1) → held_rows (option_copied c.posted-rows.result) ≡ posted c.args.entry.now.command
posted_is c = c.posted-rows.ensures ∙ ap posted c.command-command.ensures.command

abbrev made : After-result-1 → Inside
made c = record {
  alloc = c.self.inside.alloc;
  currency = c.self.inside.currency;
  heads = c.in_ok-heads.heads;
  posted = c.in_ok-posted.posted;
  commitments = c.in_ok-commitments.commitments;
  policy = c.in_ok-policy.policy;
  origins = c.in_ok-origins.origins;
  registered = c.in_ok-registered.registered;
  carried = c.in_ok-carried.carried;
  withdrawn = c.in_ok-withdrawn.withdrawn;
}

follows : (c : After-result-1) → Follows c.self.inside (made c) c.args.entry.now c.span_named-named.result
follows c =
    let s = c.self.inside in
    let e = c.args.entry.now in
    let named = c.span_named-named.result in
    let origin_is = c.in_ok-origin.ensures ∙ c.origin-3.ensures.name in
    let command_is = c.command-command.ensures.command in
    let content_is = c.in_ok-content.ensures ∙ ap content_of command_is in
    let rows_are = posted_is c in
    let committed_is = c.committed-commitment.ensures ∙ ap committed command_is in
    let count_is : c.row_count.result ≡ posted_len e = c.row_count.ensures ∙ ap length rows_are in
    record {
      is_named = named_last c;
      heads = c.in_ok-heads.ensures ∙ ap (λ h. s.heads ++ h ∷ []) (head_made _ _ _ _ e c.new.ensures origin_is c.seq.ensures.number content_is);
      rows = c.in_ok-posted.ensures.rows ∙ ap (λ xs. segment_rows s.posted.segments ++ xs) rows_are;
      counts = c.in_ok-posted.ensures.counts ∙ ap (λ xs. counts_after named (length xs) s.posted.counts) rows_are;
      commitments = c.in_ok-commitments.ensures ∙ commitments_by_content (held_commitments s.commitments) _ e.command content_is;
      policy = c.in_ok-policy.ensures ∙ policy_by_content (held_policy s.policy) _ e.command content_is;
      origins = λ o.
          c.in_ok-origins.ensures o
          ∙ ap (λ n. spans_at o s.origins ++ (if bytes_eq o (string_bytes c.in_ok-origin.origin.value) then (let span : Span = record { start = n; rows = c.row_count.result } in span) ∷ [] else [])) c.len.ensures.rows
          ∙ ap (λ n. spans_at o s.origins ++ (if bytes_eq o (string_bytes c.in_ok-origin.origin.value) then (let span : Span = record { start = length (segment_rows s.posted.segments); rows = n } in span) ∷ [] else [])) count_is
          ∙ ap (λ text. spans_at o s.origins ++ (if bytes_eq o text then (let span : Span = record { start = length (segment_rows s.posted.segments); rows = posted_len e } in span) ∷ [] else [])) origin_is;
      registered = λ id. c.in_ok-registered.ensures id ∙ ap (λ xs. count_of id s.registered + commitments_with id xs) committed_is;
      carried = λ id. c.in_ok-carried.ensures id ∙ ap (λ xs. count_of id s.carried + (if carries id xs then 1 else 0)) rows_are;
      withdrawn = c.in_ok-withdrawn.ensures;
    }

pub invariant_of-result : goal.invariant_of-result
invariant_of-result c =
    let accepted : judged (state_entries c.self.inside) c.args.entry.now ≡ verdict.Accept = ap (λ h. judged h.entries c.args.entry.now) c.self.view_is ∙ c.requires in
    follows_keeps c.self.inside (made c) c.args.entry.now c.span_named-named.result c.self.invariant accepted c.origin.ensures.valid (follows c)

pub returns : goal.returns
returns c = follows_view c.self.inside (made c) c.args.self.now c.args.entry.now c.span_named-named.result c.self.view_is c.self.invariant refl (follows c)
