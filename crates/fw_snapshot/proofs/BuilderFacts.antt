-- What a builder keeps, as its functions want it.
use Rattle.std.proofs.Common.{◌≡◌, ◌∙◌, ◌+◌, ◌-◌, ◌≤◌, ◌∷◌, not, Bool, true, false, ℕ, zero, suc, List, [], Option, Some, IfSome, length, take, drop, replicate, slice_get, refl, sym, ap, subst, arith}
use Rattle.std.proofs.lemmas.List.{length-take-le}
use Rattle.std.proofs.lemmas.Option.{IfSome_then}
use Rattle.fw_entry.specs.Entry.{EntryValue}
use Rattle.fw_posted.specs.Rows.{segment_rows}
use Rattle.fw_snapshot.specs.Building.{left_rows, next_entry}
use Rattle.fw_snapshot.specs.BuilderView.{builder_view, state_so_far, KeepsBuilder}
use Rattle.fw_snapshot.specs.Heads.{HeadValue, command_of, row_count}
use Rattle.fw_snapshot.specs.History.{is_withdrawn}
use Rattle.fw_snapshot.specs.Judging.{judged}
use Rattle.fw_snapshot.specs.Posts.{counts_after, named_in, span_in, spans_at, spans_from, target_of, IsNamed, IsSpanOf}
use Rattle.fw_snapshot.specs.StateView.{state_entries}
use Rattle.fw_snapshot.specs.declared.posts.Span.{Span}
use Rattle.fw_snapshot.specs.declared.state.building.StateBuilder.TheInside.{Inside}
use Rattle.fw_snapshot.specs.declared.verdict.Verdict.TheVariants as verdict
use Rattle.fw_snapshot.proofs.BuildingFacts.{length_after, left_after, marks_after, rows_of_singles, taken_after, target_back}
use Rattle.fw_snapshot.proofs.Following.{kept_rows}
use Rattle.fw_snapshot.proofs.NamedFacts.{accepted_named, found_post, named_within}
use Rattle.fw_snapshot.proofs.SpanFacts.{span_within}
use Rattle.fw_snapshot.proofs.WithdrawnFacts.{stays_at}

-- the rows of the state so far are those that are taken
pub taken_rows : (b : Inside) → segment_rows (state_so_far b).posted.segments ≡ take b.rows (segment_rows b.posted.segments)
taken_rows b = rows_of_singles (take b.rows (segment_rows b.posted.segments))

pub taken_count : (b : Inside) → KeepsBuilder b → b.rows ≡ length (segment_rows (state_so_far b).posted.segments)
taken_count b keeps = sym (ap length (taken_rows b) ∙ length-take-le b.rows (segment_rows b.posted.segments) keeps.within)

-- the rows of a post that is found are taken
pub found_span : (b : Inside) (origin : List ℕ) (seq : ℕ) (span : Span) → KeepsBuilder b → span_in (spans_at origin b.parts.origins) seq ≡ Some span → IsSpanOf (state_entries (state_so_far b)) origin seq span
found_span b origin seq span keeps is =
    found_post (state_entries (state_so_far b)) origin seq span keeps.state.legal (ap (λ spans. span_in spans seq) (sym (keeps.state.origins origin)) ∙ is)

pub span_taken : (b : Inside) (origin : List ℕ) (seq : ℕ) (span : Span) → KeepsBuilder b → IsSpanOf (state_entries (state_so_far b)) origin seq span → span.start + span.rows ≤ b.rows
span_taken b origin seq span keeps stands =
    let within = span_within (state_entries (state_so_far b)) origin seq span stands in
    let posted = ap length (kept_rows (state_so_far b) keeps.state) in
    let count = taken_count b keeps in
    omega (arith, within, posted, count)

get_taken : {X : Type 0} (n : ℕ) (xs : List X) (i : ℕ) (x : X) → slice_get (take n xs) i ≡ Some x → slice_get xs i ≡ Some x
get_taken zero xs i x there = absurd cc
get_taken (suc n) [] i x there = there
get_taken (suc n) (y ∷ xs) zero x there = there
get_taken (suc n) (y ∷ xs) (suc i) x there = get_taken n xs i x there

-- the mark of its first row says whether it stays
pub mark_there : (b : Inside) (origin : List ℕ) (seq : ℕ) (span : Span) → KeepsBuilder b → IsSpanOf (state_entries (state_so_far b)) origin seq span → slice_get b.marks.items span.start ≡ Some (not (is_withdrawn (state_entries (state_so_far b)) origin seq))
mark_there b origin seq span keeps stands =
    get_taken b.rows b.marks.items span.start _ (ap (λ marks. slice_get marks span.start) keeps.state.counts ∙ stays_at (state_entries (state_so_far b)) origin seq span stands)

pub not_not : (b : Bool) → not (not b) ≡ b
not_not true = refl
not_not false = refl

-- ---- the post that an entry withdraws

pub is_named : (b : Inside) (h : HeadValue) (named : Option Span) → KeepsBuilder b → judged (state_entries (state_so_far b)) (next_entry (builder_view b) h) ≡ verdict.Accept
    → named ≡ named_in (spans_at h.origin b.parts.origins) (target_of (command_of h.content [])) → IsNamed (state_entries (state_so_far b)) h.origin (next_entry (builder_view b) h).command named
is_named b h named keeps accepted found =
    let es = state_entries (state_so_far b) in
    let e = next_entry (builder_view b) h in
    let is : named_in (spans_from 0 h.origin es) (target_of e.command) ≡ named =
    ap (λ spans. named_in spans (target_of e.command)) (sym (keeps.state.origins h.origin))
    ∙ ap (named_in (spans_at h.origin b.parts.origins)) (sym (target_back h.content (take (row_count h.content) (left_rows (builder_view b)))))
    ∙ sym found in
    subst (λ (x : Option Span). IsNamed es h.origin e.command x) is (accepted_named es e keeps.state.legal keeps.state.each accepted)

-- its rows are taken
pub named_taken : (b : Inside) (e : EntryValue) (named : Option Span) → KeepsBuilder b → IsNamed (state_entries (state_so_far b)) e.origin e.command named → IfSome named (λ span. span.start + span.rows ≤ b.rows)
named_taken b e named keeps is =
    let posted = ap length (kept_rows (state_so_far b) keeps.state) in
    let count = taken_count b keeps in
    IfSome_then named (named_within (state_entries (state_so_far b)) e named is) (λ span within. omega (arith, within, posted, count))

pub named_inside : (b : Inside) (e : EntryValue) (named : Option Span) → KeepsBuilder b → IsNamed (state_entries (state_so_far b)) e.origin e.command named
    → IfSome named (λ span. span.start + span.rows ≤ length (segment_rows b.posted.segments))
named_inside b e named keeps is =
    let all = keeps.within in
    IfSome_then named (named_taken b e named keeps is) (λ span within. omega (arith, within, all))

-- ---- the marks after an entry of so many rows

left_marks : (b : Inside) → KeepsBuilder b → drop b.rows b.marks.items ≡ replicate (length b.marks.items - b.rows) true
left_marks b keeps = keeps.left ∙ ap (λ n. replicate (n - b.rows) true) (sym keeps.marks)

pub marks_length : (b : Inside) (named : Option Span) → KeepsBuilder b → IfSome named (λ span. span.start + span.rows ≤ b.rows) → length (marks_after named b.marks.items) ≡ length (segment_rows b.posted.segments)
marks_length b named keeps within =
    let all = keeps.within in
    let count = keeps.marks in
    length_after named b.marks.items b.rows (omega (arith, all, count)) within ∙ keeps.marks

pub marks_taken : (b : Inside) (named : Option Span) (more : ℕ) → KeepsBuilder b → b.rows + more ≤ length (segment_rows b.posted.segments) → IfSome named (λ span. span.start + span.rows ≤ b.rows) → IfSome named (λ _. more ≡ 0)
    → take (b.rows + more) (marks_after named b.marks.items) ≡ counts_after named more (take b.rows b.marks.items)
marks_taken b named more keeps enough within none =
    let count = keeps.marks in
    taken_after named b.marks.items b.rows more (omega (arith, enough, count)) (left_marks b keeps) within none

pub marks_left : (b : Inside) (named : Option Span) (more : ℕ) → KeepsBuilder b → b.rows + more ≤ length (segment_rows b.posted.segments) → IfSome named (λ span. span.start + span.rows ≤ b.rows)
    → drop (b.rows + more) (marks_after named b.marks.items) ≡ replicate (length (segment_rows b.posted.segments) - (b.rows + more)) true
marks_left b named more keeps enough within =
    let count = keeps.marks in
    left_after named b.marks.items b.rows more (omega (arith, enough, count)) (left_marks b keeps) within ∙ ap (λ n. replicate (n - (b.rows + more)) true) keeps.marks
