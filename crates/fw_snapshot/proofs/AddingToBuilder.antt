-- The builder that follows another by one entry.
use Rattle.std.proofs.Common.{◌≡◌, ◌∙◌, ◌+◌, ◌-◌, ◌≤◌, ◌++◌, ◌∷◌, [], ℕ, List, Option, true, if◌then◌else◌, length, take, drop, replicate, refl, sym, ap, subst, arith, length-drop}
use Rattle.std.specs.Str.{bytes_eq}
use Rattle.std.proofs.Math.Seq.{take-add}
use Rattle.std.proofs.lemmas.List.{length-take-le}
use Rattle.std.proofs.lemmas.Option.{IfSome_then}
use Rattle.fw_entry.specs.Entry.{EntryValue}
use Rattle.fw_entry.specs.Spelling.{entry, most_entry_bytes, IsEntry}
use Rattle.fw_persistent.specs.Counts.{count_of}
use Rattle.fw_posted.specs.Rows.{segment_rows}
use Rattle.fw_snapshot.specs.Adding.{commitments_after, NoneRefuses}
use Rattle.fw_snapshot.specs.Building.{Built, left_rows, next_entry, rows_before, with_next, IsInside}
use Rattle.fw_snapshot.specs.BuilderView.{builder_view, state_so_far, KeepsBuilder}
use Rattle.fw_snapshot.specs.Heads.{HeadValue, command_of, row_count}
use Rattle.fw_snapshot.specs.Held.{held_commitments, held_policy}
use Rattle.fw_snapshot.specs.History.{History, committed, policy_after, posted}
use Rattle.fw_snapshot.specs.Judging.{carries, judged}
use Rattle.fw_snapshot.specs.Posts.{counts_after, posted_len, spans_at, times_named, IsNamed}
use Rattle.fw_snapshot.specs.StateView.{state_entries}
use Rattle.fw_snapshot.specs.Uses.{commitments_with}
use Rattle.fw_snapshot.specs.Verdicts.{goes_behind}
use Rattle.fw_snapshot.specs.declared.posts.Span.{Span}
use Rattle.fw_snapshot.specs.declared.state.building.StateBuilder.TheInside.{Inside}
use Rattle.fw_snapshot.specs.declared.verdict.Verdict.TheVariants as verdict
use Rattle.fw_snapshot.proofs.AddingFacts.{none_refuses}
use Rattle.fw_snapshot.proofs.BuilderFacts.{marks_left, marks_length, marks_taken, named_taken, taken_count, taken_rows}
use Rattle.fw_snapshot.proofs.BuildingFacts.{after_back, behind_parts, committed_back, marks_after, policy_back, refuses_back, times_taken}
use Rattle.fw_snapshot.proofs.Following.{Follows, follows_keeps, follows_view}
use Rattle.fw_snapshot.proofs.HeadFacts.{head_back, posted_back}
use Rattle.fw_snapshot.proofs.NamedFacts.{named_no_rows}

-- the entries so far
abbrev entries : Inside → List EntryValue
entries b = state_entries (state_so_far b)

-- the entry of a head, whose rows are the next ones
abbrev next : Inside → HeadValue → EntryValue
next b h = next_entry (builder_view b) h

-- an entry that goes behind those of a builder is accepted after them
pub next_accepted : (b : Inside) (now : Built) (h : HeadValue) → builder_view b ≡ now → goes_behind now.history.entries (next_entry now h) ≡ true → (length (entry (next b h)) ≤ most_entry_bytes) × (judged (entries b) (next b h) ≡ verdict.Accept)
next_accepted b now h view goes =
    behind_parts (entries b) (next b h) (subst (λ (v : Built). goes_behind v.history.entries (next_entry v h) ≡ true) (sym view) goes)

-- none of the commitments refuses what it brings
pub next_refuses : (b : Inside) (h : HeadValue) → KeepsBuilder b → judged (entries b) (next b h) ≡ verdict.Accept → NoneRefuses (held_commitments b.parts.commitments) (command_of h.content [])
next_refuses b h keeps accepted =
    refuses_back (held_commitments b.parts.commitments) h.content (take (row_count h.content) (left_rows (builder_view b)))
    (subst (λ cs. NoneRefuses cs (next b h).command) (sym keeps.state.commitments) (none_refuses (entries b) (next b h) accepted))

-- each part of t is that of b with what the entry brings, which withdraws the post of this span, or none
pub record Adds (b t : Inside) (h : HeadValue) (named : Option Span) : Type 0 where
  pub currency : t.currency ≡ b.currency
  pub segments : t.posted.segments ≡ b.posted.segments
  pub heads : t.parts.heads ≡ b.parts.heads ++ h ∷ []
  pub commitments : held_commitments t.parts.commitments ≡ commitments_after (held_commitments b.parts.commitments) (command_of h.content [])
  pub policy : held_policy t.parts.policy ≡ policy_after (held_policy b.parts.policy) (command_of h.content [])
  pub origins : (other : List ℕ) → spans_at other t.parts.origins ≡ spans_at other b.parts.origins ++ (if bytes_eq other h.origin then record { start = b.rows; rows = row_count h.content } ∷ [] else [])
  pub registered : (id : List ℕ) → count_of id t.parts.registered ≡ count_of id b.parts.registered + commitments_with id (committed (command_of h.content []))
  pub carried : (id : List ℕ) → count_of id t.carried ≡ count_of id b.carried + (if carries id (take (row_count h.content) (left_rows (builder_view b))) then 1 else 0)
  pub withdrawn : (id : List ℕ) → count_of id t.parts.withdrawn ≡ count_of id b.parts.withdrawn + times_named id named (segment_rows b.posted.segments)
  pub marks : t.marks.items ≡ marks_after named b.marks.items
  pub rows : t.rows ≡ b.rows + row_count h.content
  pub place : rows_before t.posted.segments t.place ≡ t.rows
  pub inside : IsInside t.posted.segments t.place

fits : (b : Inside) (h : HeadValue) → KeepsBuilder b → row_count h.content ≤ length (left_rows (builder_view b)) → b.rows + row_count h.content ≤ length (segment_rows b.posted.segments)
fits b h keeps enough =
    let left = length-drop b.rows (segment_rows b.posted.segments) in
    let within = keeps.within in
    omega (arith, left, enough, within)

pub adds_follows : (b t : Inside) (h : HeadValue) (named : Option Span) → KeepsBuilder b → row_count h.content ≤ length (left_rows (builder_view b)) → IsNamed (entries b) h.origin (next b h).command named → Adds b t h named
    → Follows (state_so_far b) (state_so_far t) (next b h) named
adds_follows b t h named keeps enough is adds =
    let e : EntryValue = next b h in
    let count : ℕ = row_count h.content in
    let all = segment_rows b.posted.segments in
    let left = left_rows (builder_view b) in
    let more = take count left in
    let posted_is : posted e.command ≡ more = posted_back h.content left in
    let many : posted_len e ≡ count = ap length posted_is ∙ length-take-le count left enough in
    let taken = named_taken b e named keeps is in
    let none = IfSome_then named (named_no_rows (entries b) e named is) (λ span empty. sym many ∙ ap length empty) in
    record {
      is_named = is;
      heads = adds.heads ∙ ap (λ x. b.parts.heads ++ x ∷ []) (sym (head_back h left enough));
      rows =
          taken_rows t
          ∙ ap (λ segments. take t.rows (segment_rows segments)) adds.segments
          ∙ ap (λ n. take n all) adds.rows
          ∙ take-add b.rows count all
          ∙ ap (λ rows. take b.rows all ++ rows) (sym posted_is)
          ∙ ap (λ rows. rows ++ posted e.command) (sym (taken_rows b));
      counts =
          ap (λ n. take n t.marks.items) adds.rows
          ∙ ap (take (b.rows + count)) adds.marks
          ∙ marks_taken b named count keeps (fits b h keeps enough) taken none
          ∙ ap (λ n. counts_after named n (take b.rows b.marks.items)) (sym many);
      commitments = adds.commitments ∙ after_back (held_commitments b.parts.commitments) h.content more;
      policy = adds.policy ∙ policy_back (held_policy b.parts.policy) h.content more;
      origins = λ o.
          adds.origins o
          ∙ ap (λ n. spans_at o b.parts.origins ++ (if bytes_eq o h.origin then (let span : Span = record { start = n; rows = count } in span) ∷ [] else [])) (taken_count b keeps)
          ∙ ap (λ n. spans_at o b.parts.origins ++ (if bytes_eq o h.origin then (let span : Span = record { start = length (segment_rows (state_so_far b).posted.segments); rows = n } in span) ∷ [] else [])) (sym many);
      registered = λ id. adds.registered id ∙ ap (λ xs. count_of id b.parts.registered + commitments_with id xs) (committed_back h.content more);
      carried = λ id. adds.carried id ∙ ap (λ rows. count_of id b.carried + (if carries id rows then 1 else 0)) (sym posted_is);
      withdrawn = λ id. adds.withdrawn id ∙ ap (λ n. count_of id b.parts.withdrawn + n) (sym (times_taken id named b.rows all taken) ∙ ap (times_named id named) (sym (taken_rows b)));
    }

-- then t keeps what a builder keeps, if the entry is a whole one that is accepted
pub adds_keeps : (b t : Inside) (h : HeadValue) (named : Option Span) → KeepsBuilder b → row_count h.content ≤ length (left_rows (builder_view b)) → judged (entries b) (next b h) ≡ verdict.Accept → IsEntry (next b h)
    → IsNamed (entries b) h.origin (next b h).command named → Adds b t h named → KeepsBuilder t
adds_keeps b t h named keeps enough accepted whole is adds =
    let count : ℕ = row_count h.content in
    let taken = named_taken b (next b h) named keeps is in
    let enough_rows = fits b h keeps enough in
    let rows = adds.rows in
    let same : length (segment_rows t.posted.segments) ≡ length (segment_rows b.posted.segments) = ap (λ segments. length (segment_rows segments)) adds.segments in
    let rest : length (segment_rows b.posted.segments) - (b.rows + count) ≡ length (segment_rows t.posted.segments) - t.rows = omega (arith, same, rows) in
    record {
      state = follows_keeps (state_so_far b) (state_so_far t) (next b h) named keeps.state accepted whole (adds_follows b t h named keeps enough is adds);
      within = omega (arith, enough_rows, rows, same);
      marks = ap length adds.marks ∙ marks_length b named keeps taken ∙ sym same;
      left =
          ap (λ n. drop n t.marks.items) adds.rows
          ∙ ap (drop (b.rows + count)) adds.marks
          ∙ marks_left b named count keeps enough_rows taken
          ∙ ap (λ n. replicate n true) rest;
      place = adds.place;
      inside = adds.inside;
    }

-- and it is seen as the other one with the entry behind the others
pub adds_view : (b t : Inside) (h : HeadValue) (named : Option Span) → KeepsBuilder b → row_count h.content ≤ length (left_rows (builder_view b)) → IsNamed (entries b) h.origin (next b h).command named → Adds b t h named
    → builder_view t ≡ with_next (builder_view b) h
adds_view b t h named keeps enough is adds =
    ap (λ (now : History). let built : Built = record { history = now; segments = t.posted.segments; taken = t.rows } in built)
    (follows_view (state_so_far b) (state_so_far t) (builder_view b).history (next b h) named refl keeps.state adds.currency (adds_follows b t h named keeps enough is adds))
    ∙ ap (λ segments. let built : Built = record { history = record { currency = b.currency; entries = entries b ++ next b h ∷ [] }; segments = segments; taken = t.rows } in built) adds.segments
    ∙ ap (λ n. let built : Built = record { history = record { currency = b.currency; entries = entries b ++ next b h ∷ [] }; segments = b.posted.segments; taken = n } in built) adds.rows
