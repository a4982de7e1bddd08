use Rattle.std.proofs.Common.{◌≡◌, ◌∙◌, ◌+◌, ◌++◌, ◌∷◌, ◌≤◌, [], IfSome, if◌then◌else◌, length, take, sym, ap, subst, refl, arith}
use Rattle.std.specs.Str.{bytes_eq}
use Rattle.fw_entry.specs.Entry.{EntryValue}
use Rattle.fw_entry.specs.Spelling.{IsCommand, IsEntry}
use Rattle.fw_persistent.specs.Counts.{count_of}
use Rattle.fw_posted.specs.Rows.{segment_rows}
use Rattle.fw_snapshot.specs.Building.{Built, left_rows, next_entry, rows_before, with_next, IsInside}
use Rattle.fw_snapshot.specs.BuilderView.{builder_view, state_so_far}
use Rattle.fw_snapshot.specs.Heads.{HeadValue, command_of, row_count}
use Rattle.fw_snapshot.specs.HeadView.{content_view}
use Rattle.fw_snapshot.specs.Judging.{carries, judged}
use Rattle.fw_snapshot.specs.Posts.{named_in, spans_at, IsNamed}
use Rattle.fw_snapshot.specs.StateView.{state_entries}
use Rattle.fw_snapshot.specs.Uses.{posts_with}
use Rattle.fw_snapshot.specs.declared.posts.Span.{Span}
use Rattle.fw_snapshot.specs.declared.state.building.StateBuilder.TheInside.{Inside}
use Rattle.fw_snapshot.specs.declared.verdict.Verdict.TheVariants as verdict
use Rattle.fw_snapshot.proofs.AddingToBuilder.{adds_keeps, adds_view, next_accepted, next_refuses, Adds}
use Rattle.fw_snapshot.proofs.BuilderFacts.{is_named, named_inside}
use Rattle.fw_snapshot.proofs.BuildingFacts.{short_origin}
use Rattle.fw_snapshot.proofs.NamedFacts.{named_few, named_some}
use Rattle.fw_snapshot.proofs.state.building.StateBuilder.add.Goals as goal
use Rattle.fw_snapshot.proofs.state.building.StateBuilder.add.Goals.{After-rows-rows, After-take_away}

pub accepts-requires-clause-origin : goal.accepts-requires-clause-origin
accepts-requires-clause-origin c = short_origin c.args.origin.now c.requires.origin

-- ---- the entry that is added, and the post that it withdraws

abbrev head : (c : After-rows-rows) → HeadValue
head c = record { origin = c.args.origin.now; seq = c.args.seq; content = content_view c.args.content }

abbrev added : (c : After-rows-rows) → EntryValue
added c = next_entry (builder_view c.self.inside) (head c)

accepted : (c : After-rows-rows) → judged (state_entries (state_so_far c.self.inside)) (added c) ≡ verdict.Accept
accepted c = (next_accepted c.self.inside c.args.self.now (head c) c.self.view_is (sym c.if-not-accepts.ensures)).1

named : (c : After-rows-rows) → IsNamed (state_entries (state_so_far c.self.inside)) c.args.origin.now (added c).command c.span_named-named.result
named c =
    is_named c.self.inside (head c) c.span_named-named.result c.self.invariant (accepted c)
    (c.span_named-named.ensures ∙ ap (named_in (spans_at c.args.origin.now c.self.inside.parts.origins)) c.target.ensures)

inside : (c : After-rows-rows) → IfSome c.span_named-named.result (λ span. span.start + span.rows ≤ length (segment_rows c.self.inside.posted.segments))
inside c = named_inside c.self.inside (added c) c.span_named-named.result c.self.invariant (named c)

pub after-requires-clause-commitments : goal.after-requires-clause-commitments
after-requires-clause-commitments c =
    let at = (goal.at.after-requires-clause-commitments c).After-rows-rows in
    next_refuses c.self.inside (head at) c.self.invariant (accepted at)

pub after-requires-clause-within : goal.after-requires-clause-within
after-requires-clause-within c = inside (goal.at.after-requires-clause-within c).After-rows-rows

pub after-requires-clause-some : goal.after-requires-clause-some
after-requires-clause-some c =
    let at = (goal.at.after-requires-clause-some c).After-rows-rows in
    named_some (state_entries (state_so_far c.self.inside)) (added at) c.span_named-named.result (named at)

pub after-requires-clause-few : goal.after-requires-clause-few
after-requires-clause-few c =
    let at = (goal.at.after-requires-clause-few c).After-rows-rows in
    named_few (state_entries (state_so_far c.self.inside)) (added at) c.span_named-named.result c.self.invariant.state.each (named at)

pub take_away-requires : goal.take_away-requires
take_away-requires c =
    let at = (goal.at.take_away-requires c).After-rows-rows in
    subst (λ n. IfSome c.span_named-named.result (λ span. span.start + span.rows ≤ n)) (sym c.self.invariant.marks) (inside at)

-- ---- the builder that is made

enough : (c : After-rows-rows) → row_count (content_view c.args.content) ≤ length (left_rows (builder_view c.self.inside))
enough c = subst (λ (v : Built). row_count (content_view c.args.content) ≤ length (left_rows v)) (sym c.self.view_is) c.requires.enough

is_entry : (c : After-rows-rows) → IsEntry (added c)
is_entry c = record {
  origin = c.requires.origin;
  some_seq = c.requires.seq;
  seq = omega (arith, c.ranges.seq.fits);
  command = subst (λ (v : Built). IsCommand (command_of (content_view c.args.content) (take (row_count (content_view c.args.content)) (left_rows v)))) (sym c.self.view_is) c.in_ok-brought.ensures.valid;
  size = (next_accepted c.self.inside c.args.self.now (head c) c.self.view_is (sym c.if-not-accepts.ensures)).0;
}

abbrev made : (c : After-take_away) → Inside
made c = record {
  alloc = c.self.inside.alloc;
  currency = c.self.inside.currency;
  parts = c.in_ok-parts.parts;
  carried = c.in_ok-brought.brought.carried;
  posted = c.self.inside.posted;
  marks = c.take_away.new.marks;
  place = c.in_ok-brought.brought.place;
  rows = c.self.inside.rows + c.rows-rows.result;
}

adds : (c : After-take_away) → Adds c.self.inside (made c) (record { origin = c.args.origin.now; seq = c.args.seq; content = content_view c.args.content }) c.span_named-named.result
adds c =
    let b = c.self.inside in
    let origin = c.args.origin.now in
    let count = row_count (content_view c.args.content) in
    record {
      currency = refl;
      segments = refl;
      heads = c.in_ok-parts.ensures.heads;
      commitments = c.in_ok-parts.ensures.commitments;
      policy = c.in_ok-parts.ensures.policy;
      origins = λ other.
          c.in_ok-parts.ensures.origins other
          ∙ ap (λ n. spans_at other b.parts.origins ++ (if bytes_eq other origin then (let span : Span = record { start = b.rows; rows = n } in span) ∷ [] else [])) c.rows-rows.ensures;
      registered = c.in_ok-parts.ensures.registered;
      carried = λ id.
          subst (λ (v : Built). count_of id c.in_ok-brought.brought.carried ≡ posts_with id v.history.entries + (if carries id (take count (left_rows v)) then 1 else 0)) (sym c.self.view_is) (c.in_ok-brought.ensures.carried id)
          ∙ ap (λ n. n + (if carries id (take count (left_rows (builder_view b))) then 1 else 0)) (sym (c.self.invariant.state.carried id));
      withdrawn = c.in_ok-parts.ensures.withdrawn;
      marks = c.take_away.ensures;
      rows = ap (λ n. b.rows + n) c.rows-rows.ensures;
      place = subst (λ (v : Built). rows_before v.segments c.in_ok-brought.brought.place ≡ v.taken + count) (sym c.self.view_is) c.in_ok-brought.ensures.place ∙ ap (λ n. b.rows + n) (sym c.rows-rows.ensures);
      inside = subst (λ (v : Built). IsInside v.segments c.in_ok-brought.brought.place) (sym c.self.view_is) c.in_ok-brought.ensures.inside;
    }

pub invariant_of-self : goal.invariant_of-self
invariant_of-self c =
    let at = (goal.at.invariant_of-self c).After-rows-rows in
    let last = (goal.at.invariant_of-self c).After-take_away in
    adds_keeps c.self.inside (made last) (head at) c.span_named-named.result c.self.invariant (enough at) (accepted at) (is_entry at) (named at) (adds last)

pub returns-clause-added : goal.returns-clause-added
returns-clause-added c was =
    let at = (goal.at.returns-clause-added c).After-rows-rows in
    let last = (goal.at.returns-clause-added c).After-take_away in
    adds_view c.self.inside (made last) (head at) c.span_named-named.result c.self.invariant (enough at) (named at) (adds last)
    ∙ ap (λ (v : Built). with_next v (head at)) c.self.view_is
