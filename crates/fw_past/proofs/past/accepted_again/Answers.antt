use Rattle.std.proofs.Common.{◌≡◌, ◌∙◌, ◌+◌, ℕ, List, true, take, drop, sym, ap, subst, arith}
use Rattle.std.specs.Prelude.{IsTrue}
use Rattle.fw_entry.specs.Entry.{EntryValue, is_origin}
use Rattle.fw_entry.specs.Spelling.{IsEntry}
use Rattle.fw_snapshot.specs.Building.{Built, next_entry, with_next}
use Rattle.fw_snapshot.specs.HeadView.{content_view}
use Rattle.fw_snapshot.specs.Heads.{HasRows, HeadValue, content_of, head_of, row_count}
use Rattle.fw_snapshot.specs.History.{History}
use Rattle.fw_snapshot.specs.Verdicts.{goes_behind}
use Rattle.fw_past.proofs.ReplayFacts.{HasHead, IsReplayed, StandsAt, all_replayed, goes, has_head, has_rows, keeps_limits, next_takes, replayed_more, same_head, stands_at}
use Rattle.fw_past.proofs.past.accepted_again.Goals as goal
use Rattle.fw_past.proofs.past.accepted_again.Goals.{After-seq}

-- the entry whose head stands at the place
found : (c : After-seq) → HasHead c.args.state.now.entries c.loop-place.place c.head-head.result.now
found c = has_head c.args.state.now.entries c.loop-place.place c.head-head.result.now (omega (arith, c.loop-place-test.true, c.requires.within)) c.head-head.ensures

stands : (c : After-seq) → StandsAt c.args.state.now.entries c.args.count c.loop-place.place (found c).e
stands c = stands_at c.args.state.now.entries c.args.count c.loop-place.place (found c).e c.loop-place-test.true (found c).there

limits : (c : After-seq) → IsEntry (found c).e
limits c = keeps_limits c.args.state.now.entries c.loop-place.place (found c).e (found c).there c.entries-entries.ensures.each

content_is : (c : After-seq) → content_view c.in_ok-content.content ≡ content_of (found c).e.command
content_is c = c.in_ok-content.ensures ∙ c.content.ensures ∙ ap (λ (h : HeadValue). h.content) (found c).head

origin_is : (c : After-seq) → c.origin.result.now ≡ (found c).e.origin
origin_is c = c.origin.ensures ∙ ap (λ (h : HeadValue). h.origin) (found c).head

seq_is : (c : After-seq) → c.seq.result ≡ (found c).e.seq
seq_is c = c.seq.ensures ∙ ap (λ (h : HeadValue). h.seq) (found c).head

pub add-requires-clause-origin : goal.add-requires-clause-origin
add-requires-clause-origin c =
    let at = (goal.at.add-requires-clause-origin c).After-seq in
    subst (λ (o : List ℕ). IsTrue (is_origin o)) (sym (origin_is at)) (limits at).origin

pub add-requires-clause-seq : goal.add-requires-clause-seq
add-requires-clause-seq c =
    let at = (goal.at.add-requires-clause-seq c).After-seq in
    omega (arith, seq_is at, (limits at).some_seq)

pub add-requires-clause-content : goal.add-requires-clause-content
add-requires-clause-content c =
    let at = (goal.at.add-requires-clause-content c).After-seq in
    subst HasRows (sym (content_is at)) (has_rows (found at).e.command (limits at).command)

pub add-requires-clause-enough : goal.add-requires-clause-enough
add-requires-clause-enough c =
    let at = (goal.at.add-requires-clause-enough c).After-seq in
    let takes = next_takes c.loop-place.builder c.args.state.now c.args.count c.loop-place.place (found at).e c.loop-place.invariant (stands at) in
    omega (arith, takes.enough, ap row_count (content_is at))

pub loop-place-preserved : goal.loop-place-preserved
loop-place-preserved c =
    let at = (goal.at.loop-place-preserved c).After-seq in
    let b = c.loop-place.builder in
    let h = c.args.state.now in
    let place = c.loop-place.place in
    let e = (found at).e in
    let takes = next_takes b h c.args.count place e c.loop-place.invariant (stands at) in
    let head = same_head (head_of e) c.origin.result.now c.seq.result (content_view c.in_ok-content.content) (origin_is at) (seq_is at) (content_is at) in
    let before : b.history.entries ≡ take place h.entries = ap (λ (x : History). x.entries) c.loop-place.invariant.history in
    let good = goes (take place h.entries) (drop (place + 1) h.entries) h.entries e c.entries-entries.ensures.valid (stands at).parted (limits at).size in
    let added : c.in_ok-_added._added ≡ true =
    c.in_ok-_added.ensures.answer
    ∙ ap (λ (x : HeadValue). goes_behind b.history.entries (next_entry b x)) head
    ∙ ap (λ (es : List EntryValue). goes_behind es (next_entry b (head_of e))) before
    ∙ ap (λ (x : EntryValue). goes_behind (take place h.entries) x) takes.entry
    ∙ good in
    let new : c.add.new.self ≡ with_next b (head_of e) = c.in_ok-_added.ensures.added added ∙ ap (with_next b) head in
    subst (λ (x : Built). IsReplayed x h c.args.count (place + 1)) (sym new) (replayed_more b h c.args.count place e c.loop-place.invariant (stands at))

pub finish-requires : goal.finish-requires
finish-requires c = all_replayed c.loop-place.builder c.args.state.now c.args.count c.loop-place.place c.loop-place.invariant (omega (arith, c.loop-place-test.false))
