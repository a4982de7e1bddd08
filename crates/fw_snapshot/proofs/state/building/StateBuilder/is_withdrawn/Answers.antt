use Rattle.std.proofs.Common.{◌∙◌, ◌<◌, not, length, ap, sym, arith}
use Rattle.std.proofs.lemmas.Option.{get_or_from_slice_get, slice_get_within}
use Rattle.fw_snapshot.specs.Building.{Built}
use Rattle.fw_snapshot.specs.BuilderView.{state_so_far}
use Rattle.fw_snapshot.specs.History.{is_withdrawn}
use Rattle.fw_snapshot.specs.Posts.{span_in}
use Rattle.fw_snapshot.specs.StateView.{state_entries}
use Rattle.fw_snapshot.proofs.BuilderFacts.{found_span, mark_there, not_not}
use Rattle.fw_snapshot.proofs.NamedFacts.{none_withdrawn}
use Rattle.fw_snapshot.proofs.state.building.StateBuilder.is_withdrawn.Goals as goal

pub index-requires : goal.index-requires
index-requires c =
    let b = c.self.inside in
    let span = c.in-Some.span in
    let stands = found_span b c.args.origin.now c.args.seq span c.self.invariant (sym c.span_of.ensures ∙ c.in-Some.is) in
    let within : span.start < length b.marks.items = slice_get_within b.marks.items span.start _ (mark_there b c.args.origin.now c.args.seq span c.self.invariant stands) in
    omega (arith, within, b.marks.ok.0)

pub returns-in-Some : goal.returns-in-Some
returns-in-Some c =
    let b = c.self.inside in
    let origin = c.args.origin.now in
    let seq = c.args.seq in
    let span = c.in-Some.span in
    let stands = found_span b origin seq span c.self.invariant (sym c.span_of.ensures ∙ c.in-Some.is) in
    let there = mark_there b origin seq span c.self.invariant stands in
    ap not (c.index.ensures ∙ get_or_from_slice_get b.marks.items span.start _ c.index.result.now there)
    ∙ not_not (is_withdrawn (state_entries (state_so_far b)) origin seq)
    ∙ ap (λ (v : Built). is_withdrawn v.history.entries origin seq) c.self.view_is

pub returns-in-None : goal.returns-in-None
returns-in-None c =
    let b = c.self.inside in
    let origin = c.args.origin.now in
    let seq = c.args.seq in
    let none = ap (λ spans. span_in spans seq) (sym (c.self.invariant.state.origins origin)) ∙ sym c.span_of.ensures ∙ c.in-None.is in
    sym (none_withdrawn (state_entries (state_so_far b)) origin seq c.self.invariant.state.legal c.self.invariant.state.each none)
    ∙ ap (λ (v : Built). is_withdrawn v.history.entries origin seq) c.self.view_is
