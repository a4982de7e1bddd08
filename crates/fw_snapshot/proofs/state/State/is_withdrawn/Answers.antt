use Rattle.std.proofs.Common.{◌≡◌, ◌∙◌, ◌<◌, Bool, true, false, List, ℕ, ap, sym, subst, refl, length, Some, slice_get}
use Rattle.std.specs.Prelude.{not}
use Rattle.std.proofs.lemmas.Option.{slice_get_within, same_Some}
use Rattle.fw_entry.specs.Entry.{EntryValue}
use Rattle.fw_snapshot.specs.History.{is_withdrawn}
use Rattle.fw_snapshot.specs.Judging.{IsLegal}
use Rattle.fw_snapshot.specs.Posts.{span_in, spans_from, counts_of}
use Rattle.fw_snapshot.specs.StateView.{state_entries}
use Rattle.fw_snapshot.specs.declared.posts.Span.{Span}
use Rattle.fw_snapshot.proofs.NamedFacts.{found_post, none_withdrawn}
use Rattle.fw_snapshot.proofs.WithdrawnFacts.{stays_at}
use Rattle.fw_snapshot.proofs.state.State.is_withdrawn.Goals as goal

-- the mark of the first row of a post that is found
mark : (es : List EntryValue) (origin : List ℕ) (seq : ℕ) (span : Span) → IsLegal es → span_in (spans_from 0 origin es) seq ≡ Some span → slice_get (counts_of es) span.start ≡ Some (not (is_withdrawn es origin seq))
mark es origin seq span legal is = stays_at es origin seq span (found_post es origin seq span legal is)

twice : (b : Bool) → not (not b) ≡ b
twice true = refl
twice false = refl

pub counts-requires : goal.counts-requires
counts-requires c =
    let es = state_entries c.self.inside in
    let origin = c.args.origin.now in
    let found : span_in (spans_from 0 origin es) c.args.seq ≡ Some c.in-Some.span = sym (c.span_of.ensures ∙ ap (λ spans. span_in spans c.args.seq) (c.self.invariant.origins origin)) ∙ c.in-Some.is in
    let within = slice_get_within (counts_of es) c.in-Some.span.start _ (mark es origin c.args.seq c.in-Some.span c.self.invariant.legal found) in
    subst (λ (counts : List Bool). c.in-Some.span.start < length counts) (sym c.self.invariant.counts) within

pub returns-in-Some : goal.returns-in-Some
returns-in-Some c =
    let es = state_entries c.self.inside in
    let origin = c.args.origin.now in
    let found : span_in (spans_from 0 origin es) c.args.seq ≡ Some c.in-Some.span = sym (c.span_of.ensures ∙ ap (λ spans. span_in spans c.args.seq) (c.self.invariant.origins origin)) ∙ c.in-Some.is in
    let stays = mark es origin c.args.seq c.in-Some.span c.self.invariant.legal found in
    let said = sym c.counts.ensures ∙ ap (λ (counts : List Bool). slice_get counts c.in-Some.span.start) c.self.invariant.counts ∙ stays in
    ap not (same_Some _ _ said) ∙ twice (is_withdrawn es origin c.args.seq) ∙ ap (λ h. is_withdrawn h.entries origin c.args.seq) c.self.view_is

pub returns-in-None : goal.returns-in-None
returns-in-None c =
    let es = state_entries c.self.inside in
    let origin = c.args.origin.now in
    let none = sym (c.span_of.ensures ∙ ap (λ spans. span_in spans c.args.seq) (c.self.invariant.origins origin)) ∙ c.in-None.is in
    sym (none_withdrawn es origin c.args.seq c.self.invariant.legal c.self.invariant.each none) ∙ ap (λ h. is_withdrawn h.entries origin c.args.seq) c.self.view_is
