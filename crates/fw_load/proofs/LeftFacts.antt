-- What a crash leaves beside a flusher, and behind a run of events.
use Rattle.std.proofs.Common.{◌≡◌, ◌⊎◌, inl, inr, ℕ, ◌≤◌, List, [], ◌∷◌, ◌++◌, length, Some, refl, ap, sym, subst, ◌∙◌, arith, length-append}
use Rattle.std.specs.Prelude.{Option, slice_get}
use Rattle.std.proofs.lemmas.Bool.{cases_eq}
use Rattle.fw_disk.specs.Volume.{Image, View}
use Rattle.fw_entry.specs.Entry.{EntryValue}
use Rattle.fw_group.proofs.Grown.{accepts, begins_both, grows, here_is, no_receipt_behind}
use Rattle.fw_group.specs.Laws.{Begins}
use Rattle.fw_group.specs.Runs.{HasRun, Runs, volume_of}
use Rattle.fw_group.specs.Steps.{State, receipt_at}
use Rattle.fw_group.specs.declared.answer.Receipt.{Receipt}
use Rattle.fw_group.specs.declared.event.Event.{Event}
use Rattle.fw_group.specs.declared.event.EventAnswer.{EventAnswer}
use Rattle.fw_group.specs.declared.event.House.{House}
use Rattle.fw_recover.specs.Stands.{StandsFor, StandsForEither}
use Rattle.fw_serve.proofs.LeftFacts.{left_group}
use Rattle.fw_serve.proofs.StopFacts.{opens_either}
use Rattle.fw_snapshot.specs.History.{History}
use Rattle.fw_snapshot.specs.Verdicts.{with_more}
use Rattle.fw_threads.proofs.Fronts.{begins_self}
use Rattle.fw_load.specs.Left.{IsLeftOf}

pub left_of : (held : History) (group : List EntryValue) (image : Image) → StandsForEither held group image → IsLeftOf held group image
left_of held group image left = record {
  opens = opens_either held group image left;
  none_or_all = λ found stands. (left_group held found group image left stands).0;
  whole = λ found stands. (left_group held found group image left stands).1;
  adds_up = λ found stands. (left_group held found group image left stands).2;
}

-- what began a warehouse begins it with a group too
begins_either : (h held found : History) (group : List EntryValue) → Begins h held → (found ≡ held) ⊎ (found ≡ with_more held group) → Begins h found
begins_either h held found group begins (inl same) = subst (λ (x : History). Begins h x) (sym same) begins
begins_either h held found group begins (inr more) = begins_both h held found begins (group, more)

module _ {V : Type 0} (view : V → View) where
  published_grows : (es : List Event) (h : House V) (s : State) (before : List EventAnswer) (k : House V) (t : State) (after : List EventAnswer) → Runs view h s before es k t after
      → Begins s.published t.published
  published_grows [] h s before k t after run = subst (λ (x : State). Begins s.published x.published) (sym run.1) (begins_self s.published)
  published_grows (e ∷ es) h s before k t after run =
      begins_both s.published run.1.published t.published (grows s before e run.2 run.1 run.3) (published_grows es run.0 run.1 (before ++ run.2 ∷ []) k t after run.7)

  -- what is published at the end begins with the front of each receipt
  accepted_kept : (es : List Event) (h : House V) (s : State) (before : List EventAnswer) (k : House V) (t : State) (after : List EventAnswer) → Runs view h s before es k t after
      → (i place : ℕ) (r : Receipt History) → length before ≤ i → receipt_at (slice_get after i) place ≡ Some r → Begins r.front t.published
  accepted_kept [] h s before k t after run i place r from is = absurd (no_receipt_behind before after i place r run.2 from is)
  accepted_kept (e ∷ es) h s before k t after run i place r from is = elim (cases_eq i (length before)) [
    | inl same ↦
        let at : receipt_at (Some run.2) place ≡ Some r = sym (ap (λ (o : Option EventAnswer). receipt_at o place) (ap (λ (n : ℕ). slice_get after n) same ∙ here_is view es run.0 run.1 before run.2 k t after run.7)) ∙ is in
        let there = accepts s before e run.2 run.1 place r run.3 at in
        subst (λ (x : History). Begins x t.published) (sym there.0) (published_grows es run.0 run.1 (before ++ run.2 ∷ []) k t after run.7)
    | inr other ↦ accepted_kept es run.0 run.1 (before ++ run.2 ∷ []) k t after run.7 i place r (omega (arith, from, other, length-append before (run.2 ∷ []))) is
  ]

  module _ (h : House V) (s : State) (es : List Event) (answers : List EventAnswer) (ended : House V) (run : HasRun view h s es answers ended) (image : Image)
      (may : (view (volume_of ended)).may_leave image) where
    pub run_left : IsLeftOf run.state.published run.state.group image
    run_left = left_of run.state.published run.state.group image (run.stands.each image may)

    pub run_held : (found : History) → StandsFor found image → Begins s.published found
    run_held found stands =
        begins_either s.published run.state.published found run.state.group (published_grows es h s [] run.last run.state answers run.run) (run_left.none_or_all found stands)

    pub run_accepted : (found : History) (event place : ℕ) (receipt : Receipt History) → StandsFor found image → receipt_at (slice_get answers event) place ≡ Some receipt → Begins receipt.front found
    run_accepted found event place receipt stands is =
        begins_either receipt.front run.state.published found run.state.group
        (accepted_kept es h s [] run.last run.state answers run.run event place receipt (omega arith) is) (run_left.none_or_all found stands)
