use Rattle.std.proofs.Common.{◌≡◌, ◌≤◌, refl, Bool, ◌+◌, ◌++◌, ◌∷◌, [], ℕ, List, length, take, drop, reverse, ap, sym, subst, ◌∙◌, length-append, arith}
use Rattle.std.proofs.lemmas.List.{length-drop, length-reverse, reverse-append, reverse-reverse}
use Rattle.fw_entry.specs.Entry.{EntryValue}
use Rattle.fw_snapshot.specs.History.{History}
use Rattle.fw_group.specs.declared.event.Event.{Event}
use Rattle.fw_group.specs.declared.event.EventAnswer.{EventAnswer}
use Rattle.fw_group.specs.declared.event.House.{House}
use Rattle.fw_group.specs.declared.event.House.TheVariants as house
use Rattle.fw_group.specs.declared.run.Desk.{Desk}
use Rattle.fw_group.specs.Items.{InboxState}
use Rattle.fw_group.specs.Limits.{Fits}
use Rattle.fw_group.specs.Runs.{empty_desk, start, HasRun}
use Rattle.fw_group.proofs.Desks.{none_fit, desk_acts, next_event, on_ok, on_err}
use Rattle.fw_group.proofs.Turned.{SoFar, begun, one_more, has_run, has_run_out}
use Rattle.fw_group.proofs.Posted.{posted_shown}
use Rattle.fw_group.proofs.run.run_events.Goals as goal

-- before the first event nothing waits, and nothing is in hand
nothing_yet : {V : Type 0} (house : House V) (published : History) (group : List EntryValue) (failed : Bool) (importers analysts : ℕ)
    → ((start house published group failed importers analysts).waiting ≡ []) × ((start house published group failed importers analysts).hand ≡ [])
nothing_yet (house.Open store) published group failed importers analysts = (refl, refl)
nothing_yet (house.Stopped volume) published group failed importers analysts = (refl, refl)

pub loop-event-init : goal.loop-event-init
loop-event-init g c =
    let all = reverse c.reverse.new.self.items in
    let none = c.new-answers.ensures.items in
    let desk : Desk = record { inbox = c.new.result; hand = c.new-2.result; importers = c.args.importers; analysts = c.args.analysts } in
    let empty : desk ≡ empty_desk c.args.importers c.args.analysts =
    (λ j. record { inbox = c.new.ensures j; hand = c.new-2.ensures j; importers = c.args.importers; analysts = c.args.analysts }) in
    record {
      run = λ told published group failed was.
          subst (λ (l : List EventAnswer). SoFar g.V.Volume.view c.args.house (start c.args.house published group failed c.args.importers c.args.analysts) (take (length l) all) l c.args.house desk) (sym none)
          (begun g.V.Volume.tells told g.V.Volume.view g.met.V.Volume.only_now g.met.V.Volume.counts_now (λ v. g.met.V.Volume.stays v told) c.args.house desk published group failed c.args.importers c.args.analysts empty was);
      desk = record { takes_items = ap (λ (i : InboxState). i.closed) c.new.ensures; fits = subst Fits (sym c.new-2.ensures) none_fit };
      within = omega (arith, ap (λ (l : List EventAnswer). length l) none);
      rest = ap (λ (l : List EventAnswer). drop (length l) all) none;
    }

pub loop-event-preserved : goal.loop-event-preserved
loop-event-preserved g c =
    let all = reverse c.reverse.new.self.items in
    let was = c.loop-event.invariant in
    let answers = c.loop-event.answers.items in
    let e = c.in-Some.event in
    let stepped = on_ok _ c.step-next.result.1 _ c.in_default-answered.is c.step-next.ensures.ok in
    let a = stepped.0 in
    let left : reverse c.loop-event.left.items ≡ e ∷ reverse c.pop.new.self.items = ap reverse c.in-Some.ensures.items ∙ reverse-append c.pop.new.self.items (e ∷ []) in
    let longer : length (answers ++ a ∷ []) ≡ length answers + 1 = length-append answers (a ∷ []) in
    let here : drop (length answers) all ≡ e ∷ reverse c.pop.new.self.items = was.rest ∙ left in
    let next = next_event all (length answers) (length (answers ++ a ∷ [])) e (reverse c.pop.new.self.items) longer here in
    record {
      run = λ told published group failed stands.
          let first = start c.args.house published group failed c.args.importers c.args.analysts in
          let more = one_more g.V.Volume.tells told g.V.Volume.view g.met.V.Volume.only_now g.met.V.Volume.counts_now (λ v. g.met.V.Volume.stays v told) c.args.house first (take (length answers) all) answers c.loop-event.house
          c.loop-event.desk e a c.step-next.result.0 c.step-next.new.desk (was.run told published group failed stands) stepped.1 in
          subst (λ (l : List EventAnswer). SoFar g.V.Volume.view c.args.house first (take (length l) all) l c.step-next.result.0 c.step-next.new.desk) (sym stepped.2)
          (subst (λ (es : List Event). SoFar g.V.Volume.view c.args.house first es (answers ++ a ∷ []) c.step-next.result.0 c.step-next.new.desk) (sym next.0) more);
      desk = desk_acts g.V.Volume.tells g.V.Volume.view c.loop-event.house c.loop-event.desk answers e a c.step-next.result.0 c.step-next.new.desk was.desk stepped.1;
      within = omega (arith, ap (λ (l : List EventAnswer). length l) stepped.2, longer, was.within, length-drop (length answers) all, ap (λ (l : List Event). length l) here);
      rest = ap (λ (l : List EventAnswer). drop (length l) all) stepped.2 ∙ next.1;
    }

pub returns-in-Err-clause-run : goal.returns-in-Err-clause-run
returns-in-Err-clause-run g c = λ told published group failed stands.
    let was = c.loop-event.invariant in
    let answers = c.loop-event.answers.items in
    let first = start c.args.house published group failed c.args.importers c.args.analysts in
    let same = ap reverse c.reverse.ensures.items ∙ reverse-reverse c.args.events.items in
    let refused = on_err _ c.step-next.result.1 _ c.in-Err.is c.step-next.ensures.refused in
    let run = has_run_out g.V.Volume.tells told g.V.Volume.view g.met.V.Volume.only_now g.met.V.Volume.counts_now (λ v. g.met.V.Volume.stays v told) c.args.house first (take (length answers) (reverse c.reverse.new.self.items)) answers
    c.loop-event.house c.loop-event.desk c.step-next.result.0 (was.run told published group failed stands) refused.0 in
    subst (λ (l : List EventAnswer). HasRun g.V.Volume.view c.args.house first (take (length l) c.args.events.items) l c.step-next.result.0) (sym refused.2)
    (subst (λ (es : List Event). HasRun g.V.Volume.view c.args.house first (take (length answers) es) answers c.step-next.result.0) same run)

pub returns-clause-run : goal.returns-clause-run
returns-clause-run g c = λ told published group failed stands.
    let was = c.loop-event.invariant in
    let answers = c.loop-event.answers.items in
    let first = start c.args.house published group failed c.args.importers c.args.analysts in
    let same = ap reverse c.reverse.ensures.items ∙ reverse-reverse c.args.events.items in
    let run = has_run g.V.Volume.tells told g.V.Volume.view g.met.V.Volume.only_now g.met.V.Volume.counts_now (λ v. g.met.V.Volume.stays v told) c.args.house first (take (length answers) (reverse c.reverse.new.self.items)) answers
    c.loop-event.house c.loop-event.desk (was.run told published group failed stands) in
    subst (λ (es : List Event). HasRun g.V.Volume.view c.args.house first (take (length answers) es) answers c.loop-event.house) same run

pub returns-clause-whole : goal.returns-clause-whole
returns-clause-whole g c = λ all.
    let was = c.loop-event.invariant in
    let same = ap reverse c.reverse.ensures.items ∙ reverse-reverse c.args.events.items in
    omega (
      arith,
      was.within,
      ap (λ (l : List Event). length l) was.rest,
      length-drop (length c.loop-event.answers.items) (reverse c.reverse.new.self.items),
      ap (λ (l : List Event). length l) same,
      length-reverse c.loop-event.left.items,
      c.in_default.ensures.cases,
    )

pub returns-in-Err-clause-shown : goal.returns-in-Err-clause-shown
returns-in-Err-clause-shown g c = λ told published group failed stands i j place receipt list later is shown.
    let answers = c.step-next.new.answers.items in
    let first = start c.args.house published group failed c.args.importers c.args.analysts in
    let has = returns-in-Err-clause-run g c told published group failed stands in
    let empty = nothing_yet c.args.house published group failed c.args.importers c.args.analysts in
    posted_shown g.V.Volume.view (take (length answers) c.args.events.items) c.args.house first has.last has.state answers has.run empty.0 empty.1 i j place receipt list later is shown

pub returns-clause-shown : goal.returns-clause-shown
returns-clause-shown g c = λ told published group failed stands i j place receipt list later is shown.
    let answers = c.loop-event.answers.items in
    let first = start c.args.house published group failed c.args.importers c.args.analysts in
    let has = returns-clause-run g c told published group failed stands in
    let empty = nothing_yet c.args.house published group failed c.args.importers c.args.analysts in
    posted_shown g.V.Volume.view (take (length answers) c.args.events.items) c.args.house first has.last has.state answers has.run empty.0 empty.1 i j place receipt list later is shown
