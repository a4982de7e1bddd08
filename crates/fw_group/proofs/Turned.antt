-- What the code of an event does is a step of the running system, and whatever a crash leaves stands for what it should.
use Rattle.std.proofs.Common.{◌≡◌, ◌⊎◌, inl, inr, ℕ, ◌≤◌, ◌<◌, ◌+◌, Bool, true, false, IsTrue, List, [], ◌∷◌, ◌++◌, length, take, drop, get_or, refl, sym, ap, subst, ◌∙◌, arith}
use Rattle.std.specs.Prelude.{Option, Some, None, IsSome, slice_get, slice_set, replicate}
use Rattle.std.proofs.lemmas.List.{length-set, length-replicate}
use Rattle.fw_disk.specs.declared.volume.Side.{Side}
use Rattle.fw_disk.specs.Volume.{Image, View, LeavesOnly, Calm}
use Rattle.fw_disk.proofs.Moments.{started, weakened}
use Rattle.fw_entry.specs.Entry.{EntryValue}
use Rattle.fw_snapshot.specs.History.{History}
use Rattle.fw_snapshot.specs.Verdicts.{accepted_of, with_more}
use Rattle.fw_recover.specs.declared.fault.StoreFault.TheVariants as fault
use Rattle.fw_recover.specs.Stands.{StandsFor, StandsForNone, StandsForEither, EachStandsFor}
use Rattle.fw_recover.specs.Corrupt.{CorruptAt}
use Rattle.fw_recover.specs.Store.{StoreState}
use Rattle.fw_recover.specs.Committing.{Committed}
use Rattle.fw_recover.specs.Checkpoints.{IsCheckpointed}
use Rattle.fw_recover.proofs.Places.{stands_one, stands_not_none, stands_not_corrupt}
use Rattle.fw_group.specs.declared.answer.Answer.{Answer}
use Rattle.fw_group.specs.declared.answer.Receipt.{Receipt}
use Rattle.fw_group.specs.declared.event.Event.{Event}
use Rattle.fw_group.specs.declared.event.Event.TheVariants as on
use Rattle.fw_group.specs.declared.event.EventAnswer.{EventAnswer}
use Rattle.fw_group.specs.declared.event.EventAnswer.TheVariants as said
use Rattle.fw_group.specs.declared.event.House.{House}
use Rattle.fw_group.specs.declared.event.House.TheVariants as house
use Rattle.fw_group.specs.declared.inbox.Item.{Item}
use Rattle.fw_group.specs.declared.run.Desk.{Desk}
use Rattle.fw_group.specs.Items.{entries_of}
use Rattle.fw_group.specs.Limits.{Fits}
use Rattle.fw_group.specs.Answers.{answers_on}
use Rattle.fw_group.specs.Steps.{State, Does, in_hand, longer, receipt_at}
use Rattle.fw_group.specs.Turns as turn
use Rattle.fw_group.specs.Turns.{IsDesk, Acts}
use Rattle.fw_group.specs.Runs.{state_of, volume_of, empty_desk, start, MayStand, Stands, Between, Led, Runs, HasRun}

stopped_not_open : true ≡ false → ⊥
stopped_not_open same = cc

some_of : {X : Type 0} (o : Option X) → IsSome o → (x : X) × (o ≡ Some x)
some_of None some = absurd (cc)
some_of (Some x) some = (x, refl)

module _ {V : Type 0} (view : V → View) where
  -- a step from one house to another, with all that isn't in the houses
  pub record Turned (h : House V) (s : State) (answers : List EventAnswer) (event : Event) (a : EventAnswer) (k : House V) (e : Desk) : Type 0 where
    pub published : History
    pub group : List EntryValue
    pub failed : Bool
    pub seen : List (List EntryValue)
    pub does : Does s answers event a (state_of k e published group failed seen)
    pub stands : Stands view k (state_of k e published group failed seen)
    pub between : Between view h s event k
    pub cause : Led view h s event a k (state_of k e published group failed seen)
    pub analysts : e.analysts ≡ length seen

  -- a run so far, with all that isn't in the house
  pub record SoFar (first : House V) (s : State) (es : List Event) (answers : List EventAnswer) (h : House V) (d : Desk) : Type 0 where
    pub published : History
    pub group : List EntryValue
    pub failed : Bool
    pub seen : List (List EntryValue)
    pub run : Runs view first s [] es h (state_of h d published group failed seen) answers
    pub stands : Stands view h (state_of h d published group failed seen)
    pub many : d.analysts ≡ length seen

module _ {V : Type 0} (tells : Bool) (told : IsTrue tells) (view : V → View)
    (only_now : (v : V) (c : Image) → (view v).left_since (view v).moment c → (view v).may_leave c)
    (counts_now : (v : V) (t : ℕ) (c : Image) → t ≤ (view v).moment → (view v).may_leave c → (view v).left_since t c)
    (stays : (v : V) → (view v).may_leave (view v).seen) where
  -- ---- an open house

  module _ (s : StoreState V) (d : Desk) (p : History) (g : List EntryValue) (f : Bool) (seen : List (List EntryValue)) (many : d.analysts ≡ length seen)
      (was : Stands view (house.Open s) (state_of (house.Open s) d p g f seen)) (answers : List EventAnswer) where
    abbrev old_state : State
    old_state = state_of (house.Open s) d p g f seen

    -- a store that is as it was
    same_stands : (t : StoreState V) (e : Desk) (more : List (List EntryValue)) → t ≡ s → Stands view (house.Open t) (state_of (house.Open t) e p g f more)
    same_stands t e more same = record {
      shows = (refl, refl, refl);
      each = subst (λ (x : StoreState V). (c : Image) → (view x.volume).may_leave c → StandsForEither x.history g c) (sym same) was.each;
    }

    still : (t : StoreState V) (P : Image → Type 0) → t ≡ s → ((c : Image) → (view s.volume).may_leave c → P c) → LeavesOnly (view s.volume) (view t.volume) P
    still t P same each = subst (λ (x : StoreState V). LeavesOnly (view s.volume) (view x.volume) P) (sym same) (started (view s.volume) P (λ c left. each c (only_now s.volume c left)))

    same_turn : (event : Event) (a : EventAnswer) (t : StoreState V) (e : Desk) (more : List (List EntryValue)) → Does old_state answers event a (state_of (house.Open t) e p g f more)
        → t ≡ s → Between view (house.Open s) old_state event (house.Open t) → Led view (house.Open s) old_state event a (house.Open t) (state_of (house.Open t) e p g f more)
        → e.analysts ≡ length more → Turned view (house.Open s) old_state answers event a (house.Open t) e
    same_turn event a t e more does same between cause fits = record {
      published = p;
      group = g;
      failed = f;
      seen = more;
      does = does;
      stands = same_stands t e more same;
      between = between;
      cause = cause;
      analysts = fits;
    }

    as_many : (e : Desk) → e ≡ d → e.analysts ≡ length seen
    as_many e same = ap (λ (x : Desk). x.analysts) same ∙ many

    -- nothing changes
    leaves : (t : StoreState V) (e : Desk) → t ≡ s → e ≡ d → state_of (house.Open t) e p g f seen ≡ old_state
    leaves t e same desk = λ j. state_of (house.Open (same j)) (desk j) p g f seen

    post_turn : (importer : ℕ) (entry : EntryValue) (a : EventAnswer) (t : StoreState V) (e : Desk) → turn.Posts d importer entry a e → t ≡ s
        → Turned view (house.Open s) old_state answers (on.Post importer entry) a (house.Open t) e
    post_turn importer entry said.Posted t e h same =
        same_turn (on.Post importer entry) said.Posted t e seen
        (record { runs = refl; one_of_them = h.0.0; none_waits = h.0.1; none_in_hand = h.0.2 }, (λ j. state_of (house.Open (same j)) (h.1 j) p g f seen))
        same (still t _ same was.each) (ap (λ (x : StoreState V). house.Open x) same) (ap (λ (x : Desk). x.analysts) h.1 ∙ many)
    post_turn importer entry said.Ignored t e h same =
        same_turn (on.Post importer entry) said.Ignored t e seen ((λ may. h.0 (may.one_of_them, may.none_waits, may.none_in_hand)), leaves t e same h.1) same (still t _ same was.each) (ap (λ (x : StoreState V). house.Open x) same) (as_many e h.1)
    post_turn importer entry (said.Took n) t e h same = absurd h
    post_turn importer entry (said.Committed answered) t e h same = absurd h
    post_turn importer entry said.Checkpointed t e h same = absurd h
    post_turn importer entry (said.Failed fault) t e h same = absurd h
    post_turn importer entry (said.Viewed found) t e h same = absurd h
    post_turn importer entry said.Learned t e h same = absurd h
    post_turn importer entry said.Stopped t e h same = absurd h
    post_turn importer entry (said.Reopened found) t e h same = absurd h

    take_turn : (a : EventAnswer) (t : StoreState V) (e : Desk) → turn.Takes d a e → t ≡ s → Turned view (house.Open s) old_state answers on.Take a (house.Open t) e
    take_turn (said.Took n) t e (inl h) same =
        same_turn on.Take (said.Took n) t e seen (refl, inl (h.0, h.1, (λ j. state_of (house.Open (same j)) (h.2 j) p g f seen))) same (still t _ same was.each) (ap (λ (x : StoreState V). house.Open x) same) (ap (λ (x : Desk). x.analysts) h.2 ∙ many)
    take_turn (said.Took n) t e (inr h) same =
        same_turn on.Take (said.Took n) t e seen (refl, inr (h.0, h.1, leaves t e same h.2)) same (still t _ same was.each) (ap (λ (x : StoreState V). house.Open x) same) (as_many e h.2)
    take_turn said.Posted t e h same = absurd h
    take_turn (said.Committed answered) t e h same = absurd h
    take_turn said.Checkpointed t e h same = absurd h
    take_turn (said.Failed fault) t e h same = absurd h
    take_turn (said.Viewed found) t e h same = absurd h
    take_turn said.Learned t e h same = absurd h
    take_turn said.Stopped t e h same = absurd h
    take_turn (said.Reopened found) t e h same = absurd h
    take_turn said.Ignored t e h same = absurd h

    view_turn : (analyst : ℕ) (a : EventAnswer) (t : StoreState V) (e : Desk) → turn.Views s.history d.analysts analyst a → t ≡ s → e ≡ d
        → Turned view (house.Open s) old_state answers (on.View analyst) a (house.Open t) e
    view_turn analyst (said.Viewed found) t e h same desk =
        let more = slice_set seen analyst s.history.entries in
        same_turn (on.View analyst) (said.Viewed found) t e more ((refl, omega (arith, h.0, many)), h.1, (λ j. state_of (house.Open (same j)) (desk j) p g f more)) same (still t _ same was.each) (ap (λ (x : StoreState V). house.Open x) same)
        (as_many e desk ∙ sym (length-set seen analyst s.history.entries))
    view_turn analyst said.Ignored t e h same desk =
        same_turn (on.View analyst) said.Ignored t e seen ((λ may. h (omega (arith, may.1, many))), leaves t e same desk) same (still t _ same was.each) (ap (λ (x : StoreState V). house.Open x) same) (as_many e desk)
    view_turn analyst said.Posted t e h same desk = absurd h
    view_turn analyst (said.Took n) t e h same desk = absurd h
    view_turn analyst (said.Committed answered) t e h same desk = absurd h
    view_turn analyst said.Checkpointed t e h same desk = absurd h
    view_turn analyst (said.Failed fault) t e h same desk = absurd h
    view_turn analyst said.Learned t e h same desk = absurd h
    view_turn analyst said.Stopped t e h same desk = absurd h
    view_turn analyst (said.Reopened found) t e h same desk = absurd h

    learn_turn : (analyst event place : ℕ) (a : EventAnswer) (t : StoreState V) (e : Desk) → turn.Learns answers d.analysts analyst event place a → t ≡ s → e ≡ d
        → Turned view (house.Open s) old_state answers (on.Learn analyst event place) a (house.Open t) e
    learn_turn analyst event place said.Learned t e h same desk =
        let found = some_of (receipt_at (slice_get answers event) place) h.1 in
        let more = slice_set seen analyst (longer (get_or seen analyst []) found.0.front.entries) in
        same_turn (on.Learn analyst event place) said.Learned t e more
        (record { may = (refl, omega (arith, h.0, many)); receipt = found.0; is = found.1 }, (λ j. state_of (house.Open (same j)) (desk j) p g f more)) same (still t _ same was.each) (ap (λ (x : StoreState V). house.Open x) same)
        (as_many e desk ∙ sym (length-set seen analyst (longer (get_or seen analyst []) found.0.front.entries)))
    learn_turn analyst event place said.Ignored t e h same desk =
        same_turn (on.Learn analyst event place) said.Ignored t e seen
        ((λ told_of. h (omega (arith, told_of.may.1, many), subst IsSome (sym told_of.is) refl)), leaves t e same desk) same (still t _ same was.each) (ap (λ (x : StoreState V). house.Open x) same) (as_many e desk)
    learn_turn analyst event place said.Posted t e h same desk = absurd h
    learn_turn analyst event place (said.Took n) t e h same desk = absurd h
    learn_turn analyst event place (said.Committed answered) t e h same desk = absurd h
    learn_turn analyst event place said.Checkpointed t e h same desk = absurd h
    learn_turn analyst event place (said.Failed fault) t e h same desk = absurd h
    learn_turn analyst event place (said.Viewed found) t e h same desk = absurd h
    learn_turn analyst event place said.Stopped t e h same desk = absurd h
    learn_turn analyst event place (said.Reopened found) t e h same desk = absurd h

    -- ---- commits

    abbrev more_of : List EntryValue
    more_of = accepted_of s.history.entries (entries_of d.hand)

    neither : (d.hand ≡ [] → ⊥) → s.failed ≡ false → (d.hand ≡ []) ⊎ (s.failed ≡ true) → ⊥
    neither some goes_on (inl none) = some none
    neither some goes_on (inr failed) = cc

    written : s.failed ≡ false → (c : Image) → StandsForEither s.history more_of c → MayStand old_state on.Commit c
    written goes_on c (inl stands) = inl (inl stands)
    written goes_on c (inr stands) = inr (goes_on, stands)

    commit_turn : (a : EventAnswer) (t : StoreState V) (e : Desk) → turn.Commits tells view s d.hand a t e.hand → e ≡ record d { hand = e.hand }
        → Turned view (house.Open s) old_state answers on.Commit a (house.Open t) e
    commit_turn (said.Committed answered) t e (none, inl h) desk =
        let stays_so : e ≡ d = desk ∙ (λ j. record d { hand = (none ∙ sym h.0) j }) in
        same_turn on.Commit (said.Committed answered) t e seen (refl, inl (h.0, h.1, leaves t e h.2 stays_so)) h.2 (still t _ h.2 (λ c left. inl (was.each c left)))
        (record {
          nothing = λ either. h.2;
          of_form = λ some. absurd (some h.0);
          done = λ some. absurd (some h.0);
          lost = λ goes_on fails. let same : t.failed ≡ s.failed = ap (λ (x : StoreState V). x.failed) h.2 in absurd (cc);
        })
        (as_many e stays_so)
    commit_turn (said.Committed answered) t e (none, inr (some, inl (inl h))) desk =
        let emptied : e ≡ record d { hand = [] } = desk ∙ (λ j. record d { hand = none j }) in
        let fails : t.failed ≡ s.failed = h.committed.failed ∙ sym h.committed.went_on in
        record {
          published = p;
          group = g;
          failed = f;
          seen = seen;
          does = (
            refl,
            inr (
              some,
              inl (
                h.committed.went_on,
                h.answered ∙ ap (λ (k : History). answers_on k s.history.entries (entries_of d.hand)) h.committed.history,
                (λ j. record {
                  waiting = (emptied j).inbox.waiting;
                  hand = (emptied j).hand;
                  published = h.committed.history j;
                  group = g;
                  failed = fails j;
                  stopped = false;
                  seen = seen;
                  importers = (emptied j).importers;
                }),
              ),
            ),
          );
          stands = record { shows = (refl, refl, refl); each = λ c left. inl (h.committed.each told c left) };
          between = weakened (view s.volume) (view t.volume) _ (MayStand old_state on.Commit) (h.moment told) (written h.committed.went_on);
          cause = record {
            nothing = λ either. absurd (neither some h.committed.went_on either);
            of_form = λ has goes_on. h.of_form;
            done = λ has goes_on went_on. subst (λ (b : Bool). Committed b view s t more_of) told h.committed;
            lost = λ goes_on fails. let stored = h.committed.failed in absurd (cc);
          };
          analysts = ap (λ (x : Desk). x.analysts) emptied ∙ many;
        }
    commit_turn (said.Committed answered) t e (none, inr (some, inl (inr h))) desk =
        let emptied : e ≡ record d { hand = [] } = desk ∙ (λ j. record d { hand = none j }) in
        let moment = h.moment told in
        record {
          published = p;
          group = more_of;
          failed = f;
          seen = seen;
          does = (
            refl,
            inr (
              some,
              inr (inl (
                h.went_on,
                h.answered,
                (λ j. record {
                  waiting = (emptied j).inbox.waiting;
                  hand = (emptied j).hand;
                  published = h.lost.history j;
                  group = more_of;
                  failed = h.lost.failed j;
                  stopped = false;
                  seen = seen;
                  importers = (emptied j).importers;
                }),
              )),
            ),
          );
          stands = record {
            shows = (refl, refl, refl);
            each = λ c left. subst (λ (k : History). StandsForEither k more_of c) (sym h.lost.history) (moment.each c (counts_now t.volume (view s.volume).moment c moment.later left));
          };
          between = weakened (view s.volume) (view t.volume) _ (MayStand old_state on.Commit) moment (written h.went_on);
          cause = record {
            nothing = λ either. absurd (neither some h.went_on either);
            of_form = λ has goes_on. h.of_form;
            done = λ has goes_on went_on. let lost = h.lost.failed in absurd (cc);
            lost = λ goes_on fails. (h.some, h.cause, h.lost);
          };
          analysts = ap (λ (x : Desk). x.analysts) emptied ∙ many;
        }
    commit_turn (said.Committed answered) t e (none, inr (some, inr h)) desk =
        let emptied : e ≡ record d { hand = [] } = desk ∙ (λ j. record d { hand = none j }) in
        same_turn on.Commit (said.Committed answered) t e seen
        (refl, inr (some, inr (inr (h.had_failed, h.answered, (λ j. state_of (house.Open (h.same j)) (emptied j) p g f seen))))) h.same (still t _ h.same (λ c left. inl (was.each c left)))
        (record {
          nothing = λ either. h.same;
          of_form = λ has goes_on. let had = h.had_failed in absurd (cc);
          done = λ has goes_on. let had = h.had_failed in absurd (cc);
          lost = λ goes_on. let had = h.had_failed in absurd (cc);
        })
        (ap (λ (x : Desk). x.analysts) emptied ∙ many)
    commit_turn (said.Failed fault.OldSide) t e h desk =
        let stays_so : e ≡ d = desk ∙ (λ j. record d { hand = h.4 j }) in
        same_turn on.Commit (said.Failed fault.OldSide) t e seen (refl, h.0, h.1, leaves t e h.3 stays_so) h.3 (still t _ h.3 (λ c left. inl (was.each c left))) (h.2, h.3) (as_many e stays_so)
    commit_turn (said.Failed fault.TooLarge) t e h desk =
        let stays_so : e ≡ d = desk ∙ (λ j. record d { hand = h.5 j }) in
        same_turn on.Commit (said.Failed fault.TooLarge) t e seen (refl, h.0, h.1, leaves t e h.4 stays_so) h.4 (still t _ h.4 (λ c left. inl (was.each c left))) (h.2, h.3, h.4) (as_many e stays_so)
    commit_turn said.Posted t e h desk = absurd h
    commit_turn (said.Took n) t e h desk = absurd h
    commit_turn said.Checkpointed t e h desk = absurd h
    commit_turn (said.Viewed found) t e h desk = absurd h
    commit_turn said.Learned t e h desk = absurd h
    commit_turn said.Stopped t e h desk = absurd h
    commit_turn (said.Reopened found) t e h desk = absurd h
    commit_turn said.Ignored t e h desk = absurd h
    commit_turn (said.Failed fault.NoHouse) t e h desk = absurd h
    commit_turn (said.Failed (fault.Corrupt side at)) t e h desk = absurd h
    commit_turn (said.Failed fault.Device) t e h desk = absurd h
    commit_turn (said.Failed fault.Failed) t e h desk = absurd h
    commit_turn (said.Failed fault.Generations) t e h desk = absurd h
    commit_turn (said.Failed fault.Exists) t e h desk = absurd h
    commit_turn (said.Failed fault.NoMemory) t e h desk = absurd h

    -- ---- checkpoints

    checkpoint_turn : (a : EventAnswer) (t : StoreState V) (e : Desk) → turn.Checkpoints tells view s a t → e ≡ d → Turned view (house.Open s) old_state answers on.Checkpoint a (house.Open t) e
    checkpoint_turn said.Checkpointed t e h desk =
        let fails : t.failed ≡ s.failed = h.1.failed ∙ sym h.0 in
        record {
          published = p;
          group = g;
          failed = f;
          seen = seen;
          does = (
            refl,
            h.0,
            (λ j. record {
              waiting = (desk j).inbox.waiting;
              hand = (desk j).hand;
              published = h.2 j;
              group = g;
              failed = fails j;
              stopped = false;
              seen = seen;
              importers = (desk j).importers;
            }),
          );
          stands = record { shows = (refl, refl, refl); each = λ c left. inl (subst (λ (k : History). StandsFor k c) (sym h.2) (h.3.each told c left)) };
          between = weakened (view s.volume) (view t.volume) _ _ (h.3.moment told) (λ c stands. inl stands);
          cause = (h.4, subst (λ (b : Bool). IsCheckpointed b view s t) told h.1);
          analysts = as_many e desk;
        }
    checkpoint_turn (said.Failed fault.Device) t e h desk =
        record {
          published = p;
          group = g;
          failed = f;
          seen = seen;
          does = (refl, h.0, (λ j. state_of (house.Open (h.1 j)) (desk j) p g f seen));
          stands = record { shows = (refl, refl, refl); each = λ c left. inl (subst (λ (x : StoreState V). StandsFor x.history c) (sym h.1) (h.3.each told c left)) };
          between = weakened (view s.volume) (view t.volume) _ _ (h.3.moment told) (λ c stands. inl stands);
          cause = (h.4, h.2, h.1);
          analysts = as_many e desk;
        }
    checkpoint_turn (said.Failed fault.Failed) t e h desk =
        same_turn on.Checkpoint (said.Failed fault.Failed) t e seen (refl, h.0, leaves t e h.1 desk) h.1 (still t _ h.1 was.each) (ap (λ (x : StoreState V). house.Open x) h.1) (as_many e desk)
    checkpoint_turn (said.Failed fault.Generations) t e h desk =
        same_turn on.Checkpoint (said.Failed fault.Generations) t e seen (refl, h.0, leaves t e h.2 desk) h.2 (still t _ h.2 was.each) (h.1, h.2) (as_many e desk)
    checkpoint_turn (said.Failed fault.TooLarge) t e h desk =
        same_turn on.Checkpoint (said.Failed fault.TooLarge) t e seen (refl, h.0, leaves t e h.2 desk) h.2 (still t _ h.2 was.each) (h.3, h.1, h.2) (as_many e desk)
    checkpoint_turn said.Posted t e h desk = absurd h
    checkpoint_turn (said.Took n) t e h desk = absurd h
    checkpoint_turn (said.Committed answered) t e h desk = absurd h
    checkpoint_turn (said.Viewed found) t e h desk = absurd h
    checkpoint_turn said.Learned t e h desk = absurd h
    checkpoint_turn said.Stopped t e h desk = absurd h
    checkpoint_turn (said.Reopened found) t e h desk = absurd h
    checkpoint_turn said.Ignored t e h desk = absurd h
    checkpoint_turn (said.Failed fault.NoHouse) t e h desk = absurd h
    checkpoint_turn (said.Failed (fault.Corrupt side at)) t e h desk = absurd h
    checkpoint_turn (said.Failed fault.Exists) t e h desk = absurd h
    checkpoint_turn (said.Failed fault.OldSide) t e h desk = absurd h
    checkpoint_turn (said.Failed fault.NoMemory) t e h desk = absurd h

    -- ---- stops

    stop_turn : (w : V) (e : Desk) → turn.IsStopped tells view s.volume w → e ≡ record d { inbox = record { waiting = []; closed = false }; hand = [] }
        → Turned view (house.Open s) old_state answers on.Stop said.Stopped (house.Stopped w) e
    stop_turn w e h desk = record {
      published = s.history;
      group = g;
      failed = s.failed;
      seen = seen;
      does = (refl, (λ j. state_of (house.Stopped w) (desk j) s.history g s.failed seen));
      stands = record {
        shows = refl;
        each = λ c left. subst (StandsForEither s.history g) (λ j side. sym (h.settled told c left side) j) (was.each (view w).seen (h.image told));
      };
      between = tt;
      cause = subst (λ (b : Bool). turn.IsStopped b view s.volume w) told h;
      analysts = ap (λ (x : Desk). x.analysts) desk ∙ many;
    }

    -- ---- each event

    pub open_turn : (event : Event) (a : EventAnswer) (k : House V) (e : Desk) → Acts tells view (house.Open s) d answers event a k e → Turned view (house.Open s) old_state answers event a k e
    open_turn (on.Post importer entry) a (house.Open t) e h = post_turn importer entry a t e h.0 h.1
    open_turn on.Take a (house.Open t) e h = take_turn a t e h.0 h.1
    open_turn on.Commit a (house.Open t) e h = commit_turn a t e h.0 h.1
    open_turn on.Checkpoint a (house.Open t) e h = checkpoint_turn a t e h.0 h.1
    open_turn (on.View analyst) a (house.Open t) e h = view_turn analyst a t e h.0 h.1 h.2
    open_turn (on.Learn analyst event place) a (house.Open t) e h = learn_turn analyst event place a t e h.0 h.1 h.2
    open_turn on.Stop a (house.Open t) e h = absurd h
    open_turn on.Reopen a (house.Open t) e h =
        subst (λ (b : EventAnswer). Turned view (house.Open s) old_state answers on.Reopen b (house.Open t) e) (sym h.0)
        (same_turn on.Reopen said.Ignored t e seen (refl, leaves t e h.1 h.2) h.1 (still t _ h.1 was.each) (ap (λ (x : StoreState V). house.Open x) h.1) (as_many e h.2))
    open_turn (on.Post importer entry) a (house.Stopped w) e h = absurd h
    open_turn on.Take a (house.Stopped w) e h = absurd h
    open_turn on.Commit a (house.Stopped w) e h = absurd h
    open_turn on.Checkpoint a (house.Stopped w) e h = absurd h
    open_turn (on.View analyst) a (house.Stopped w) e h = absurd h
    open_turn (on.Learn analyst event place) a (house.Stopped w) e h = absurd h
    open_turn on.Stop a (house.Stopped w) e h = subst (λ (b : EventAnswer). Turned view (house.Open s) old_state answers on.Stop b (house.Stopped w) e) (sym h.0) (stop_turn w e h.1 h.2)
    open_turn on.Reopen a (house.Stopped w) e h = absurd h

  -- ---- a stopped one

  module _ (v : V) (d : Desk) (p : History) (g : List EntryValue) (f : Bool) (seen : List (List EntryValue)) (many : d.analysts ≡ length seen)
      (was : Stands view (house.Stopped v) (state_of (house.Stopped v) d p g f seen)) (answers : List EventAnswer) where
    abbrev stopped_state : State
    stopped_state = state_of (house.Stopped v) d p g f seen

    stopped_still : (w : V) (P : Image → Type 0) → w ≡ v → ((c : Image) → (view v).may_leave c → P c) → LeavesOnly (view v) (view w) P
    stopped_still w P same each = subst (λ (x : V). LeavesOnly (view v) (view x) P) (sym same) (started (view v) P (λ c left. each c (only_now v c left)))

    ignored_turn : (event : Event) (w : V) (e : Desk) → ((u : State) → u ≡ stopped_state → Does stopped_state answers event said.Ignored u) → w ≡ v → e ≡ d
        → Between view (house.Stopped v) stopped_state event (house.Stopped w) → Led view (house.Stopped v) stopped_state event said.Ignored (house.Stopped w) (state_of (house.Stopped w) e p g f seen)
        → Turned view (house.Stopped v) stopped_state answers event said.Ignored (house.Stopped w) e
    ignored_turn event w e does same desk between cause = record {
      published = p;
      group = g;
      failed = f;
      seen = seen;
      does = does (state_of (house.Stopped w) e p g f seen) (λ j. state_of (house.Stopped (same j)) (desk j) p g f seen);
      stands = record {
        shows = refl;
        each = subst (λ (x : V). (c : Image) → (view x).may_leave c → StandsForEither p g c) (sym same) was.each;
      };
      between = between;
      cause = cause;
      analysts = ap (λ (x : Desk). x.analysts) desk ∙ many;
    }

    found_one : (h : History) → StandsFor h (view v).seen → (h ≡ p) ⊎ (h ≡ with_more p g)
    found_one h stands = elim (was.each (view v).seen (stays v)) [
      | inl one ↦ inl (stands_one (view v).seen h p stands one)
      | inr more ↦ inr (stands_one (view v).seen h (with_more p g) stands more)
    ]

    not_none : StandsForNone (view v).seen → ⊥
    not_none none = elim (was.each (view v).seen (stays v)) [
      | inl one ↦ stands_not_none (view v).seen p one none
      | inr more ↦ stands_not_none (view v).seen (with_more p g) more none
    ]

    not_corrupt : (side : Side) (at : ℕ) → CorruptAt (view v).seen side at → ⊥
    not_corrupt side at corrupt = elim (was.each (view v).seen (stays v)) [
      | inl one ↦ stands_not_corrupt (view v).seen p side at one corrupt
      | inr more ↦ stands_not_corrupt (view v).seen (with_more p g) side at more corrupt
    ]

    found_as : (h found : History) → found ≡ h → (h ≡ p) ⊎ (h ≡ with_more p g) → (found ≡ p) ⊎ (found ≡ with_more p g)
    found_as h found is (inl one) = inl (is ∙ one)
    found_as h found is (inr more) = inr (is ∙ more)

    reopen_turn : (a : EventAnswer) (k : House V) (e : Desk) → turn.Reopens tells view v a k → e ≡ d → Turned view (house.Stopped v) stopped_state answers on.Reopen a k e
    reopen_turn (said.Reopened found) (house.Open t) e h desk = record {
      published = p;
      group = [];
      failed = f;
      seen = seen;
      does = (
        refl,
        found_as t.history found h.1 (found_one t.history (h.2 told)),
        (λ j. record {
          waiting = (desk j).inbox.waiting;
          hand = (desk j).hand;
          published = sym h.1 j;
          group = [];
          failed = h.0 j;
          stopped = false;
          seen = seen;
          importers = (desk j).importers;
        }),
      );
      stands = record { shows = (refl, refl, refl); each = λ c left. inl (h.4 told c left) };
      between = weakened (view v) (view t.volume) _ _ (h.3 told).run was.each;
      cause = (subst (λ (k : History). StandsFor k (view v).seen) (sym h.1) (h.2 told), h.3 told);
      analysts = ap (λ (x : Desk). x.analysts) desk ∙ many;
    }
    reopen_turn (said.Reopened found) (house.Stopped w) e h desk = absurd h
    reopen_turn (said.Failed fault.NoHouse) (house.Stopped w) e h desk = absurd (not_none (h.0 told))
    reopen_turn (said.Failed fault.NoHouse) (house.Open t) e h desk = absurd h
    reopen_turn (said.Failed (fault.Corrupt side at)) (house.Stopped w) e h desk = absurd (not_corrupt side at (h.0 told))
    reopen_turn (said.Failed (fault.Corrupt side at)) (house.Open t) e h desk = absurd h
    reopen_turn (said.Failed fault.Device) (house.Stopped w) e h desk = record {
      published = p;
      group = g;
      failed = f;
      seen = seen;
      does = (refl, (λ j. state_of (house.Stopped w) (desk j) p g f seen));
      stands = record { shows = refl; each = λ c left. was.each c ((h.1 told).crash c left) };
      between = weakened (view v) (view w) _ _ (h.1 told).run was.each;
      cause = (h.0, h.1 told);
      analysts = ap (λ (x : Desk). x.analysts) desk ∙ many;
    }
    reopen_turn (said.Failed fault.Device) (house.Open t) e h desk = absurd h
    reopen_turn said.Posted k e h desk = absurd h
    reopen_turn (said.Took n) k e h desk = absurd h
    reopen_turn (said.Committed answered) k e h desk = absurd h
    reopen_turn said.Checkpointed k e h desk = absurd h
    reopen_turn (said.Viewed found) k e h desk = absurd h
    reopen_turn said.Learned k e h desk = absurd h
    reopen_turn said.Stopped k e h desk = absurd h
    reopen_turn said.Ignored k e h desk = absurd h
    reopen_turn (said.Failed fault.Failed) k e h desk = absurd h
    reopen_turn (said.Failed fault.Generations) k e h desk = absurd h
    reopen_turn (said.Failed fault.TooLarge) k e h desk = absurd h
    reopen_turn (said.Failed fault.Exists) k e h desk = absurd h
    reopen_turn (said.Failed fault.OldSide) k e h desk = absurd h
    reopen_turn (said.Failed fault.NoMemory) k e h desk = absurd h

    pub stopped_turn : (event : Event) (a : EventAnswer) (k : House V) (e : Desk) → Acts tells view (house.Stopped v) d answers event a k e → Turned view (house.Stopped v) stopped_state answers event a k e
    stopped_turn (on.Post importer entry) a (house.Stopped w) e h =
        subst (λ (b : EventAnswer). Turned view (house.Stopped v) stopped_state answers (on.Post importer entry) b (house.Stopped w) e) (sym h.0)
        (ignored_turn (on.Post importer entry) w e (λ u same. ((λ may. stopped_not_open may.runs), same)) h.1 h.2 (stopped_still w _ h.1 was.each) (ap (λ (x : V). house.Stopped x) h.1))
    stopped_turn (on.Post importer entry) a (house.Open t) e h = absurd h
    stopped_turn on.Take a (house.Stopped w) e h =
        subst (λ (b : EventAnswer). Turned view (house.Stopped v) stopped_state answers on.Take b (house.Stopped w) e) (sym h.0)
        (ignored_turn on.Take w e (λ u same. (refl, same)) h.1 h.2 (stopped_still w _ h.1 was.each) (ap (λ (x : V). house.Stopped x) h.1))
    stopped_turn on.Take a (house.Open t) e h = absurd h
    stopped_turn on.Commit a (house.Stopped w) e h =
        subst (λ (b : EventAnswer). Turned view (house.Stopped v) stopped_state answers on.Commit b (house.Stopped w) e) (sym h.0)
        (ignored_turn on.Commit w e (λ u same. (refl, same)) h.1 h.2 (stopped_still w _ h.1 (λ c left. inl (was.each c left))) (ap (λ (x : V). house.Stopped x) h.1))
    stopped_turn on.Commit a (house.Open t) e h = absurd h
    stopped_turn on.Checkpoint a (house.Stopped w) e h =
        subst (λ (b : EventAnswer). Turned view (house.Stopped v) stopped_state answers on.Checkpoint b (house.Stopped w) e) (sym h.0)
        (ignored_turn on.Checkpoint w e (λ u same. (refl, same)) h.1 h.2 (stopped_still w _ h.1 was.each) (ap (λ (x : V). house.Stopped x) h.1))
    stopped_turn on.Checkpoint a (house.Open t) e h = absurd h
    stopped_turn (on.View analyst) a (house.Stopped w) e h =
        subst (λ (b : EventAnswer). Turned view (house.Stopped v) stopped_state answers (on.View analyst) b (house.Stopped w) e) (sym h.0)
        (ignored_turn (on.View analyst) w e (λ u same. ((λ may. stopped_not_open may.0), same)) h.1 h.2 (stopped_still w _ h.1 was.each) (ap (λ (x : V). house.Stopped x) h.1))
    stopped_turn (on.View analyst) a (house.Open t) e h = absurd h
    stopped_turn (on.Learn analyst event place) a (house.Stopped w) e h =
        subst (λ (b : EventAnswer). Turned view (house.Stopped v) stopped_state answers (on.Learn analyst event place) b (house.Stopped w) e) (sym h.0)
        (ignored_turn (on.Learn analyst event place) w e (λ u same. ((λ told_of. stopped_not_open told_of.may.0), same)) h.1 h.2 (stopped_still w _ h.1 was.each) (ap (λ (x : V). house.Stopped x) h.1))
    stopped_turn (on.Learn analyst event place) a (house.Open t) e h = absurd h
    stopped_turn on.Stop a (house.Stopped w) e h =
        subst (λ (b : EventAnswer). Turned view (house.Stopped v) stopped_state answers on.Stop b (house.Stopped w) e) (sym h.0)
        (ignored_turn on.Stop w e (λ u same. (refl, same)) h.1 h.2 tt (ap (λ (x : V). house.Stopped x) h.1))
    stopped_turn on.Stop a (house.Open t) e h = absurd h
    stopped_turn on.Reopen a k e h = reopen_turn a k e h.0 h.1

  pub any_turn : (h : House V) (d : Desk) (p : History) (g : List EntryValue) (f : Bool) (seen : List (List EntryValue)) → d.analysts ≡ length seen → Stands view h (state_of h d p g f seen)
      → (answers : List EventAnswer) (event : Event) (a : EventAnswer) (k : House V) (e : Desk) → Acts tells view h d answers event a k e → Turned view h (state_of h d p g f seen) answers event a k e
  any_turn (house.Open s) d p g f seen many was answers event a k e acts = open_turn s d p g f seen many was answers event a k e acts
  any_turn (house.Stopped v) d p g f seen many was answers event a k e acts = stopped_turn v d p g f seen many was answers event a k e acts

  -- ---- runs

  runs_more : (es : List Event) (h : House V) (s : State) (before : List EventAnswer) (m : House V) (u : State) (after : List EventAnswer) (e : Event) (a : EventAnswer) (k : House V) (t : State)
      → Runs view h s before es m u after → Does u after e a t → Stands view k t → Between view m u e k → Led view m u e a k t → Runs view h s before (es ++ e ∷ []) k t (after ++ a ∷ [])
  runs_more [] h s before m u after e a k t run does stands between cause = (
    k,
    t,
    a,
    subst (λ (x : State). Does x before e a t) run.1 (subst (λ (x : List EventAnswer). Does u x e a t) run.2 does),
    stands,
    subst (λ (x : House V). Between view x s e k) run.0 (subst (λ (x : State). Between view m x e k) run.1 between),
    subst (λ (x : House V). Led view x s e a k t) run.0 (subst (λ (x : State). Led view m x e a k t) run.1 cause),
    (refl, refl, ap (λ (x : List EventAnswer). x ++ a ∷ []) run.2),
  )
  runs_more (f ∷ es) h s before m u after e a k t run does stands between cause =
      (run.0, run.1, run.2, run.3, run.4, run.5, run.6, runs_more es run.0 run.1 (before ++ run.2 ∷ []) m u after e a k t run.7 does stands between cause)

  begun_at : (h : House V) (p : History) (g : List EntryValue) (f : Bool) (importers analysts : ℕ) → Stands view h (start h p g f importers analysts)
      → SoFar view h (start h p g f importers analysts) [] [] h (empty_desk importers analysts)
  begun_at (house.Open s) p g f importers analysts was = record {
    published = p;
    group = g;
    failed = f;
    seen = replicate analysts s.history.entries;
    run = (refl, refl, refl);
    stands = was;
    many = sym (length-replicate analysts s.history.entries);
  }
  begun_at (house.Stopped v) p g f importers analysts was = record {
    published = p;
    group = g;
    failed = f;
    seen = replicate analysts p.entries;
    run = (refl, refl, refl);
    stands = was;
    many = sym (length-replicate analysts p.entries);
  }

  pub begun : (h : House V) (d : Desk) (p : History) (g : List EntryValue) (f : Bool) (importers analysts : ℕ) → d ≡ empty_desk importers analysts → Stands view h (start h p g f importers analysts)
      → SoFar view h (start h p g f importers analysts) [] [] h d
  begun h d p g f importers analysts empty was = subst (SoFar view h (start h p g f importers analysts) [] [] h) (sym empty) (begun_at h p g f importers analysts was)

  pub one_more : (first : House V) (s : State) (es : List Event) (answers : List EventAnswer) (h : House V) (d : Desk) (e : Event) (a : EventAnswer) (k : House V) (c : Desk)
      → SoFar view first s es answers h d → Acts tells view h d answers e a k c → SoFar view first s (es ++ e ∷ []) (answers ++ a ∷ []) k c
  one_more first s es answers h d e a k c so acts =
      let t = any_turn h d so.published so.group so.failed so.seen so.many so.stands answers e a k c acts in
      record {
        published = t.published;
        group = t.group;
        failed = t.failed;
        seen = t.seen;
        run = runs_more es first s [] h (state_of h d so.published so.group so.failed so.seen) answers e a k (state_of k c t.published t.group t.failed t.seen) so.run t.does t.stands t.between t.cause;
        stands = t.stands;
        many = t.analysts;
      }

  pub has_run : (first : House V) (s : State) (es : List Event) (answers : List EventAnswer) (h : House V) (d : Desk) → SoFar view first s es answers h d → HasRun view first s es answers h
  has_run first s es answers (house.Open t) d so = record {
    last = house.Open t;
    state = state_of (house.Open t) d so.published so.group so.failed so.seen;
    run = so.run;
    rests = refl;
    stands = so.stands;
    since = started (view t.volume) _ (λ c left. so.stands.each c (only_now t.volume c left));
  }
  has_run first s es answers (house.Stopped v) d so = record {
    last = house.Stopped v;
    state = state_of (house.Stopped v) d so.published so.group so.failed so.seen;
    run = so.run;
    rests = inl refl;
    stands = so.stands;
    since = started (view v) _ (λ c left. so.stands.each c (only_now v c left));
  }

  -- where memory ran out in the next event
  pub has_run_out : (first : House V) (s : State) (es : List Event) (answers : List EventAnswer) (h : House V) (d : Desk) (left : House V) → SoFar view first s es answers h d
      → turn.Stays tells view h left → HasRun view first s es answers left
  has_run_out first s es answers (house.Open t) d (house.Open u) so same =
      subst (λ (x : StoreState V). HasRun view first s es answers (house.Open x)) (sym same) (has_run first s es answers (house.Open t) d so)
  has_run_out first s es answers (house.Open t) d (house.Stopped w) so same = absurd same
  has_run_out first s es answers (house.Stopped v) d (house.Open u) so same = absurd same
  has_run_out first s es answers (house.Stopped v) d (house.Stopped w) so (inl same) =
      subst (λ (x : V). HasRun view first s es answers (house.Stopped x)) (sym same) (has_run first s es answers (house.Stopped v) d so)
  has_run_out first s es answers (house.Stopped v) d (house.Stopped w) so (inr calm) = record {
    last = house.Stopped v;
    state = state_of (house.Stopped v) d so.published so.group so.failed so.seen;
    run = so.run;
    rests = inr (λ _. calm told);
    stands = record { shows = refl; each = λ c left. so.stands.each c ((calm told).crash c left) };
    since = weakened (view v) (view w) _ _ (calm told).run so.stands.each;
  }
