-- Lemmas on what commands leave of a store.
use Rattle.std.proofs.Common.{◌≡◌, ◌∙◌, ℕ, ◌≤◌, List, [], ◌∷◌, ◌++◌, Bool, true, false, refl, sym, ap, subst, inl, inr, ⊎_elim, arith, append-nil, append_assoc, IsTrue}
use Rattle.fw_disk.specs.Volume.{Image, View, LeavesOnly, Rose}
use Rattle.fw_disk.proofs.Moments.{started, goes_through, weakened}
use Rattle.fw_entry.specs.Entry.{EntryValue}
use Rattle.fw_recover.specs.Committing.{Committed, Lost}
use Rattle.fw_recover.specs.Stands.{StandsFor, StandsForEither}
use Rattle.fw_recover.specs.Store.{StoreState, IsKept}
use Rattle.fw_recover.proofs.Standing.{no_more, stands_same}
use Rattle.fw_snapshot.specs.History.{History}
use Rattle.fw_snapshot.specs.Verdicts.{with_more, kept_by}
use Rattle.fw_snapshot.specs.declared.verdict.Verdict.{Verdict}
use Rattle.fw_snapshot.specs.declared.verdict.Verdict.TheVariants as verdict
use Rattle.fw_serve.specs.Standings.{Standing, standing_of, AreInFlight, Leads, LeavesInFlight, IsBetween, Steps, Moves}

-- a flag is set or not
pub by_flag : (P : Type 0) (flag : Bool) → (flag ≡ true → P) → (flag ≡ false → P) → P
by_flag P true set unset = set refl
by_flag P false set unset = unset refl

pub not_both : (flag : Bool) → flag ≡ true → flag ≡ false → ⊥
not_both true set unset = absurd (cc)
not_both false set unset = absurd (cc)

-- more entries and then more
pub more_twice : (h : History) (xs ys : List EntryValue) → with_more (with_more h xs) ys ≡ with_more h (xs ++ ys)
more_twice h xs ys = ap (λ (es : List EntryValue). record { currency = h.currency; entries = es }) (append_assoc h.entries xs ys)

-- ---- images between two warehouses

-- the files stand for the warehouse as it was before
pub between_none : (F : EntryValue → Type 0) (h : History) (after : Standing) (more : List EntryValue) (c : Image) → after.history ≡ with_more h more → StandsFor h c → IsBetween F h after c
between_none F h after more c grows stands = record { more = []; stands = subst (λ (g : History). StandsFor g c) (no_more h) stands; leads = inl (more, grows) }

-- the files stand for the warehouse as it is after
pub between_all : (F : EntryValue → Type 0) (h : History) (after : Standing) (more : List EntryValue) (c : Image) → after.history ≡ with_more h more → StandsFor (with_more h more) c → IsBetween F h after c
between_all F h after more c grows stands =
    record { more = more; stands = stands; leads = inl ([], grows ∙ ap (λ (es : List EntryValue). with_more h es) (sym (append-nil more))) }

-- after an entry that was judged came to a device that failed
pub between_lost : (F : EntryValue → Type 0) (h : History) (after : Standing) (v : Verdict) (e : EntryValue) (c : Image) → after.history ≡ h → after.failed ≡ true → F e
    → StandsForEither h (kept_by v e) c → IsBetween F h after c
between_lost F h after v e c same fails flies (inl stands) = between_none F h after [] c (same ∙ no_more h) stands
between_lost F h after verdict.Accept e c same fails flies (inr stands) =
    record { more = e ∷ []; stands = stands; leads = inr (fails, ([], e, flies, refl, same ∙ no_more h)) }
between_lost F h after (verdict.Already last) e c same fails flies (inr stands) = between_all F h after [] c (same ∙ no_more h) stands
between_lost F h after (verdict.Gap expected) e c same fails flies (inr stands) = between_all F h after [] c (same ∙ no_more h) stands
between_lost F h after (verdict.Refused why) e c same fails flies (inr stands) = between_all F h after [] c (same ∙ no_more h) stands

-- the store goes on from where it hasn't failed
leads_further : (F G : EntryValue → Type 0) (h : History) (xs : List EntryValue) (mid after : Standing) (more : List EntryValue) → mid.failed ≡ false → after.history ≡ with_more mid.history more
    → Leads F h xs mid → Leads G h xs after
leads_further F G h xs mid after more works grows (inl given) =
    let whole : after.history ≡ with_more h ((xs ++ given.0) ++ more) = grows ∙ ap (λ (g : History). with_more g more) given.1 ∙ more_twice h (xs ++ given.0) more in
    inl (given.0 ++ more, whole ∙ ap (λ (es : List EntryValue). with_more h es) (append_assoc xs given.0 more))
leads_further F G h xs mid after more works grows (inr given) = absurd (not_both _ given.0 works)

pub between_further : (F G : EntryValue → Type 0) (h : History) (mid after : Standing) (more : List EntryValue) (c : Image) → mid.failed ≡ false → after.history ≡ with_more mid.history more
    → IsBetween F h mid c → IsBetween G h after c
between_further F G h mid after more c works grows given =
    record { more = given.more; stands = given.stands; leads = leads_further F G h given.more mid after more works grows given.leads }

-- the store came from an earlier warehouse
leads_from : (F : EntryValue → Type 0) (h mid : History) (first xs : List EntryValue) (after : Standing) → mid ≡ with_more h first → Leads F mid xs after → Leads F h (first ++ xs) after
leads_from F h mid first xs after grew (inl given) =
    let whole : after.history ≡ with_more h (first ++ (xs ++ given.0)) = given.1 ∙ ap (λ (g : History). with_more g (xs ++ given.0)) grew ∙ more_twice h first (xs ++ given.0) in
    inl (given.0, whole ∙ ap (λ (es : List EntryValue). with_more h es) (sym (append_assoc first xs given.0)))
leads_from F h mid first xs after grew (inr given) =
    let (fails, (done, last, flies, is, grows)) = given in
    inr (
      fails,
      (
        first ++ done,
        last,
        flies,
        ap (λ (es : List EntryValue). first ++ es) is ∙ sym (append_assoc first done (last ∷ [])),
        grows ∙ ap (λ (g : History). with_more g done) grew ∙ more_twice h first done,
      ),
    )

pub between_from : (F : EntryValue → Type 0) (h mid : History) (first : List EntryValue) (after : Standing) (c : Image) → mid ≡ with_more h first → IsBetween F mid after c
    → IsBetween F h after c
between_from F h mid first after c grew given = record {
  more = first ++ given.more;
  stands = subst (λ (g : History). StandsFor g c) (ap (λ (g : History). with_more g given.more) grew ∙ more_twice h first given.more) given.stands;
  leads = leads_from F h mid first given.more after grew given.leads;
}

-- less is said of the entry in flight
leads_as : (F G : EntryValue → Type 0) (h : History) (xs : List EntryValue) (after : Standing) → ((e : EntryValue) → F e → G e) → Leads F h xs after → Leads G h xs after
leads_as F G h xs after weaker (inl given) = inl given
leads_as F G h xs after weaker (inr given) =
    let (fails, (done, last, flies, is, grows)) = given in
    inr (fails, (done, last, weaker last flies, is, grows))

pub between_as : (F G : EntryValue → Type 0) (h : History) (after : Standing) (c : Image) → ((e : EntryValue) → F e → G e) → IsBetween F h after c → IsBetween G h after c
between_as F G h after c weaker given = record { more = given.more; stands = given.stands; leads = leads_as F G h given.more after weaker given.leads }

pub flight_as : (F G : EntryValue → Type 0) (more : List EntryValue) → ((e : EntryValue) → F e → G e) → AreInFlight F more → AreInFlight G more
flight_as F G more weaker (inl none) = inl none
flight_as F G more weaker (inr one) = inr (one.0, one.1, weaker one.0 one.2)

Steps-as : {V : Type 0} (tells : Bool) (view : V → View) (F G : EntryValue → Type 0) (old new : StoreState V) → ((e : EntryValue) → F e → G e) → Steps tells view F old new → Steps tells view G old new
Steps-as tells view F G old new weaker steps = record {
  works = steps.works;
  more = steps.more;
  grows = steps.grows;
  any_moment = λ told.
      weakened (view old.volume) (view new.volume) (IsBetween F old.history (standing_of view new)) (IsBetween G old.history (standing_of view new)) (steps.any_moment told)
      (λ c. between_as F G old.history (standing_of view new) c weaker);
  once_failed = λ told fails. let left = steps.once_failed told fails in (left.0, flight_as F G left.0 weaker left.1, left.2);
  cause = steps.cause;
  later = steps.later;
}

pub Moves-as : {V : Type 0} (tells : Bool) (view : V → View) (F G : EntryValue → Type 0) (old new : StoreState V) → Moves tells view F old new → ((e : EntryValue) → F e → G e) → Moves tells view G old new
Moves-as tells view F G old new (inl same) weaker = inl same
Moves-as tells view F G old new (inr steps) weaker = inr (Steps-as tells view F G old new weaker steps)

-- ---- what commands leave

-- nothing was done
pub stands_still : {V : Type 0} (tells : Bool) (view : V → View) (F : EntryValue → Type 0) (s : StoreState V) → IsKept tells view s
    → ((c : Image) → (view s.volume).left_since (view s.volume).moment c → (view s.volume).may_leave c)
    → IsTrue tells → s.failed ≡ false → LeavesOnly (view s.volume) (view s.volume) (IsBetween F s.history (standing_of view s))
stands_still tells view F s kept only told works =
    let fresh = kept.fresh told works in
    started (view s.volume) (IsBetween F s.history (standing_of view s)) (λ c left.
    between_none F s.history (standing_of view s) [] c (no_more s.history)
    (stands_same s.history (view s.volume).seen c fresh.standing (λ side. fresh.settled side c (only c left))))

-- what commands left, at any moment
pub moved_at : {V : Type 0} (tells : Bool) (view : V → View) (F : EntryValue → Type 0) (old new : StoreState V) → IsKept tells view old
    → ((c : Image) → (view old.volume).left_since (view old.volume).moment c → (view old.volume).may_leave c) → Moves tells view F old new
    → IsTrue tells → old.failed ≡ false → LeavesOnly (view old.volume) (view new.volume) (IsBetween F old.history (standing_of view new))
moved_at tells view F old new kept only (inl same) told works =
    subst (λ (s : StoreState _). LeavesOnly (view old.volume) (view s.volume) (IsBetween F old.history (standing_of view s))) (sym same) (stands_still tells view F old kept only told works)
moved_at tells view F old new kept only (inr steps) told works = steps.any_moment told

-- what a store that failed in these commands has left
pub moved_failed : {V : Type 0} (tells : Bool) (view : V → View) (F : EntryValue → Type 0) (old new : StoreState V) → Moves tells view F old new
    → IsTrue tells → old.failed ≡ false → new.failed ≡ true → LeavesInFlight F new.history (view new.volume)
moved_failed tells view F old new (inl same) told works fails = absurd (not_both _ (sym (ap (λ (s : StoreState _). s.failed) same) ∙ fails) works)
moved_failed tells view F old new (inr steps) told works fails = steps.once_failed told fails

-- a store that had failed is as it was
pub failed_stays : {V : Type 0} (tells : Bool) (view : V → View) (F : EntryValue → Type 0) (old new : StoreState V) → Moves tells view F old new → old.failed ≡ true → new ≡ old
failed_stays tells view F old new (inl same) failed = same
failed_stays tells view F old new (inr steps) failed = absurd (not_both _ failed steps.works)

-- why a store has failed
pub moved_cause : {V : Type 0} (tells : Bool) (view : V → View) (F : EntryValue → Type 0) (old new : StoreState V) → Moves tells view F old new → old.failed ≡ false → new.failed ≡ true
    → Rose (view old.volume).failures (view new.volume).failures
moved_cause tells view F old new (inl same) works fails = absurd (not_both _ (sym (ap (λ (s : StoreState _). s.failed) same) ∙ fails) works)
moved_cause tells view F old new (inr steps) works fails = steps.cause fails

rose_later : (a b c : ℕ) → Rose a b → b ≤ c → Rose a c
rose_later a b c rose later = omega (arith, rose, later)

later_rose : (a b c : ℕ) → a ≤ b → Rose b c → Rose a c
later_rose a b c later rose = omega (arith, later, rose)

-- where commands were run, and then others
Steps-then : {V : Type 0} (tells : Bool) (view : V → View) (F G : EntryValue → Type 0) (a b c : StoreState V) → Steps tells view F a b → Steps tells view G b c → Steps tells view G a c
Steps-then tells view F G a b c first second = record {
  works = first.works;
  more = first.more ++ second.more;
  grows = second.grows ∙ ap (λ (h : History). with_more h second.more) first.grows ∙ more_twice a.history first.more second.more;
  any_moment = λ told.
      goes_through (view a.volume) (view b.volume) (view c.volume) (IsBetween G a.history (standing_of view c)) (IsBetween G b.history (standing_of view c))
      (weakened (view a.volume) (view b.volume) (IsBetween F a.history (standing_of view b)) (IsBetween G a.history (standing_of view c)) (first.any_moment told)
      (λ image. between_further F G a.history (standing_of view b) (standing_of view c) second.more image second.works second.grows))
      (second.any_moment told)
      (λ image. between_from G a.history b.history first.more (standing_of view c) image first.grows);
  once_failed = second.once_failed;
  cause = λ fails. later_rose (view a.volume).failures (view b.volume).failures (view c.volume).failures first.later (second.cause fails);
  later = omega (arith, first.later, second.later);
}

-- the entry in flight is one of the later commands, or, where they left the store as it was, of the earlier ones
pub Moves-then : {V : Type 0} (tells : Bool) (view : V → View) (F G H : EntryValue → Type 0) (a b c : StoreState V) → Moves tells view F a b → Moves tells view G b c
    → (c ≡ b → (e : EntryValue) → F e → H e) → ((e : EntryValue) → G e → H e) → Moves tells view H a c
Moves-then tells view F G H a b c (inl same) second further later =
    subst (λ (s : StoreState _). Moves tells view H s c) same (Moves-as tells view G H b c second later)
Moves-then tells view F G H a b c (inr first) (inl same) further later =
    inr (subst (λ (s : StoreState _). Steps tells view H a s) (sym same) (Steps-as tells view F H a b (further same) first))
Moves-then tells view F G H a b c (inr first) (inr second) further later = inr (Steps-then tells view F H a b c first (Steps-as tells view G H b c later second))

-- an entry was committed: it was accepted and is on the volume, or nothing was done
pub Moves-committed : {V : Type 0} (tells : Bool) (view : V → View) (F : EntryValue → Type 0) (old new : StoreState V) (accepted : List EntryValue) → old.failed ≡ false
    → Committed tells view old new accepted
    → (IsTrue tells → old.failed ≡ false → LeavesOnly (view old.volume) (view new.volume) (StandsForEither old.history accepted))
    → (view old.volume).failures ≤ (view new.volume).failures → Moves tells view F old new
Moves-committed tells view F old new accepted works done run later = inr (record {
  works = works;
  more = accepted;
  grows = done.history;
  any_moment = λ told. weakened (view old.volume) (view new.volume) (StandsForEither old.history accepted) (IsBetween F old.history (standing_of view new)) (run told works)
      (λ c either. ⊎_elim (between_none F old.history (standing_of view new) accepted c done.history) (between_all F old.history (standing_of view new) accepted c done.history) either);
  once_failed = λ told fails. absurd (not_both _ fails done.failed);
  cause = λ fails. absurd (not_both _ fails done.failed);
  later = later;
})

-- an image of now is one of those since an earlier moment
abbrev pub CountsNow : View → Type 0
CountsNow v = (t : ℕ) (c : Image) → t ≤ v.moment → v.may_leave c → v.left_since t c

-- the device failed while an entry was committed
kept_one : (v : Verdict) (e : EntryValue) → v ≡ verdict.Accept → kept_by v e ≡ e ∷ []
kept_one v e is = ap (λ (w : Verdict). kept_by w e) is

pub Moves-lost : {V : Type 0} (tells : Bool) (view : V → View) (F : EntryValue → Type 0) (old new : StoreState V) (v : Verdict) (e : EntryValue) → old.failed ≡ false → Lost old new
    → v ≡ verdict.Accept → F e → CountsNow (view new.volume)
    → (IsTrue tells → old.failed ≡ false → LeavesOnly (view old.volume) (view new.volume) (StandsForEither old.history (kept_by v e)))
    → Rose (view old.volume).failures (view new.volume).failures → (view old.volume).failures ≤ (view new.volume).failures → Moves tells view F old new
Moves-lost tells view F old new v e works lost accepted flies counts run rose later = inr (record {
  works = works;
  more = [];
  grows = lost.history ∙ no_more old.history;
  any_moment = λ told. weakened (view old.volume) (view new.volume) (StandsForEither old.history (kept_by v e)) (IsBetween F old.history (standing_of view new)) (run told works)
      (λ c. between_lost F old.history (standing_of view new) v e c lost.history lost.failed flies);
  once_failed = λ told fails. (
    kept_by v e,
    inr (e, kept_one v e accepted, flies),
    λ c now.
        subst (λ (h : History). StandsForEither h (kept_by v e) c) (sym lost.history)
        ((run told works).each c (counts (view old.volume).moment c (run told works).later now)),
  );
  cause = λ _. rose;
  later = later;
})

-- a checkpoint was made, or the device failed in it
pub Moves-checkpoint : {V : Type 0} (tells : Bool) (view : V → View) (F : EntryValue → Type 0) (old new : StoreState V) → old.failed ≡ false → new.history ≡ old.history → CountsNow (view new.volume)
    → (IsTrue tells → old.failed ≡ false → LeavesOnly (view old.volume) (view new.volume) (StandsFor old.history))
    → (new.failed ≡ true → Rose (view old.volume).failures (view new.volume).failures)
    → (view old.volume).failures ≤ (view new.volume).failures → Moves tells view F old new
Moves-checkpoint tells view F old new works same counts run rose later = inr (record {
  works = works;
  more = [];
  grows = same ∙ no_more old.history;
  any_moment = λ told. weakened (view old.volume) (view new.volume) (StandsFor old.history) (IsBetween F old.history (standing_of view new)) (run told works)
      (λ c. between_none F old.history (standing_of view new) [] c (same ∙ no_more old.history));
  once_failed = λ told fails. (
    [],
    inl refl,
    λ c now.
        inl (subst (λ (h : History). StandsFor h c) (sym same) ((run told works).each c (counts (view old.volume).moment c (run told works).later now))),
  );
  cause = rose;
  later = later;
})
