-- What readers take only grows.
use Rattle.std.proofs.Common.{◌≡◌, ◌≢◌, ℕ, [], ◌∷◌, refl, sym, subst, ⊎_elim}
use Rattle.std.specs.Prelude.{Option, Some, None, slice_set}
use mathlib.Core.Option.{some, some-ne-none}
use lib.ListN.{get_elem?}
use Rattle.logbook.specs.Pages.{Book}
use Rattle.crossbeam_utils.specs.Register.{Admits, TurnsAt}
use Rattle.atomic_table.proofs.Lists.{at_set, at_snoc}
use Rattle.fw_snapshot.specs.History.{History}
use Rattle.fw_group.specs.Laws.{Begins}
use Rattle.fw_threads.specs.Fronts.{Marked, HasTaken, BeginsWithAll, TakesNext}
use Rattle.fw_threads.proofs.Fronts.{begins_self, begins_trans}

-- what begins a front begins each later one
taken_later : (h k : History) (t : Option History) → HasTaken h t → Begins h k → HasTaken k t
taken_later h k None was up = was
taken_later h k (Some s) was up = begins_trans s h k was up

-- a thread that has taken none may come at any time
none_taken : (h : History) (t : Option History) → None ≡ t → HasTaken h t
none_taken h t none = subst (λ (s : Option History). HasTaken h s) none tt

pub admits : (fronts : Book) → Admits (BeginsWithAll fronts) None
admits fronts page taken shown = (shown.0, λ seat t at. ⊎_elim (shown.1 seat t) (none_taken page.front t) (at_snoc taken None t seat at))

-- at first no thread has taken any
pub shown_first : (fronts : Book) (page : Marked) → page.of ≡ fronts → BeginsWithAll fronts page (None ∷ [])
shown_first fronts page of = (of, λ seat t at. ⊎_elim (λ (no : get_elem? [] seat ≡ some t). absurd (some-ne-none t (sym no))) (none_taken page.front t) (at_snoc [] None t seat at))

-- a step to a front of the list that begins with what was shown
pub shows : (fronts : Book) (seat : ℕ) (old : Option History) (page next : Marked) → (page.of ≡ fronts → next.of ≡ fronts) → Begins page.front next.front
    → TurnsAt (BeginsWithAll fronts) seat old page next (TakesNext fronts)
shows fronts seat old page next of up taken shown at =
    let now : next.of ≡ fronts = of shown.0 in
    let here : HasTaken next.front old = taken_later page.front next.front old (shown.1 seat old at) up in
    let each : (j : ℕ) (t : Option History) → get_elem? (slice_set taken seat (Some next.front)) j ≡ some t → HasTaken next.front t =
    λ j t is. ⊎_elim (λ (w : (j ≡ seat) × (Some next.front ≡ t)). subst (λ (s : Option History). HasTaken next.front s) w.1 (begins_self next.front))
    (λ (w : (j ≢ seat) × (get_elem? taken j ≡ some t)). taken_later page.front next.front t (shown.1 j t w.1) up)
    (at_set taken seat j (Some next.front) t is) in
    (Some next.front, (now, each), (now, here, refl))

-- looking changes nothing
pub looks : (fronts : Book) (seat : ℕ) (old : Option History) (page : Marked) → TurnsAt (BeginsWithAll fronts) seat old page page (TakesNext fronts)
looks fronts seat old page = shows fronts seat old page page (λ of. of) (begins_self page.front)
