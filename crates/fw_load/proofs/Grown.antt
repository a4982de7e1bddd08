-- What commits do to a store, as a load sees it.
use Rattle.std.proofs.Common.{◌≡◌, ◌⊎◌, inl, inr, Bool, ℕ, Option, None, Some, refl, ap, sym, subst, ◌∙◌}
use Rattle.std.specs.Prelude.{IsTrue, List}
use Rattle.fw_disk.specs.Volume.{Image, View, LeavesOnly}
use Rattle.fw_disk.proofs.Moments.{goes_through, weakened}
use Rattle.fw_entry.specs.Entry.{EntryValue}
use Rattle.fw_snapshot.specs.History.{History}
use Rattle.fw_snapshot.specs.Verdicts.{with_more}
use Rattle.fw_recover.specs.Stands.{StandsForEither}
use Rattle.fw_recover.specs.Store.{StoreState}
use Rattle.fw_recover.specs.declared.fault.StoreFault.{StoreFault}
use Rattle.fw_recover.specs.declared.fault.StoreFault.TheVariants as fault
use Rattle.fw_group.specs.Laws.{Begins}
use Rattle.fw_threads.specs.declared.publisher.CommitFault.{CommitFault}
use Rattle.fw_threads.specs.declared.publisher.CommitFault.TheVariants as commit
use Rattle.fw_threads.specs.Flushed.{Flushed, PublisherState, Commits, CommitFails, group_on, state_of}
use Rattle.fw_threads.proofs.Fronts.{begins_self, begins_trans}
use Rattle.fw_load.specs.Loads.{StandsForMore, IsShown, LeavesMore, GrowsOnly, GoesOn, Stops, Loads, Flushes}
use Rattle.fw_load.specs.declared.fault.LoadFault.{LoadFault}

begins_same : (h k : History) → k ≡ h → Begins h k
begins_same h k same = subst (λ (x : History). Begins h x) (sym same) (begins_self h)

-- either of two warehouses has what the first one has
either_more : (h : History) (more : List EntryValue) (c : Image) → StandsForEither h more c → StandsForMore h c
either_more h more c (inl stands) = (h, begins_self h, stands)
either_more h more c (inr stands) = (with_more h more, (more, refl), stands)

module _ {V : Type 0} (tells : Bool) (view : V → View) where
  pub unchanged : (s t : StoreState V) → t ≡ s → GrowsOnly tells view s t
  unchanged s t same = (begins_same s.history t.history (ap (λ (x : StoreState _). x.history) same), inl same)

  leaves_both : (r s t : StoreState V) → Begins r.history s.history → LeavesMore tells view r s → LeavesMore tells view s t → LeavesMore tells view r t
  leaves_both r s t more (inl same) next = subst (λ (x : StoreState V). LeavesMore tells view x t) same next
  leaves_both r s t more (inr run) (inl same) = inr (λ told. subst (λ (x : StoreState V). LeavesOnly (view r.volume) (view x.volume) (StandsForMore r.history)) (sym same) (run told))
  leaves_both r s t more (inr run) (inr next) = inr (λ told. goes_through (view r.volume) (view s.volume) (view t.volume) (StandsForMore r.history) (StandsForMore s.history) (run told) (next told)
      (λ c m. (m.0, begins_trans r.history s.history m.0 more m.1, m.2)))

  grows_both : (r s t : StoreState V) → GrowsOnly tells view r s → GrowsOnly tells view s t → GrowsOnly tells view r t
  grows_both r s t p q = (begins_trans r.history s.history t.history p.0 q.0, leaves_both r s t p.0 p.1 q.1)

  pub stays : (f : Flushed V) → GoesOn tells view f f
  stays f shown = (unchanged f.store f.store refl, refl, shown)

  pub goes_on_both : (e f g : Flushed V) → GoesOn tells view e f → GoesOn tells view f g → GoesOn tells view e g
  goes_on_both e f g p q shown =
      let first = p shown in
      let second = q first.2 in
      (grows_both e.store f.store g.store first.0 second.0, second.1 ∙ first.1, second.2)

  pub stops_after : (e f g : Flushed V) → GoesOn tells view e f → Stops tells view f g → Stops tells view e g
  stops_after e f g p q shown = let first = p shown in grows_both e.store f.store g.store first.0 (q first.2)

  pub ends : (f g : Flushed V) → GoesOn tells view f g → Flushes tells view f g None
  ends f g p shown = let on = p shown in (on.0, λ none. on.1)

  pub ends_in : (f g : Flushed V) (why : LoadFault) → Stops tells view f g → Flushes tells view f g (Some why)
  ends_in f g why p shown = (p shown, λ none. absurd (cc))

  -- a call that leaves the store as it is, and what is shown
  pub same_state : (f g : Flushed V) → state_of g ≡ state_of f → GoesOn tells view f g
  same_state f g same shown =
      let store : g.store ≡ f.store = ap (λ (x : PublisherState _). x.store) same in
      (unchanged f.store g.store store, ap (λ (x : StoreState _). x.failed) store, ap (λ (x : PublisherState _). x.published) same ∙ (shown ∙ ap (λ (x : StoreState _). x.history) (sym store)))

  pub committed : (f : Flushed V) (n : ℕ) (g : Flushed V) → Commits tells view f n g → GoesOn tells view f g
  committed f n g (inl none) shown = same_state f g (ap (λ (x : Flushed _). state_of x) none.2) shown
  committed f n g (inr done) shown =
      let p = done.1 in
      let c = p.committed in
      let group = group_on f.published f.hand in
      let crash : IsTrue tells → LeavesOnly (view f.store.volume) (view g.store.volume) (StandsForMore f.store.history) =
      λ told. weakened (view f.store.volume) (view g.store.volume) _ (StandsForMore f.store.history) (p.moment told)
      (λ img either. subst (λ (h : History). StandsForMore h img) shown (either_more f.published group img either)) in
      (((group, c.history), inr crash), c.failed ∙ sym c.went_on, p.published ∙ (ap (λ (h : History). with_more h group) shown ∙ sym c.history))

  pub ran_out : (f g : Flushed V) → CommitFails tells view f (commit.Store fault.NoMemory) g → GoesOn tells view f g
  ran_out f g fails = same_state f g fails.1.2

  whole : (f g : Flushed V) (more : List EntryValue) → (IsTrue tells → LeavesOnly (view f.store.volume) (view g.store.volume) (StandsForEither f.store.history more)) → LeavesMore tells view f.store g.store
  whole f g more run = inr (λ told. weakened (view f.store.volume) (view g.store.volume) _ (StandsForMore f.store.history) (run told) (either_more f.store.history more))

  same : (f g : Flushed V) → state_of g ≡ state_of f → Stops tells view f g
  same f g is shown = (same_state f g is shown).0

  pub failed : (f : Flushed V) (why : CommitFault) (g : Flushed V) → CommitFails tells view f why g → Stops tells view f g
  failed f (commit.Store fault.NoHouse) g fails shown = absurd fails.1
  failed f (commit.Store (fault.Corrupt side at)) g fails shown = absurd fails.1
  failed f (commit.Store fault.Device) g fails shown = (begins_same f.store.history g.store.history fails.1.2.history, whole f g _ fails.1.6)
  failed f (commit.Store fault.Failed) g fails shown = same f g fails.1.1 shown
  failed f (commit.Store fault.Generations) g fails shown = absurd fails.1
  failed f (commit.Store fault.OldSide) g fails shown = same f g fails.1.3 shown
  failed f (commit.Store fault.TooLarge) g fails shown = same f g fails.1.4 shown
  failed f (commit.Store fault.Exists) g fails shown = absurd fails.1
  failed f (commit.Store fault.NoMemory) g fails shown = same f g fails.1.2 shown
  failed f commit.Unpublished g fails shown = ((group_on f.published f.hand, fails.1.2.history), whole f g _ fails.1.4)
