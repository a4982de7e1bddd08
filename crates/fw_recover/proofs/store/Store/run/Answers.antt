use Rattle.std.proofs.Common.{◌≡◌, ◌⊎◌, false, IsTrue, inl, inr, ◌<◌, ◌+◌, ◌++◌, [], ◌∷◌, length, take, drop, List, ℕ, Err, refl, sym, ◌∙◌, ap, subst, arith}
use Rattle.fw_disk.specs.Volume.{LeavesOnly}
use Rattle.fw_disk.proofs.Moments.{goes_through}
use Rattle.fw_entry.specs.Entry.{EntryValue}
use Rattle.std.proofs.lemmas.List.Elements.{All-head}
use Rattle.fw_entry_bytes.specs.Forms.{has_entry, IsOfForm}
use Rattle.fw_snapshot.specs.Judging.{judged}
use Rattle.fw_snapshot.specs.History.{History}
use Rattle.fw_snapshot.specs.Verdicts.{taken, verdicts_on, accepted_of}
use Rattle.fw_snapshot.specs.declared.verdict.Verdict.{Verdict}
use Rattle.fw_recover.specs.declared.fault.StoreFault.{StoreFault}
use Rattle.fw_recover.specs.declared.fault.StoreFault.TheVariants as fault
use Rattle.fw_recover.specs.Store.{StoreState}
use Rattle.fw_recover.specs.Stands.{StandsForEither, EachStandsFor}
use Rattle.fw_recover.specs.Committing.{HasNoRoom, StandsForFirst, HasAnswered}
use Rattle.fw_recover.proofs.Committing.{each_now, still}
use Rattle.fw_recover.proofs.Judged.{kept_if, no_verdicts, none_yet, verdicts_more, history_more}
use Rattle.fw_recover.proofs.Running.{as_long, answered_all, answered, first_stand, next_taken, next_accepted, none_answered, none_stand}
use Rattle.fw_recover.proofs.store.Store.run.Given as given
use Rattle.fw_recover.proofs.store.Store.run.Goals as goal
use Rattle.fw_recover.proofs.store.Store.run.Goals.{After-keeps, After-with_capacity, After-commit, In-Err}

-- before the first entry each image stands for the warehouse

stands_now : (g : given.Over) (c : After-keeps g) → IsTrue g.V.Volume.tells → c.args.self.now.failed ≡ false → EachStandsFor c.args.self.now.history (g.V.Volume.view c.args.self.now.volume)
stands_now g c told going = each_now g.V.Volume.tells g.V.Volume.view c.args.self.now c.keeps.ensures told going

stands_still : (g : given.Over) (c : After-keeps g) → IsTrue g.V.Volume.tells → c.args.self.now.failed ≡ false
    → LeavesOnly (g.V.Volume.view c.args.self.now.volume) (g.V.Volume.view c.args.self.now.volume) (StandsForFirst c.args.self.now.history c.args.entries.now)
stands_still g c told going =
    let s = c.args.self.now in
    let es = c.args.entries.now in
    still g.V.Volume.tells g.V.Volume.view s c.keeps.ensures told going (λ i. StandsForFirst s.history es i) (g.met.V.Volume.only_now s.volume) (none_stand s.history es)

goes_on : (g : given.Over) (c : After-with_capacity g) → c.args.self.now.failed ≡ false
goes_on g c = sym (ap (λ (x : StoreState _). x.failed) c.self.view_is) ∙ c.if-self.false

-- in a turn there are as many verdicts as entries before it, and each image stands for the first entries

long : (g : given.Over) (c : After-commit g) → length c.loop-entry.verdicts.items ≡ c.loop-entry.entry-index
long g c = as_long c.args.self.now.history c.args.entries.now c.loop-entry.entry-index c.loop-entry.verdicts.items c.loop-entry.invariant.verdicts c.loop-entry-test.true

moments : (g : given.Over) (c : After-commit g) → IsTrue g.V.Volume.tells
    → LeavesOnly (g.V.Volume.view c.args.self.now.volume) (g.V.Volume.view c.commit.new.self.volume) (StandsForFirst c.args.self.now.history c.args.entries.now)
moments g c told =
    let h = c.args.self.now.history in
    let es = c.args.entries.now in
    let e = c.entry-item.result in
    let now = c.loop-entry.self.history in
    let was = c.loop-entry.invariant in
    goes_through (g.V.Volume.view c.args.self.now.volume) (g.V.Volume.view c.loop-entry.self.volume) (g.V.Volume.view c.commit.new.self.volume) (λ x. StandsForFirst h es x)
    (λ x. StandsForEither now (taken now.entries e) x) (was.run told) (c.commit.ensures.any_moment told was.failed) (first_stand h now es c.loop-entry.entry-index e c.loop-entry-test.true c.entry-item.is was.history)

-- an entry never fails since the store has, and after a fault of size or of memory the store is as it was

never_failed : (g : given.Over) (c : In-Err g) → c.in-Err.fault ≡ fault.Failed → ⊥
never_failed g c is =
    let set = c.commit.ensures.failed.0 (c.in-Err.is ∙ ap (λ (f : StoreFault). Err f) is) in
    let both = sym set ∙ c.loop-entry.invariant.failed in
    cc

stays : (g : given.Over) (c : In-Err g) → (c.in-Err.fault ≡ fault.OldSide) ⊎ ((c.in-Err.fault ≡ fault.TooLarge) ⊎ (c.in-Err.fault ≡ fault.NoMemory)) → c.commit.new.self ≡ c.loop-entry.self
stays g c which = elim c.in-Err.ensures.fails.unchanged [
  | inl device ↦ elim which [
    | inl old ↦ (let both = sym device ∙ old in absurd (cc))
    | inr (inl large) ↦ (let both = sym device ∙ large in absurd (cc))
    | inr (inr memory) ↦ (let both = sym device ∙ memory in absurd (cc))
  ]
  | inr same ↦ same
]

pub returns-then-self-clause-so_far : goal.returns-then-self-clause-so_far
returns-then-self-clause-so_far g c = none_answered c.args.self.now.history c.args.entries.now c.new.result.items c.new.ensures.items

pub returns-in_default-clause-any_moment : goal.returns-in_default-clause-any_moment
returns-in_default-clause-any_moment g c told going = stands_still g (goal.at.returns-in_default-clause-any_moment g c).After-keeps told going

pub returns-in_default-clause-so_far : goal.returns-in_default-clause-so_far
returns-in_default-clause-so_far g c = none_answered c.args.self.now.history c.args.entries.now c.new-in_default.result.items c.new-in_default.ensures.items

pub returns-in_default-clause-each_so_far : goal.returns-in_default-clause-each_so_far
returns-in_default-clause-each_so_far g c told going image now =
    let h = c.args.self.now.history in
    let es = c.args.entries.now in
    subst (λ (vs : List Verdict). HasAnswered h es (length vs) image) (sym c.new-in_default.ensures.items)
    (answered_all h h es 0 image (none_yet h es) (stands_now g (goal.at.returns-in_default-clause-each_so_far g c).After-keeps told going image now))

pub returns-in_default-clause-goes_on : goal.returns-in_default-clause-goes_on
returns-in_default-clause-goes_on g c is =
    let at = goal.at.returns-in_default-clause-goes_on g c in
    let going = goes_on g at.After-with_capacity in
    (going, λ told. stands_now g at.After-keeps told going)

pub loop-entry-init : goal.loop-entry-init
loop-entry-init g c =
    let h = c.args.self.now.history in
    let es = c.args.entries.now in
    let at = goal.at.loop-entry-init g c in
    let going = goes_on g at.After-with_capacity in
    record {
      len = c.in-Ok.ensures.len;
      room = c.in-Ok.ensures.capacity;
      verdicts = c.in-Ok.ensures.items ∙ sym (no_verdicts h.entries es);
      history = none_yet h es;
      went_on = going;
      failed = going;
      run = λ told. stands_still g at.After-keeps told going;
      each = λ told. stands_now g at.After-keeps told going;
      later = omega arith;
      limit = refl;
    }

pub returns-in-Err-clause-any_moment : goal.returns-in-Err-clause-any_moment
returns-in-Err-clause-any_moment g c told going = moments g (goal.at.returns-in-Err-clause-any_moment g c).After-commit told

-- as many verdicts as entries before the one that failed
pub returns-in-Err-clause-not_all : goal.returns-in-Err-clause-not_all
returns-in-Err-clause-not_all g c some = omega (arith, long g (goal.at.returns-in-Err-clause-not_all g c).After-commit, c.loop-entry-test.true)

pub returns-in-Err-clause-each_so_far : goal.returns-in-Err-clause-each_so_far
returns-in-Err-clause-each_so_far g c told going image left =
    let h = c.args.self.now.history in
    let es = c.args.entries.now in
    let was = c.loop-entry.invariant in
    let run = c.commit.ensures.any_moment told was.failed in
    let either = run.each image (g.met.V.Volume.counts_now c.commit.new.self.volume (g.V.Volume.view c.loop-entry.self.volume).moment image run.later left) in
    subst (λ (n : ℕ). HasAnswered h es n image) (sym (long g (goal.at.returns-in-Err-clause-each_so_far g c).After-commit))
    (answered h c.loop-entry.self.history es c.loop-entry.entry-index c.entry-item.result c.loop-entry-test.true c.entry-item.is was.history image either)

pub returns-in-Err-clause-failed : goal.returns-in-Err-clause-failed
returns-in-Err-clause-failed g c = (
  λ is. absurd (never_failed g (goal.at.returns-in-Err-clause-failed g c).In-Err is),
  λ set. (let both = sym set ∙ c.loop-entry.invariant.went_on in absurd (cc)),
)

pub returns-in-Err-clause-unchanged : goal.returns-in-Err-clause-unchanged
returns-in-Err-clause-unchanged g c is = absurd (never_failed g (goal.at.returns-in-Err-clause-unchanged g c).In-Err is)

pub returns-in-Err-clause-goes_on : goal.returns-in-Err-clause-goes_on
returns-in-Err-clause-goes_on g c which =
    let was = c.loop-entry.invariant in
    let same = stays g (goal.at.returns-in-Err-clause-goes_on g c).In-Err which in (
      ap (λ (x : StoreState _). x.failed) same ∙ was.failed,
      λ told. subst (λ (x : StoreState _). EachStandsFor x.history (g.V.Volume.view x.volume)) (sym same) (was.each told),
    )

pub returns-in-Err-clause-accepted : goal.returns-in-Err-clause-accepted
returns-in-Err-clause-accepted g c is =
    let h = c.args.self.now.history in
    let es = c.args.entries.now in
    let s = c.loop-entry.self in
    let device = c.in-Err.is ∙ ap (λ (f : StoreFault). Err f) is in
    let there = next_accepted h s.history es c.loop-entry.entry-index c.entry-item.result c.loop-entry-test.true c.entry-item.is c.loop-entry.invariant.history (c.commit.ensures.accepted device) in
    let P : History → ℕ → Type 0 = λ k n. 0 < length (accepted_of k.entries (take 1 (drop n es))) in
    subst (λ (k : History). P k (length c.loop-entry.verdicts.items)) (sym (c.in-Err.ensures.fails.lost is).history)
    (subst (λ (n : ℕ). P s.history n) (sym (long g (goal.at.returns-in-Err-clause-accepted g c).After-commit)) there)

pub loop-entry-preserved : goal.loop-entry-preserved
loop-entry-preserved g c =
    let h = c.args.self.now.history in
    let es = c.args.entries.now in
    let i = c.loop-entry.entry-index in
    let e = c.entry-item.result in
    let now = c.loop-entry.self.history in
    let was = c.loop-entry.invariant in
    let within = c.loop-entry-test.true in
    let done = c.in-Ok-commit.ensures.done in
    record {
      len = c.push_reserved.ensures.len ∙ ap (λ (n : ℕ). n + 1) was.len;
      room = omega (arith, was.room, c.push_reserved.ensures.capacity);
      verdicts =
          c.push_reserved.ensures.items
          ∙ ap (λ (vs : List Verdict). vs ++ c.in-Ok-commit.verdict ∷ []) was.verdicts
          ∙ ap (λ (v : Verdict). verdicts_on h.entries (take i es) ++ v ∷ []) done.0
          ∙ sym (verdicts_more h now es i e within c.entry-item.is was.history);
      history = done.1.history ∙ history_more h now es i e within c.entry-item.is was.history;
      went_on = was.went_on;
      failed = done.1.failed;
      run = λ told. moments g (goal.at.loop-entry-preserved g c).After-commit told;
      each = λ told. done.1.each told;
      later = omega (arith, was.later, c.commit.ensures.later);
      limit = c.commit.ensures.limit ∙ was.limit;
    }

pub returns-in-Err-clause-too_large : goal.returns-in-Err-clause-too_large
returns-in-Err-clause-too_large g c is =
    let h = c.args.self.now.history in
    let es = c.args.entries.now in
    let s = c.loop-entry.self in
    let at = goal.at.returns-in-Err-clause-too_large g c in
    let P : StoreState _ → ℕ → Type 0 = λ x n. HasNoRoom (g.V.Volume.view x.volume).limit x (accepted_of x.history.entries (take 1 (drop n es))) in
    let room = c.commit.ensures.too_large (c.in-Err.is ∙ ap (λ (f : StoreFault). Err f) is) in
    let there = subst (λ (l : List EntryValue). HasNoRoom (g.V.Volume.view s.volume).limit s l)
    (sym (next_taken h s.history es c.loop-entry.entry-index c.entry-item.result c.loop-entry-test.true c.entry-item.is c.loop-entry.invariant.history)) room in
    subst (λ (x : StoreState _). P x (length c.loop-entry.verdicts.items)) (sym (stays g at.In-Err (inr (inl is)))) (subst (λ (n : ℕ). P s n) (sym (long g at.After-commit)) there)

pub returns-in-Err-clause-old_side : goal.returns-in-Err-clause-old_side
returns-in-Err-clause-old_side g c is all =
    let h = c.args.self.now.history in
    let es = c.args.entries.now in
    let s = c.loop-entry.self in
    let e = c.entry-item.result in
    let at = goal.at.returns-in-Err-clause-old_side g c in
    let P : StoreState _ → ℕ → Type 0 = λ x n. IsOfForm x.form (accepted_of x.history.entries (take 1 (drop n es))) in
    let old = c.commit.ensures.old_side.0 (c.in-Err.is ∙ ap (λ (f : StoreFault). Err f) is) in
    let there = subst (λ (n : ℕ). P s n) (long g at.After-commit) (subst (λ (x : StoreState _). P x (length c.loop-entry.verdicts.items)) (stays g at.In-Err (inl is)) all) in
    let one = next_taken h s.history es c.loop-entry.entry-index e c.loop-entry-test.true c.entry-item.is c.loop-entry.invariant.history ∙ kept_if (judged s.history.entries e) e old.1 in
    let has = All-head (λ x. IsTrue (has_entry s.form x)) e [] (subst (λ (l : List EntryValue). IsOfForm s.form l) one there) in
    let both = sym has ∙ old.2 in
    absurd (cc)
