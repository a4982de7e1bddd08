use Rattle.std.proofs.Common.{rules, false, ◌≡◌, ◌<◌, ◌+◌, ◌^◌, [], inl, ℕ, IsTrue, List, length, refl, sym, ◌∙◌, ap, subst, arith}
use Rattle.std.proofs.lemmas.Grind.{common_steps}
use Rattle.fw_disk.specs.Volume.{LeavesOnly, other}
use Rattle.fw_disk.specs.declared.volume.Side.{Side}
use Rattle.fw_entry_bytes.specs.declared.form.Form.TheVariants.{Two}
use Rattle.fw_journal.specs.Log.{LogState}
use Rattle.fw_snapshot.specs.History.{History}
use Rattle.fw_recover.specs.Making.{SpellsSide}
use Rattle.fw_recover.specs.Stands.{StandsFor, EachStandsFor}
use Rattle.fw_recover.specs.Store.{StoreState, IsKept, IsFresh}
use Rattle.fw_recover.specs.Checkpoints.{IsCheckpointed}
use Rattle.fw_recover.proofs.Standing.{other_other}
use Rattle.fw_recover.proofs.Committing.{still}
use Rattle.fw_recover.proofs.Made.{empty_log, checkpoint_moments, checkpoint_fresh, checkpointed}
use Rattle.fw_recover.proofs.store.Store.checkpoint.Given as given
use Rattle.fw_recover.proofs.store.Store.checkpoint.Goals as goal
use Rattle.fw_recover.proofs.store.Store.checkpoint.Goals.{After-make_side}

-- what the bytes are that are written, and where

next_is : (g : given.Over) (c : goal.After-make_side g) → c.in-Some.generation ≡ c.self.inside.generation + 1
next_is g c = search rules

next_fits : (g : given.Over) (c : goal.After-make_side g) → c.in-Some.generation < 2 ^ 64
next_fits g c = grind (arith, common_steps)

fit : (g : given.Over) (c : goal.After-make_side g) → length c.deref.result.now < 2 ^ 64
fit g c = omega (arith, ap (λ (l : List ℕ). length l) c.deref.ensures.value, c.in_ok-bytes.bytes.ok)

side_is : (g : given.Over) (c : goal.After-make_side g) → c.other-side.result ≡ other c.self.inside.log.side
side_is g c = c.other-side.ensures ∙ ap (λ (s : Side). other s) c.side.ensures

kept : (g : given.Over) (c : goal.After-make_side g) → c.in_ok-bytes.snapshot ≡ c.self.inside.snapshot
kept g c = c.in_ok-bytes.ensures.same ∙ sym (ap (λ (s : StoreState g.row.V.Denot). s.history) c.self.view_is)

spells_merged : (g : given.Over) (c : goal.After-make_side g) → SpellsSide c.in-Some.generation c.in_ok-bytes.snapshot c.deref.result.now
spells_merged g c =
    subst (λ (l : List ℕ). SpellsSide c.in-Some.generation c.in_ok-bytes.snapshot l) (sym c.deref.ensures.value)
    (subst (λ (h : History). SpellsSide c.in-Some.generation h c.in_ok-bytes.bytes.items) (sym c.in_ok-bytes.ensures.same) c.in_ok-bytes.ensures.made)

spells : (g : given.Over) (c : goal.After-make_side g) → SpellsSide c.in-Some.generation c.self.inside.snapshot c.deref.result.now
spells g c = subst (λ (h : History). SpellsSide c.in-Some.generation h c.deref.result.now) (kept g c) (spells_merged g c)

-- what a crash leaves, of the store as it is held within the call, and of the store at its start

run : (g : given.Over) (c : goal.After-make_side g) → IsTrue g.V.Volume.tells → LeavesOnly (g.V.Volume.view c.self.inside.volume) (g.V.Volume.view c.make_side.new.volume) (StandsFor c.self.inside.snapshot)
run g c told =
    let inside = c.self.inside in
    let fresh = c.self.invariant.fresh told c.if-self.false in
    checkpoint_moments inside.snapshot inside.form inside.generation inside.log (g.V.Volume.view inside.volume) (g.V.Volume.view c.make_side.new.volume) fresh c.in-Some.generation (next_is g c) (next_fits g c)
    c.deref.result.now (fit g c) (spells g c) c.other-side.result (side_is g c) (c.make_side.ensures.any_moment told fresh.settled)

since : (g : given.Over) (c : goal.After-make_side g) → IsTrue g.V.Volume.tells → LeavesOnly (g.V.Volume.view c.args.self.now.volume) (g.V.Volume.view c.make_side.new.volume) (StandsFor c.args.self.now.history)
since g c told =
    let P : StoreState g.row.V.Denot → Type 0 = λ s. LeavesOnly (g.V.Volume.view s.volume) (g.V.Volume.view c.make_side.new.volume) (StandsFor s.history) in
    subst P c.self.view_is (run g c told)

each : (g : given.Over) (c : goal.After-make_side g) → IsTrue g.V.Volume.tells → EachStandsFor c.args.self.now.history (g.V.Volume.view c.make_side.new.volume)
each g c told image now =
    let all = since g c told in
    all.each image (g.met.V.Volume.counts_now c.make_side.new.volume (g.V.Volume.view c.args.self.now.volume).moment image all.later now)

-- where nothing was called yet
pub returns-in_default-clause-any_moment : goal.returns-in_default-clause-any_moment
returns-in_default-clause-any_moment g c told going =
    let s = c.args.self.now in
    let P : StoreState g.row.V.Denot → Type 0 = λ x. IsKept g.V.Volume.tells g.V.Volume.view x in
    still g.V.Volume.tells g.V.Volume.view s (subst P c.self.view_is c.self.invariant) told going (StandsFor s.history) (g.met.V.Volume.only_now s.volume) (λ i stands. stands)

pub returns-in_err-bytes-clause-any_moment : goal.returns-in_err-bytes-clause-any_moment
returns-in_err-bytes-clause-any_moment g c told going =
    let s = c.args.self.now in
    let P : StoreState g.row.V.Denot → Type 0 = λ x. IsKept g.V.Volume.tells g.V.Volume.view x in
    still g.V.Volume.tells g.V.Volume.view s (subst P c.self.view_is c.self.invariant) told going (StandsFor s.history) (g.met.V.Volume.only_now s.volume) (λ i stands. stands)

pub returns-in_default-make_side-clause-any_moment : goal.returns-in_default-make_side-clause-any_moment
returns-in_default-make_side-clause-any_moment g c told _ = since g (goal.at.returns-in_default-make_side-clause-any_moment g c).After-make_side told

pub returns-in_default-make_side-clause-each : goal.returns-in_default-make_side-clause-each
returns-in_default-make_side-clause-each g c told _ = each g (goal.at.returns-in_default-make_side-clause-each g c).After-make_side told

pub returns-clause-any_moment : goal.returns-clause-any_moment
returns-clause-any_moment g c told _ = since g (goal.at.returns-clause-any_moment g c).After-make_side told

pub returns-clause-each : goal.returns-clause-each
returns-clause-each g c told _ = each g (goal.at.returns-clause-each g c).After-make_side told

pub returns-clause-done : goal.returns-clause-done
returns-clause-done g c =
    let at = (goal.at.returns-clause-done g c).After-make_side in
    let inside = c.self.inside in
    let long : c.len-start.result ≡ length c.deref.result.now = omega (arith, ap (λ (l : List ℕ). length l) c.deref.ensures.value, c.len-start.ensures, c.in_ok-bytes.bytes.ok) in
    let fresh = λ (told : IsTrue g.V.Volume.tells). c.self.invariant.fresh told c.if-self.false in
    let P : StoreState g.row.V.Denot → Type 0 = λ s. IsCheckpointed g.V.Volume.tells g.V.Volume.view s
    (record { volume = c.make_side.new.volume; form = Two; generation = c.in-Some.generation; log = c.at-self-inside.result; history = c.in_ok-bytes.snapshot; failed = false }) in
    subst P c.self.view_is
    (checkpointed g.V.Volume.tells g.V.Volume.view _ _ c.deref.result.now c.other-side.result refl (next_is g at) refl (side_is g at)
    (c.at-self-inside.ensures ∙ ap (λ (n : ℕ). empty_log c.other-side.result n) long) (spells_merged g at)
    (omega (arith, c.in_ok-bytes.ensures.fits, c.make_side.ensures.limit, ap (λ (l : List ℕ). length l) c.deref.ensures.value, ap (λ (s : StoreState g.row.V.Denot). (g.V.Volume.view s.volume).limit) c.self.view_is))
    (λ told. let made = c.in-Ok.ensures.made told (fresh told).settled in (made.tail, made.is)))

pub invariant_of-self : goal.invariant_of-self
invariant_of-self g c =
    let at = (goal.at.invariant_of-self g c).After-make_side in
    let inside = c.self.inside in
    let old = g.V.Volume.view inside.volume in
    let new = g.V.Volume.view c.make_side.new.volume in
    let stays : other c.other-side.result ≡ inside.log.side = ap (λ (s : Side). other s) (side_is g at) ∙ other_other inside.log.side in
    let size : new.size inside.log.side ≡ old.size inside.log.side = subst (λ (s : Side). new.size s ≡ old.size s) stays c.make_side.ensures.other_size in
    record {
      room = omega (arith, size, c.self.invariant.room);
      some_generation = c.self.invariant.some_generation;
      generation_fits = c.self.invariant.generation_fits;
      log = λ goes_on. absurd (cc);
      fresh = λ told goes_on. absurd (cc);
      lost = λ told _. ([], λ image now. inl ((run g at told).each image (g.met.V.Volume.counts_now c.make_side.new.volume old.moment image (run g at told).later now)));
    }

pub invariant_of-self-2 : goal.invariant_of-self-2
invariant_of-self-2 g c =
    let at = (goal.at.invariant_of-self-2 g c).After-make_side in
    let inside = c.self.inside in
    let old = g.V.Volume.view inside.volume in
    let new = g.V.Volume.view c.make_side.new.volume in
    let long : length c.deref.result.now ≡ c.len-start.result = omega (arith, ap (λ (l : List ℕ). length l) c.deref.ensures.value, c.len-start.ensures, c.in_ok-bytes.bytes.ok) in
    let P : LogState → Type 0 = λ log. IsKept g.V.Volume.tells g.V.Volume.view (record { volume = c.make_side.new.volume; form = Two; generation = c.in-Some.generation; log = log; history = c.in_ok-bytes.snapshot; failed = false }) in
    subst P (sym c.at-self-inside.ensures) (record {
      room = omega (arith, c.in-Ok.ensures.sizes, long);
      some_generation = omega (arith, next_is g at);
      generation_fits = next_fits g at;
      log = λ goes_on. refl;
      fresh = λ told goes_on.
          let fresh = c.self.invariant.fresh told c.if-self.false in
          subst (λ (h : History). IsFresh Two c.in-Some.generation (empty_log c.other-side.result c.len-start.result) h new) (sym (kept g at))
          (subst (λ (n : ℕ). IsFresh Two c.in-Some.generation (empty_log c.other-side.result n) inside.snapshot new) long
          (checkpoint_fresh inside.snapshot inside.form inside.generation inside.log old new fresh c.in-Some.generation (next_is g at) (next_fits g at) c.deref.result.now (fit g at) (spells g at)
          c.other-side.result (side_is g at) (c.in-Ok.ensures.made told fresh.settled)));
      lost = λ told lost. absurd (cc);
    })
