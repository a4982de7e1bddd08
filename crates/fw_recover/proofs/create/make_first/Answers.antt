use Rattle.std.proofs.Common.{◌≡◌, ℕ, IsTrue, List, length, refl, sym, ap, subst, arith}
use Rattle.fw_disk.specs.declared.volume.Side.TheVariants.{Left}
use Rattle.fw_disk.specs.Volume.{LeavesOnly}
use Rattle.fw_entry_bytes.specs.declared.form.Form.TheVariants.{Two}
use Rattle.fw_journal.specs.Log.{LogState}
use Rattle.fw_snapshot.specs.History.{History}
use Rattle.fw_recover.specs.Store.{IsInUse, IsFresh}
use Rattle.fw_recover.specs.Creating.{empty, StandsForNoneOr}
use Rattle.fw_recover.specs.Making.{AllSettled}
use Rattle.fw_recover.specs.Stands.{StandsForNone}
use Rattle.fw_recover.proofs.Made.{empty_log, calm_none, first_since, first_in_use}
use Rattle.fw_recover.proofs.create.make_first.Given as given
use Rattle.fw_recover.proofs.create.make_first.Goals as goal
use Rattle.fw_recover.proofs.create.make_first.Goals.{After-make_side}

pub returns-in_err-find_free-clause-any_moment : goal.returns-in_err-find_free-clause-any_moment
returns-in_err-find_free-clause-any_moment g c told settled none =
    calm_none (empty c.args.currency) (g.V.Volume.view c.args.volume.now) (g.V.Volume.view c.find_free.new.volume) (c.find_free.ensures.reads.calm told) settled none

pub returns-in_err-bytes-clause-any_moment : goal.returns-in_err-bytes-clause-any_moment
returns-in_err-bytes-clause-any_moment g c told settled none =
    calm_none (empty c.args.currency) (g.V.Volume.view c.args.volume.now) (g.V.Volume.view c.find_free.new.volume) (c.find_free.ensures.reads.calm told) settled none

-- while Left is made
moments : (g : given.Over) (c : goal.After-make_side g) → IsTrue g.V.Volume.tells → AllSettled (g.V.Volume.view c.args.volume.now) → StandsForNone (g.V.Volume.view c.args.volume.now).seen
    → LeavesOnly (g.V.Volume.view c.args.volume.now) (g.V.Volume.view c.make_side.new.volume) (StandsForNoneOr (empty c.args.currency))
moments g c told settled none =
    first_since c.args.currency c.deref.result.now c.in_ok-bytes.bytes.items c.deref.ensures.value c.in_ok-bytes.ensures.made
    (g.V.Volume.view c.args.volume.now) (g.V.Volume.view c.find_free.new.volume) (g.V.Volume.view c.make_side.new.volume) (c.find_free.ensures.reads.calm told) none
    settled (c.make_side.ensures.any_moment told (c.in_ok-find_free.ensures.settled told))

pub returns-in_default-clause-any_moment : goal.returns-in_default-clause-any_moment
returns-in_default-clause-any_moment g c = moments g (goal.at.returns-in_default-clause-any_moment g c).After-make_side

pub returns-clause-any_moment : goal.returns-clause-any_moment
returns-clause-any_moment g c = moments g (goal.at.returns-clause-any_moment g c).After-make_side

pub returns-clause-in_use : goal.returns-clause-in_use
returns-clause-in_use g c =
    let new = g.V.Volume.view c.make_side.new.volume in
    let start : 44 ≡ c.len-start.result = omega (arith, c.len-start.ensures, c.in_ok-bytes.ensures.long, c.in_ok-bytes.bytes.ok) in
    let P : LogState → Type 0 = λ log. IsInUse g.V.Volume.tells Two 1 log c.in_ok-bytes.snapshot new in
    subst P (sym c.at.ensures) (record {
      room = omega (arith, c.in-Ok.ensures.sizes, ap (λ (l : List ℕ). length l) c.deref.ensures.value, c.in_ok-bytes.ensures.long, c.len-start.ensures, c.in_ok-bytes.bytes.ok);
      some_generation = omega arith;
      generation_fits = omega arith;
      log_goes_on = refl;
      fresh = λ told.
          let fresh =
          first_in_use c.args.currency c.deref.result.now c.in_ok-bytes.bytes.items c.deref.ensures.value c.in_ok-bytes.ensures.made
          (g.V.Volume.view c.args.volume.now) (g.V.Volume.view c.find_free.new.volume) new (c.find_free.ensures.reads.calm told) (c.in_ok-find_free.ensures.free told)
          (c.in-Ok.ensures.made told (c.in_ok-find_free.ensures.settled told)) in
          subst (λ (k : ℕ). IsFresh Two 1 (empty_log Left k) c.in_ok-bytes.snapshot new) start
          (subst (λ (s : History). IsFresh Two 1 (empty_log Left 44) s new) (sym c.in_ok-bytes.ensures.state) fresh);
    })
