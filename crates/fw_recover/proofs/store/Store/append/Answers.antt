use Rattle.std.proofs.Common.{◌≡◌, ◌⊎◌, ◌+◌, Bool, false, IsTrue, length, refl, sym, ◌∙◌, ap, subst}
use Rattle.fw_disk.specs.Volume.{LeavesOnly}
use Rattle.fw_journal.specs.Log.{LogState}
use Rattle.fw_recover.specs.Stands.{StandsFor}
use Rattle.fw_recover.specs.Store.{StoreState}
use Rattle.fw_recover.specs.Committing.{Appended}
use Rattle.fw_recover.proofs.Committing.{each_stands, either_since, either_left, next_in_use}
use Rattle.fw_recover.proofs.store.Store.append.Given as given
use Rattle.fw_recover.proofs.store.Store.append.Goals as goal
use Rattle.fw_recover.proofs.store.Store.append.Goals.{After-append}

moments : (g : given.Over) (c : goal.After-append g) → IsTrue g.V.Volume.tells
    → LeavesOnly (g.V.Volume.view c.args.self.now.volume) (g.V.Volume.view c.append.new.volume) (λ i. StandsFor c.args.self.now.history i ⊎ StandsFor c.args.next i)
moments g c told =
    either_since g.V.Volume.tells g.V.Volume.view _ c.args.self.now c.self.view_is c.self.invariant c.requires.goes_on c.args.payload.now c.args.next c.requires.goes
    (g.V.Volume.view c.append.new.volume) told (c.append.ensures.any_moment told)

pub returns-in-Ok-clause-any_moment : goal.returns-in-Ok-clause-any_moment
returns-in-Ok-clause-any_moment g c = moments g (goal.at.returns-in-Ok-clause-any_moment g c).After-append

pub returns-in-Err-Device-clause-any_moment : goal.returns-in-Err-Device-clause-any_moment
returns-in-Err-Device-clause-any_moment g c = moments g (goal.at.returns-in-Err-Device-clause-any_moment g c).After-append

pub returns-in-Err-TooLarge-clause-any_moment : goal.returns-in-Err-TooLarge-clause-any_moment
returns-in-Err-TooLarge-clause-any_moment g c = moments g (goal.at.returns-in-Err-TooLarge-clause-any_moment g c).After-append

pub returns-in-Err-NoMemory-clause-any_moment : goal.returns-in-Err-NoMemory-clause-any_moment
returns-in-Err-NoMemory-clause-any_moment g c = moments g (goal.at.returns-in-Err-NoMemory-clause-any_moment g c).After-append

pub returns-in-Ok-clause-done : goal.returns-in-Ok-clause-done
returns-in-Ok-clause-done g c =
    let log = c.self.inside.log in
    let new = g.V.Volume.view c.append.new.volume in
    let going : c.self.inside.failed ≡ false = ap (λ (s : StoreState _). s.failed) c.self.view_is ∙ c.requires.goes_on in
    let P : StoreState _ → Type 0 = λ s. Appended g.V.Volume.tells g.V.Volume.view s
    (record { volume = c.append.new.volume; form = c.self.inside.form; generation = c.self.inside.generation; log = c.append.new.self; history = c.args.next; failed = c.self.inside.failed }) c.args.payload.now c.args.next in
    subst P c.self.view_is (record {
      history = refl;
      form = refl;
      generation = refl;
      log =
          c.in-Ok.ensures.moved
          ∙ ap (λ (b : Bool). let l : LogState = record { side = log.side; start = log.start; end = log.end + 5 + length c.args.payload.now; failed = b } in l) (sym (c.self.invariant.log going));
      failed = going;
      each = λ told.
          each_stands c.self.inside.form c.self.inside.generation c.append.new.self c.args.next new
          (next_in_use g.V.Volume.tells g.V.Volume.view _ c.args.self.now c.self.view_is c.self.invariant c.requires.goes_on c.args.payload.now c.args.next c.requires.goes new told
          (c.append.ensures.any_moment told) (g.met.V.Volume.counts_now c.append.new.volume) c.append.new.self c.append.ensures.place (c.append.ensures.other_stays told)
          (g.met.V.Volume.stays c.append.new.volume told) (c.in-Ok.ensures.acknowledged told));
    })

pub invariant_of-self : goal.invariant_of-self
invariant_of-self g c =
    let going : c.self.inside.failed ≡ false = ap (λ (s : StoreState _). s.failed) c.self.view_is ∙ c.requires.goes_on in
    record {
      room = c.append.ensures.ready.room;
      some_generation = c.self.invariant.some_generation;
      generation_fits = c.self.invariant.generation_fits;
      log = λ _. ap (λ (l : LogState). l.failed) c.in-Ok.ensures.moved;
      fresh = λ told _.
          next_in_use g.V.Volume.tells g.V.Volume.view _ c.args.self.now c.self.view_is c.self.invariant c.requires.goes_on c.args.payload.now c.args.next c.requires.goes
          (g.V.Volume.view c.append.new.volume) told (c.append.ensures.any_moment told) (g.met.V.Volume.counts_now c.append.new.volume) c.append.new.self c.append.ensures.place (c.append.ensures.other_stays told)
          (g.met.V.Volume.stays c.append.new.volume told) (c.in-Ok.ensures.acknowledged told);
      lost = λ told failed. absurd (let both = sym going ∙ failed in cc);
    }

pub invariant_of-self-in-Err-Device : goal.invariant_of-self-in-Err-Device
invariant_of-self-in-Err-Device g c = record {
  room = c.append.ensures.ready.room;
  some_generation = c.self.invariant.some_generation;
  generation_fits = c.self.invariant.generation_fits;
  log = λ is. absurd (cc);
  fresh = λ told is. absurd (cc);
  lost = λ told _.
      either_left g.V.Volume.tells g.V.Volume.view _ c.args.self.now c.self.view_is c.self.invariant c.requires.goes_on c.args.payload.now c.args.next c.requires.goes
      (g.V.Volume.view c.append.new.volume) told (c.append.ensures.any_moment told) (g.met.V.Volume.counts_now c.append.new.volume);
}
