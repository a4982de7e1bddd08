use Rattle.fw_recover.proofs.store.Store.create.Goals as goal

pub invariant_of-result : goal.invariant_of-result
invariant_of-result g c =
    let kept = c.in-Ok.ensures.in_use in
    record {
      room = kept.room;
      some_generation = kept.some_generation;
      generation_fits = kept.generation_fits;
      log = λ goes_on. kept.log_goes_on;
      fresh = λ told goes_on. kept.fresh told;
      lost = λ told lost. absurd (cc);
    }
