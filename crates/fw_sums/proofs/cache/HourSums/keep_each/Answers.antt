use Rattle.std.proofs.Common.{◌∷◌, All, subst, sym}
use Rattle.std.proofs.lemmas.List.Elements.{All-head, All-tail}
use Rattle.fw_sums.specs.ReportCache.{AreFound}
use Rattle.fw_sums.proofs.cache.HourSums.keep_each.Goals as goal

pub loop-found-init : goal.loop-found-init
loop-found-init c = record {
  kept = λ cs rows key found kept. (kept, subst (All (AreFound cs rows key)) (sym c.into_iter-found-iterator.ensures.into_iter_gives.0) found);
  more = λ hour none. none;
}

pub loop-found-preserved : goal.loop-found-preserved
loop-found-preserved c = record {
  kept = λ cs rows key found kept.
      let before = c.loop-found.invariant.kept cs rows key found kept in
      let left : All (AreFound cs rows key) (c.in-Some.found ∷ c.next.new.self.rest.items) = subst (All (AreFound cs rows key)) c.in-Some.ensures.steps.0 before.1 in
      (c.keep_any.ensures.kept cs rows key (All-head (AreFound cs rows key) c.in-Some.found c.next.new.self.rest.items left) before.0, All-tail (AreFound cs rows key) c.in-Some.found c.next.new.self.rest.items left);
  more = λ hour none. c.loop-found.invariant.more hour (c.keep_any.ensures.more hour none);
}

pub returns-clause-kept : goal.returns-clause-kept
returns-clause-kept c = λ cs rows key found kept. (c.loop-found.invariant.kept cs rows key found kept).0

pub returns-clause-more : goal.returns-clause-more
returns-clause-more c = c.loop-found.invariant.more
