use Rattle.std.proofs.Common.{◌∷◌, All, subst, sym}
use Rattle.std.proofs.lemmas.List.Elements.{All-head, All-tail}
use Rattle.fw_sums.specs.ReportCache.{IsFound}
use Rattle.fw_sums.proofs.CoverFacts.{found_kept, found_more}
use Rattle.fw_sums.proofs.cache.HourSums.keep_found.Goals as goal

pub loop-one-init : goal.loop-one-init
loop-one-init c = record {
  kept = λ cs rows key found kept. (kept, subst (All (IsFound cs rows key)) (sym c.into_iter-one-iterator.ensures.into_iter_gives.0) found);
  more = λ hour none. none;
}

pub loop-one-preserved : goal.loop-one-preserved
loop-one-preserved c = record {
  kept = λ cs rows key found kept.
      let before = c.loop-one.invariant.kept cs rows key found kept in
      let left : All (IsFound cs rows key) (c.in-Some.one ∷ c.next.new.self.rest.items) = subst (All (IsFound cs rows key)) c.in-Some.ensures.steps.0 before.1 in
      (found_kept c.loop-one.self c.keep.new.self c.in-Some.one c.keep.ensures cs rows key (All-head (IsFound cs rows key) c.in-Some.one c.next.new.self.rest.items left) before.0, All-tail (IsFound cs rows key) c.in-Some.one c.next.new.self.rest.items left);
  more = λ hour none. c.loop-one.invariant.more hour (found_more c.loop-one.self c.keep.new.self c.in-Some.one c.keep.ensures hour none);
}

pub returns-clause-kept : goal.returns-clause-kept
returns-clause-kept c = λ cs rows key found kept. (c.loop-one.invariant.kept cs rows key found kept).0

pub returns-clause-more : goal.returns-clause-more
returns-clause-more c = c.loop-one.invariant.more
