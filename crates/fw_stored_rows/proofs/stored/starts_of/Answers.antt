use Rattle.std.proofs.Common.{◌≡◌, ◌+◌, sym, subst, arith}
use Rattle.fw_posted.proofs.PartFacts.{count_next}
use Rattle.fw_stored_rows.proofs.StartFacts.{AreFirst, first_more}
use Rattle.fw_stored_rows.proofs.stored.starts_of.Goals as goal

pub loop-place-preserved : goal.loop-place-preserved
loop-place-preserved c =
    let segments = c.args.segments.now in
    let k = c.loop-place.place in
    let rows = c.get.result.now in
    let next = count_next segments k rows c.get.ensures in
    let sum : c.in-Some.behind ≡ c.loop-place.rows + c.len-len.result = c.in-Some.ensures.1 in
    record {
      first =
          subst (λ starts. AreFirst starts segments (k + 1)) (sym c.in_ok-push.ensures.items)
          (first_more c.loop-place.starts.items segments k c.loop-place.rows c.loop-place.invariant.first c.loop-place.invariant.rows);
      rows = omega (arith, sum, next, c.loop-place.invariant.rows, c.len-len.ensures.count);
    }
