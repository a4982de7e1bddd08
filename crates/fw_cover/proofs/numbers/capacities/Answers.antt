use Rattle.std.proofs.Common.{◌∙◌, refl}
use Rattle.std.proofs.lemmas.List.{take_more, map-append}
use Rattle.std.proofs.lemmas.List.Elements.{All-more}
use Rattle.fw_terms.specs.Commitment.{IsCommitment}
use Rattle.fw_cover.proofs.numbers.capacities.Goals as goal

pub loop-commitment-preserved : goal.loop-commitment-preserved
loop-commitment-preserved c =
    let d = c.commitment-item.result in
    let at = c.loop-commitment.commitment-index in
    record {
      values = c.in_ok-push.ensures.items ∙ (rw (c.loop-commitment.invariant.values, c.capacity.ensures.value, take_more c.args.commitments.now at d c.loop-commitment-test.true, ← c.commitment-item.is, map-append) refl);
      in_limits = All-more IsCommitment c.args.commitments.now at d c.loop-commitment-test.true c.loop-commitment.invariant.in_limits (rw (← c.commitment-item.is) c.capacity.ensures.in_limits);
    }
