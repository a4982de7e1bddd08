use Rattle.std.proofs.Common.{map, refl}
use Rattle.std.proofs.lemmas.Result.{on_ok_weaker}
use Rattle.fw_amortise.specs.Lines.{shared_lines}
use Rattle.fw_amortise.proofs.Weights.{shared_lines-added}
use Rattle.fw_amortise.proofs.shared.push_commitment.Goals as goal

pub returns : goal.returns
returns c =
    on_ok_weaker c.push_unused.result
    (λ e. record {
      own = shared_lines c.args.hour c.args.commitment.now (map (λ r. r.now) c.args.rows.now) c.args.takes.now c.in_ok-shares.shares.items;
      are_lines = record { shares = c.in_ok-shares.shares.items; are_shares = c.in_ok-shares.ensures.shares; are_lines = refl };
      added = shared_lines-added c.args.hour c.args.commitment.now (map (λ r. r.now) c.args.rows.now) c.args.takes.now c.in_ok-shares.shares.items c.deref.result.now c.deref-2.result.now _ _ _
          c.deref.ensures.value c.deref-2.ensures.value c.in_ok-push_used.ensures e;
    })
    c.push_unused.ensures
