use Rattle.std.proofs.Common.{◌≡◌, ◌∙◌, ap, fold, ◌+ℤ◌, pos, sum, unsigned_abs}
use Rattle.std.proofs.lemmas.Int.{to_z-of_z}
use Rattle.std.proofs.lemmas.Result.{IfOk-weaker}
use Rattle.fw_shares.proofs.Signed.{signed_sum}
use Rattle.fw_shares.proofs.hamilton.share.Goals as goal

pub returns-clause-adds_up : goal.returns-clause-adds_up
returns-clause-adds_up c =
    let fits = c.ranges.total in
    let signed = simp to_z-of_z at c.signed_counts.ensures in
    let whole : sum c.deref-2.result.now ≡ unsigned_abs c.args.total =
    ap sum c.deref-2.ensures.value ∙ (c.in_ok-counts.ensures.whole ∙ (simp to_z-of_z at c.unsigned_abs.ensures.value)) in
    IfOk-weaker c.signed_counts.result _ _
    (λ v e. ap (fold ◌+ℤ◌ (pos 0)) e ∙ signed_sum c.args.total c.deref-2.result.now whole) signed
