use Rattle.std.proofs.Common.{◌≡◌, ◌∙◌, All, List, false, sym, subst}
use Rattle.std.proofs.lemmas.List.{take_all}
use Rattle.std.proofs.lemmas.List.Elements.{All-more}
use Rattle.std.proofs.lemmas.List.Folds.{list_any_none}
use Rattle.fw_terms.specs.Commitment.{CommitmentValue}
use Rattle.fw_snapshot.specs.Judging.{refuses}
use Rattle.fw_snapshot.proofs.judging.is_refused.Goals as goal

pub loop-commitment-preserved : goal.loop-commitment-preserved
loop-commitment-preserved c =
    let Takes : CommitmentValue → Type 0 = λ one. refuses c.args.added.now one ≡ false in
    All-more Takes c.args.commitments.now c.loop-commitment.commitment-index c.commitment-item.result c.loop-commitment-test.true c.loop-commitment.invariant (subst Takes c.commitment-item.is (sym c.refuses.ensures ∙ c.if-refuses.false))

pub returns : goal.returns
returns c =
    let Takes : CommitmentValue → Type 0 = λ one. refuses c.args.added.now one ≡ false in
    sym (list_any_none (refuses c.args.added.now) c.args.commitments.now
    (subst (λ (cs : List CommitmentValue). All Takes cs) (take_all c.loop-commitment.commitment-index c.args.commitments.now c.loop-commitment-test.false) c.loop-commitment.invariant))
