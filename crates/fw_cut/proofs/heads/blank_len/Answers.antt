use Rattle.std.proofs.Common.{◌∙◌, sym, arith, below_more, length}
use Rattle.std.proofs.lemmas.List.Sums.{position_or_len_is}
use Rattle.fw_cut.specs.Records.{is_content}
use Rattle.fw_cut.proofs.heads.blank_len.Goals as goal

pub loop-index-preserved : goal.loop-index-preserved
loop-index-preserved c = below_more _ _ c.loop-index.invariant (sym c.is_content.ensures ∙ c.if-is_content.false)

pub returns-then-is_content-clause-value : goal.returns-then-is_content-clause-value
returns-then-is_content-clause-value c =
    sym (position_or_len_is is_content c.args.text.now c.loop-index.index 0 (omega arith) c.loop-index.invariant (λ _. sym c.is_content.ensures ∙ c.if-is_content.true))

pub returns-clause-value : goal.returns-clause-value
returns-clause-value c =
    sym (position_or_len_is is_content c.args.text.now (length c.args.text.now) 0 (omega arith) (λ k lt. c.loop-index.invariant k (omega (arith, lt))) (λ lt. absurd (omega arith)))
