use Rattle.std.proofs.Common.{◌≡◌, ◌∙◌, length, sym}
use Rattle.fw_sums.specs.CodeSums.{codes_of}
use Rattle.fw_sums.proofs.CodeSumFacts.{rows_of_amounts}
use Rattle.fw_sums.proofs.summing.code_sums.Goals as goal

pub returns : goal.returns
returns c =
    let codes : c.as_slice-codes.result.now ≡ codes_of c.args.key.now c.args.segment.now = c.as_slice-codes.ensures.value ∙ c.in_ok-codes.ensures.codes in
    let many : c.code_count.result ≡ length c.in_ok-sums.sums.items = sym c.in_ok-sums.ensures.sums.many in
    record {
      within = rw (codes, many) at c.code_count.ensures.above;
      are = rw (codes, many, c.billed.ensures.costs, c.effective.ensures.costs) at c.in_ok-sums.ensures.sums;
      billed_small = c.in_ok-sums.ensures.small_billed;
      effective_small = c.in_ok-sums.ensures.small_effective;
      amounts = rows_of_amounts c.args.segment.now (rw c.billed.ensures.costs at c.billed.ensures.amounts) (rw c.effective.ensures.costs at c.effective.ensures.amounts);
    }
