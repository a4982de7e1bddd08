use Rattle.std.proofs.Common.{◌<◌, ◌+◌, arith, get_or, take}
use Rattle.std.proofs.lemmas.List.Elements.{All-more, All-weaker}
use Rattle.fw_lanes.proofs.by_code.code_count.Goals as goal

pub loop-code-preserved : goal.loop-code-preserved
loop-code-preserved c =
    let i = c.loop-code.code-index in
    let codes = c.args.codes.now in
    let kept = c.loop-code.invariant in
    let more = c.greater-greatest.ensures.above_both.0 in
    let own = c.greater-greatest.ensures.above_both.1 in
    let here : get_or codes i 0 < c.greater-greatest.result + 1 = omega (arith, own) in
    record {
      above = All-more (λ code. code < c.greater-greatest.result + 1) codes i 0 c.loop-code-test.true
          (All-weaker (λ code. code < c.loop-code.greatest + 1) (λ code. code < c.greater-greatest.result + 1) (λ code below. omega (arith, below, more)) (take i codes) kept.above) here;
      least = λ n some all. c.greater-greatest.ensures.least n (kept.least n some all) (all i 0 c.loop-code-test.true);
    }
