use Rattle.std.proofs.Common.{below_more, arith, refl}
use Rattle.fw_toml.proofs.NameFacts.{among, not_among, is_here, not_here}
use Rattle.fw_toml.proofs.names.is_among.Goals as goal

pub loop-known-preserved : goal.loop-known-preserved
loop-known-preserved c =
    let here = not_here c.args.names.now c.args.name.now c.loop-known.known-index _ c.eq.result c.loop-known-test.true c.eq.ensures c.if-eq.false in
    below_more _ _ c.loop-known.invariant here

pub returns-then-eq : goal.returns-then-eq
returns-then-eq c =
    let here = is_here c.args.names.now c.args.name.now c.loop-known.known-index _ c.eq.result c.eq.ensures c.if-eq.true in
    (λ holds. among c.args.names.now c.args.name.now c.loop-known.known-index _ c.loop-known-test.true here, λ there. refl)

pub returns : goal.returns
returns c = (λ holds. absurd (cc), λ there. absurd (not_among c.args.names.now c.args.name.now (λ k lt d. c.loop-known.invariant k (omega arith) d) there))
