use Rattle.std.proofs.Common.{string_bytes}
use Rattle.fw_charge.specs.Charge.{IsShortText}
use Rattle.fw_commitment.proofs.ListFacts.{grown, all-grown, map-more}
use Rattle.fw_commitment.proofs.TermFacts.{sku-not}
use Rattle.fw_commitment.proofs.terms.skus_of.Goals as goal

pub returns-then-not-is_short_text : goal.returns-then-not-is_short_text
returns-then-not-is_short_text c = sku-not c.args.texts.now c.loop-text.text-index _ c.loop-text-test.true (λ short. let same = c.if-not-is_short_text.ensures.1 short in absurd (cc))

pub loop-text-preserved : goal.loop-text-preserved
loop-text-preserved c =
    let texts = c.args.texts.now in
    let i = c.loop-text.text-index in
    let lt = c.loop-text-test.true in
    let short = c.is_short_text.ensures.0 c.if-not-is_short_text.false in
    record {
      same = grown (λ t. t.now) string_bytes texts i _ c.loop-text.skus.items c.push.new.self.items c.in_ok-from_str.field-0 lt c.loop-text.invariant.same c.in_ok-push.ensures.items c.in_ok-from_str.ensures.ok;
      named = all-grown IsShortText _ _ _ (map-more (λ t. t.now) texts i _ lt) c.loop-text.invariant.named short;
    }
