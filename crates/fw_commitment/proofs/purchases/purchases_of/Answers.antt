use Rattle.std.proofs.Common.{◌≡◌, ◌≤◌, ◌<ℤ◌, ℕ, ℤ, pos, refl, length, get_or, ap, sym, ◌∙◌, arith, rules, w64}
use Rattle.std.proofs.lemmas.Int.{ints}
use Rattle.std.proofs.lemmas.List.{take_all}
use mir.Val.{SFits}
use Rattle.fw_charge.specs.Charge.{last_second}
use Rattle.fw_terms.specs.Commitment.{cost_of}
use Rattle.fw_commitment.specs.Rules.{purchase_stated}
use Rattle.fw_commitment.proofs.ListFacts.{grown-take, all-grown}
use Rattle.fw_commitment.proofs.TermFacts.{payment-not, purchases-dear}
use Rattle.fw_commitment.proofs.purchases.purchases_of.Goals as goal

same_payment : (s t : ℕ) (m n : ℤ) → s ≡ t → m ≡ n → ◌≡◌ {A = ℕ × ℤ} (s, m) (t, n)
same_payment s t m n p q = rw (p, q) refl

pub returns-then-count-lt0 : goal.returns-then-count-lt0
returns-then-count-lt0 c =
    let payments = c.args.payments.now in
    let i = c.loop-payment.payment-index in
    let fits : SFits w64 c.count.result = search rules in
    let same = c.count.ensures.value ∙ ap (λ (p : ℕ × ℤ). p.1) c.payment-item.is in
    let low : (get_or payments i c.payment-item.result).1 <ℤ pos 0 = let test = c.if-count-lt0.true in grind (arith, ints) in
    payment-not payments i c.payment-item.result c.loop-payment-test.true low

pub loop-payment-preserved : goal.loop-payment-preserved
loop-payment-preserved c =
    let payments = c.args.payments.now in
    let i = c.loop-payment.payment-index in
    let e = c.payment-item.result in
    let lt = c.loop-payment-test.true in
    let p = c.of_fields.result in
    let is : purchase_stated p ≡ get_or payments i e = same_payment p.at e.0 (pos p.billed) e.1 c.of_fields.ensures.at c.of_fields.ensures.billed ∙ c.payment-item.is in
    let dated : p.at ≤ last_second = let bound = c.requires i e lt in let second = ap (λ (q : ℕ × ℤ). q.0) is in omega arith in
    record {
      same = grown-take purchase_stated payments i e c.loop-payment.purchases.items c.push.new.self.items p lt c.loop-payment.invariant.same c.in_ok-push.ensures.items is;
      dated = all-grown (λ p. p.at ≤ last_second) c.loop-payment.purchases.items c.push.new.self.items p c.in_ok-push.ensures.items c.loop-payment.invariant.dated dated;
    }

pub returns-then-total_cost : goal.returns-then-total_cost
returns-then-total_cost c =
    let payments = c.args.payments.now in
    let past : length payments ≤ c.loop-payment.payment-index = let end = c.loop-payment-test.false in omega arith in
    let same = sym (c.loop-payment.invariant.same ∙ take_all c.loop-payment.payment-index payments past) in
    let cost = c.total_cost.ensures ∙ ap cost_of c.deref.ensures.value in
    let dear = c.if-total_cost.true in
    purchases-dear payments c.loop-payment.purchases.items same (omega arith)
