-- The SKUs, rates, tags and purchases of lists that were read.
use Rattle.std.proofs.Common.{◌≡◌, ◌<◌, ◌≤◌, ◌<ℤ◌, ℕ, ℤ, zero, suc, pos, List, [], ◌∷◌, length, map, get_or, refl, sym, ap, ◌∙◌, arith, subst, Bor}
use Rattle.std.specs.List.{All}
use Rattle.std.proofs.lemmas.List.{length-map}
use Rattle.std.proofs.lemmas.Int.{ints}
use Rattle.fw_charge.specs.Charge.{IsShortText}
use Rattle.fw_charge.specs.Tags.{TagText, IsTagSized, IsTags, most_tags}
use Rattle.fw_money.specs.Amount.{most_nanos}
use Rattle.fw_terms.specs.Texts.{IsRising}
use Rattle.fw_terms.specs.Commitment.{RateValue, PurchaseValue, AreSkus, IsRate, AreRates, most_skus, cost_of}
use Rattle.fw_toml.proofs.Readings.{of_all_map}
use Rattle.fw_commitment.specs.Finding.{tag_shown}
use Rattle.fw_commitment.specs.Rules.{rate_stated, rates_stated, purchase_stated, purchases_stated, IsRateStated, AreRatesStated, ArePurchasesStated}
use Rattle.fw_commitment.proofs.ListFacts.{map-at, map-map, map-one}

abbrev shown : List (Bor (List ℕ)) → List (List ℕ)
shown texts = map (λ t. t.now) texts

-- ---- SKUs

pub sku-not : (texts : List (Bor (List ℕ))) (i : ℕ) (d : Bor (List ℕ)) → i < length texts → ¬ IsShortText (get_or texts i d).now → ¬ AreSkus (map (λ t. t.now) texts)
sku-not texts i d lt long are = long (of_all_map IsShortText (λ t. t.now) texts are.named i d lt)

-- ---- rates

abbrev pub rate_shown : Bor (List ℕ) × ℤ → List ℕ × ℤ
rate_shown e = (e.0.now, e.1)

pub rate-not : (stated : List (Bor (List ℕ) × ℤ)) (i : ℕ) (d : Bor (List ℕ) × ℤ) → i < length stated → ¬ IsRateStated (rate_shown (get_or stated i d)) → ¬ AreRatesStated (map rate_shown stated)
rate-not stated i d lt not (rates, same, are) =
    let (r, is, rate) = map-at rate_shown rate_stated IsRate stated rates i d same are.each lt in not (r, is, rate)

pub rates-are : (stated : List (Bor (List ℕ) × ℤ)) (rates : List RateValue) → map rate_shown stated ≡ rates_stated rates → 0 < length stated → length stated ≤ most_skus → All IsRate rates → IsRising (map (λ e. e.0.now) stated)
    → AreRates rates
rates-are stated rates same some few each rising =
    let sizes = ap length same in
    let left = length-map stated rate_shown in
    let right = length-map rates rate_stated in
    let names = ap (map (λ (p : List ℕ × ℤ). p.0)) same in
    let skus = sym (map-map (λ (p : List ℕ × ℤ). p.0) rate_shown stated) ∙ (names ∙ map-map (λ (p : List ℕ × ℤ). p.0) rate_stated rates) in
    record { some = omega arith; few = omega arith; each = each; rising = subst IsRising skus rising }

-- ---- tags

pub tag-not : (texts : List (Bor (List ℕ) × Bor (List ℕ))) (i : ℕ) (d : Bor (List ℕ) × Bor (List ℕ)) → i < length texts → ¬ IsTagSized (tag_shown (get_or texts i d)) → ¬ IsTags (map tag_shown texts)
tag-not texts i d lt not are = not (of_all_map IsTagSized tag_shown texts are.sized i d lt)

pub tags-are : (texts : List (Bor (List ℕ) × Bor (List ℕ))) (tags : List TagText) → tags ≡ map tag_shown texts → length texts ≤ most_tags → All IsTagSized tags → IsRising (map (λ e. e.0.now) texts) → IsTags tags
tags-are texts tags same few sized rising =
    let sizes = ap length same ∙ length-map texts tag_shown in
    let keys = sym (ap (map (λ (t : TagText). t.key)) same ∙ map-map (λ (t : TagText). t.key) tag_shown texts) in
    record { rising = subst IsRising keys rising; few = omega arith; sized = sized }

-- ---- purchases

payment-at : (payments : List (ℕ × ℤ)) (purchases : List PurchaseValue) (i : ℕ) (d : ℕ × ℤ) → payments ≡ purchases_stated purchases → i < length payments → (p : PurchaseValue) × (get_or payments i d ≡ purchase_stated p)
payment-at [] ps i d same lt = absurd (omega arith)
payment-at (x ∷ xs) [] i d same lt = absurd (cc)
payment-at (x ∷ xs) (p ∷ ps) zero d same lt = let here : x ≡ purchase_stated p = cc in (p, here)
payment-at (x ∷ xs) (p ∷ ps) (suc i) d same lt = let rest : xs ≡ purchases_stated ps = cc in payment-at xs ps i d rest (omega arith)

-- a natural number is not below 0
not_low : (z : ℤ) (n : ℕ) → z <ℤ pos 0 → z ≡ pos n → ⊥
not_low z n low e = omega (arith, ints)

pub payment-not : (payments : List (ℕ × ℤ)) (i : ℕ) (d : ℕ × ℤ) → i < length payments → (get_or payments i d).1 <ℤ pos 0 → ¬ ArePurchasesStated payments
payment-not payments i d lt low (purchases, same, are) =
    let (p, is) = payment-at payments purchases i d same lt in
    let amount = ap (λ (q : ℕ × ℤ). q.1) is in
    not_low (get_or payments i d).1 p.billed low amount

stated-one : (p q : PurchaseValue) → purchase_stated p ≡ purchase_stated q → p ≡ q
stated-one p q e =
    let seconds = ap (λ (x : ℕ × ℤ). x.0) e in
    let amounts : pos p.billed ≡ pos q.billed = ap (λ (x : ℕ × ℤ). x.1) e in
    let nanos : p.billed ≡ q.billed = cc in
    same_purchase p.at q.at p.billed q.billed seconds nanos
  where
    same_purchase : (a b m n : ℕ) → a ≡ b → m ≡ n → ◌≡◌ {A = PurchaseValue} (record { at = a; billed = m }) (record { at = b; billed = n })
    same_purchase a b m n s t = rw (s, t) refl

pub purchases-one : (a b : List PurchaseValue) → purchases_stated a ≡ purchases_stated b → a ≡ b
purchases-one a b e = map-one purchase_stated stated-one a b e

pub purchases-dear : (payments : List (ℕ × ℤ)) (purchases : List PurchaseValue) → payments ≡ purchases_stated purchases → most_nanos < cost_of purchases → ¬ ArePurchasesStated payments
purchases-dear payments purchases is dear (others, same, are) =
    let one = purchases-one others purchases (sym same ∙ is) in
    let cost = ap cost_of one in
    omega (arith, are.cost)
