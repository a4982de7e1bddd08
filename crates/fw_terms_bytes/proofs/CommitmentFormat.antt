-- What is read of a commitment is spelled so, and what is spelled so is read.
use Rattle.std.proofs.Common.{◌≡◌, ℕ, ◌^◌, ◌<◌, ◌≤◌, true, false, ◌&&◌, leb, List, [], ◌∷◌, ◌++◌, length, map, Option, Some, None, Ok, Err, ℤ, pos, negsuc, nat_abs, refl, arith}
use Rattle.std.specs.Int.{w32}
use Rattle.std.specs.List.{All}
use Rattle.std.specs.Option.{IfSome}
use Rattle.std.specs.Str.{IsUtf8}
use Rattle.std.proofs.lemmas.Bool.{and_parts, and_from, ltb-true, lt-ltb, leb-true, le-leb}
use Rattle.std.proofs.lemmas.List.Elements.{All-weaker}
use Rattle.std.proofs.lemmas.List.Sums.{get_or-le-sum_by}
use Rattle.fw_bytes.specs.Spelling.{number32, text, optional, listed, pair, Fits32, FitsOptional, FitsList, FitsPair, FitsChecked, Always}
use Rattle.fw_bytes.specs.declared.fault.ReadError.{ReadError}
use Rattle.fw_bytes.specs.declared.fault.ReadError.TheVariants as errors
use Rattle.fw_bytes.specs.Reading.{Fails, code_at, checked, seen}
use Rattle.fw_bytes.proofs.Laws.{IsBytes, IsFormat, checked_format, seen_format, both_format, code_format, optional_format, list_format, number_format, wide32}
use Rattle.fw_bytes.proofs.Rising.{sorted_from_rise, rise_from_sorted}
use Rattle.fw_money.specs.Amount.{most_nanos}
use Rattle.fw_charge.specs.declared.discount.DiscountKind.{DiscountKind}
use Rattle.fw_charge.specs.declared.discount.DiscountKind.TheVariants as kind
use Rattle.fw_charge.specs.Charge.{IsShortText, last_second, longest_short_text}
use Rattle.fw_charge.specs.Codes as discount
use Rattle.fw_charge.specs.Codes.{kind_code}
use Rattle.fw_charge.proofs.CodeFacts.{kind_back, kind_there}
use Rattle.fw_charge.specs.Tags.{TagText, IsTagSized, IsTags, most_tags, longest_tag_text}
use Rattle.fw_charge.specs.Spelling.{nanos, tags, keys_rise, FitsNanos, FitsSecond, FitsShortText, FitsTag, FitsTags}
use Rattle.fw_fields.proofs.FieldFormats.{nanos_format, second_format, short_text_format, tags_format}
use Rattle.fw_terms.specs.Commitment.{PurchaseValue, RateValue, TermsValue, CommitmentValue, kind_of, cost_of, most_skus, most_purchases, AreSkus, IsRate, IsTerms, ArePurchases, IsCommitment}
use Rattle.fw_terms.specs.Commitment.TermsValue.{usage, spend}
use Rattle.fw_terms.specs.Spelling.{rate, purchase, committed, names, term, commitment, IsTagUtf8, AreTermsUtf8, IsSpelledCommitment, IsSpelledPurchase}
use Rattle.fw_terms_bytes.specs.Reading.{is_start, is_hours, is_ppm, is_cost, is_capacity, start_at, hours_at, capacity_at, cost_at, ppm_at, Names, names_at, Term, term_at, skus_at, rate_from, rate_at, rates_at, usage_from, committed_at, purchase_from, purchase_at, purchases_at, Head, Fields, head_at, fields_at, commitment_from, skus_rise, commitment_rules, commitment_at}
use Rattle.fw_terms_bytes.proofs.Formats.{then_by_format, told_format, case_format}
use Rattle.fw_terms.proofs.Ranges.{count_from_list, list_from_count, text_fits, text_utf8}
use Rattle.fw_terms.proofs.Utf8.{account_utf8, tags_utf8}

-- ---- single fields

kind_format : IsFormat (code_at discount.kind_of) (λ k. kind_code (Some k) ∷ []) Always
kind_format = code_format discount.kind_of (λ k. kind_code (Some k)) kind_back kind_there

start_format : IsFormat start_at number32 (FitsChecked is_start Fits32)
unfolding start_at
start_format = checked_format is_start (number_format w32 (2 ^ 32) wide32)

hours_format : IsFormat hours_at number32 (FitsChecked is_hours Fits32)
unfolding hours_at
hours_format = checked_format is_hours (number_format w32 (2 ^ 32) wide32)

ppm_format : IsFormat ppm_at number32 (FitsChecked is_ppm Fits32)
unfolding ppm_at
ppm_format = checked_format is_ppm (number_format w32 (2 ^ 32) wide32)

-- an amount that isn't negative

cost_there : (z : ℤ) → FitsChecked is_cost FitsNanos z → pos (nat_abs z) ≡ z
cost_there (pos n) h = refl
cost_there (negsuc n) h = let e : false ≡ true = h.1 in absurd cc

capacity_there : (z : ℤ) → FitsChecked is_capacity FitsNanos z → pos (nat_abs z) ≡ z
capacity_there (pos n) h = refl
capacity_there (negsuc n) h = let e : false ≡ true = h.1 in absurd cc

cost_is : (n : ℕ) → FitsChecked is_cost FitsNanos (pos n) → n ≤ most_nanos
cost_is n h = leb-true n most_nanos h.0.1

cost_fits : (n : ℕ) → n ≤ most_nanos → FitsChecked is_cost FitsNanos (pos n)
cost_fits n h = ((lt-ltb n _ (omega arith), le-leb n most_nanos h), refl)

cost_format : IsFormat cost_at (λ n. nanos (pos n)) (λ n. n ≤ most_nanos)
unfolding cost_at
cost_format = told_format cost_is cost_fits (seen_format nat_abs (λ n. pos n) cost_there (λ n h. refl) (checked_format is_cost nanos_format))

pub record IsCapacity (n : ℕ) : Type 0 where
  pub some : 0 < n
  pub most : n ≤ most_nanos

capacity_is : (n : ℕ) → FitsChecked is_capacity FitsNanos (pos n) → IsCapacity n
capacity_is n h = record { some = ltb-true 0 n h.1; most = leb-true n most_nanos h.0.1 }

capacity_fits : (n : ℕ) → IsCapacity n → FitsChecked is_capacity FitsNanos (pos n)
capacity_fits n h = ((lt-ltb n _ (let m = h.most in omega arith), le-leb n most_nanos h.most), lt-ltb 0 n h.some)

capacity_format : IsFormat capacity_at (λ n. nanos (pos n)) IsCapacity
unfolding capacity_at
capacity_format = told_format capacity_is capacity_fits (seen_format nat_abs (λ n. pos n) capacity_there (λ n h. refl) (checked_format is_capacity nanos_format))

-- ---- SKUs and rates

abbrev rate_to : RateValue → List ℕ × ℕ
rate_to r = (r.sku, r.ppm)

-- a rate in its limits, whose SKU is UTF-8
pub record IsSpelledRate (r : RateValue) : Type 0 where
  pub limits : IsRate r
  pub sku : IsUtf8 r.sku

pub short_is : (bytes : List ℕ) → FitsShortText bytes → IsShortText bytes
short_is bytes h = let p = and_parts _ _ h.1 in record { some = ltb-true _ _ p.0; few = leb-true _ _ p.1 }

pub short_fits : (bytes : List ℕ) → IsShortText bytes → IsUtf8 bytes → FitsShortText bytes
short_fits bytes h u = (text_fits longest_short_text bytes (omega arith) h.few u, and_from _ _ (lt-ltb _ _ h.some) (le-leb _ _ h.few))

rate_is : (r : RateValue) → FitsPair FitsShortText (FitsChecked is_ppm Fits32) (rate_to r) → IsSpelledRate r
rate_is r h =
    let p = and_parts _ _ h.1.1 in
    record { limits = record { sku = short_is r.sku h.0; some = ltb-true _ _ p.0; most = leb-true _ _ p.1 }; sku = text_utf8 r.sku h.0.0 }

rate_fits : (r : RateValue) → IsSpelledRate r → FitsPair FitsShortText (FitsChecked is_ppm Fits32) (rate_to r)
rate_fits r s =
    let most = s.limits.most in
    (short_fits r.sku s.limits.sku s.sku, (lt-ltb _ _ (omega arith), and_from _ _ (lt-ltb _ _ s.limits.some) (le-leb _ _ s.limits.most)))

rate_format : IsFormat rate_at rate IsSpelledRate
unfolding rate_at rate
rate_format = told_format rate_is rate_fits (seen_format rate_from rate_to (λ x h. refl) (λ y h. refl) (both_format short_text_format ppm_format))

rates_format : IsFormat rates_at (listed rate) (FitsList 1 most_skus IsSpelledRate)
unfolding rates_at
rates_format = list_format 1 most_skus rate_format

skus_format : IsFormat skus_at (listed text) (FitsList 1 most_skus FitsShortText)
unfolding skus_at
skus_format = list_format 1 most_skus short_text_format

-- ---- what is committed to

-- the terms of a kind, each field in its range
abbrev pub FitsCommitted : DiscountKind → TermsValue → Type 0
FitsCommitted kind.Usage (usage unit skus) = FitsPair FitsShortText (FitsList 1 most_skus FitsShortText) (unit, skus)
FitsCommitted kind.Usage (spend rates) = ⊥
FitsCommitted kind.Spend (usage unit skus) = ⊥
FitsCommitted kind.Spend (spend rates) = FitsList 1 most_skus IsSpelledRate rates

usage_back : (t : TermsValue) → FitsCommitted kind.Usage t → (x : List ℕ × List (List ℕ)) × (usage_from x ≡ t) × FitsPair FitsShortText (FitsList 1 most_skus FitsShortText) x
usage_back (usage unit skus) h = ((unit, skus), refl, h)
usage_back (spend rates) h = absurd h

spend_back : (t : TermsValue) → FitsCommitted kind.Spend t → (x : List RateValue) × (spend x ≡ t) × FitsList 1 most_skus IsSpelledRate x
spend_back (usage unit skus) h = absurd h
spend_back (spend rates) h = (rates, refl, h)

committed_format : (k : DiscountKind) → IsFormat (committed_at k) committed (FitsCommitted k)
unfolding committed_at committed
committed_format kind.Usage = case_format usage_from committed (FitsCommitted kind.Usage) (λ x. refl) (λ x h. h) usage_back (both_format short_text_format skus_format)
committed_format kind.Spend = case_format (λ (x : List RateValue). spend x) committed (FitsCommitted kind.Spend) (λ x. refl) (λ x h. h) spend_back rates_format

-- ---- purchases

abbrev purchase_to : PurchaseValue → ℕ × ℕ
purchase_to p = (p.at, p.billed)

purchase_is : (p : PurchaseValue) → FitsPair FitsSecond (λ n. n ≤ most_nanos) (purchase_to p) → IsSpelledPurchase p
purchase_is p h = record { at = leb-true _ _ h.0.1; billed = h.1 }

purchase_fits : (p : PurchaseValue) → IsSpelledPurchase p → FitsPair FitsSecond (λ n. n ≤ most_nanos) (purchase_to p)
purchase_fits p h = ((lt-ltb _ _ (let d = h.at in omega arith), le-leb _ _ h.at), h.billed)

pub purchase_format : IsFormat purchase_at purchase IsSpelledPurchase
unfolding purchase_at purchase
purchase_format = told_format purchase_is purchase_fits (seen_format purchase_from purchase_to (λ x h. refl) (λ y h. refl) (both_format second_format cost_format))

purchases_format : IsFormat purchases_at (listed purchase) (FitsList 1 most_purchases IsSpelledPurchase)
unfolding purchases_at
purchases_format = list_format 1 most_purchases purchase_format

-- ---- all fields

abbrev FitsNames : Names → Type 0
FitsNames = FitsPair FitsShortText (FitsPair Always (FitsPair (FitsOptional FitsShortText) FitsTags))

abbrev FitsTerm : Term → Type 0
FitsTerm = FitsPair (FitsChecked is_start Fits32) (FitsPair (FitsChecked is_hours Fits32) IsCapacity)

abbrev head_spelled : Head → List ℕ
head_spelled = pair (pair text (pair (λ k. kind_code (Some k) ∷ []) (pair (optional text) tags))) (pair number32 (pair number32 (λ n. nanos (pos n))))

head_format : IsFormat head_at head_spelled (FitsPair FitsNames FitsTerm)
unfolding head_at names_at term_at
head_format =
    both_format (both_format short_text_format (both_format kind_format (both_format (optional_format short_text_format) tags_format)))
    (both_format start_format (both_format hours_format capacity_format))

abbrev FitsFields : Fields → Type 0
FitsFields f = FitsPair FitsNames FitsTerm f.0 × FitsPair (FitsCommitted f.0.0.1.0) (FitsList 1 most_purchases IsSpelledPurchase) f.1

fields_format : IsFormat fields_at (λ f. head_spelled f.0 ++ pair committed (listed purchase) f.1) FitsFields
unfolding fields_at
fields_format = then_by_format head_format (λ head. both_format (committed_format head.0.1.0) purchases_format)

-- ---- a commitment

abbrev pub commitment_to : CommitmentValue → Fields
commitment_to c = (((c.id, (kind_of c.terms, (c.sub_account, c.tags))), (c.start, (c.hours, c.capacity))), (c.terms, c.purchases))

abbrev FitsCommitment : CommitmentValue → Type 0
FitsCommitment c = FitsChecked commitment_rules (λ c. FitsFields (commitment_to c)) c

-- terms of a kind are of that kind
kind_is : (k : DiscountKind) (t : TermsValue) → FitsCommitted k t → kind_of t ≡ k
kind_is kind.Usage (usage unit skus) h = refl
kind_is kind.Usage (spend rates) h = absurd h
kind_is kind.Spend (usage unit skus) h = absurd h
kind_is kind.Spend (spend rates) h = refl

fields_there : (f : Fields) → FitsFields f → commitment_to (commitment_from f) ≡ f
fields_there f h = rw (kind_is f.0.0.1.0 f.1.0 h.1.0) refl

fits_format : IsFormat commitment_at commitment FitsCommitment
unfolding commitment_at commitment names term
fits_format = checked_format commitment_rules (seen_format commitment_from commitment_to fields_there (λ c h. refl) fields_format)

-- ---- what fits is spelled, and the other way round

terms_are : (t : TermsValue) → FitsCommitted (kind_of t) t → skus_rise t ≡ true → IsTerms t × AreTermsUtf8 t
terms_are (usage unit skus) h e =
    let n = count_from_list 1 most_skus FitsShortText skus h.1 in
    let kept : AreSkus skus = record { some = n.some; few = n.few; named = All-weaker FitsShortText IsShortText short_is skus n.each; rising = sorted_from_rise skus e } in
    ((short_is unit h.0, kept), (text_utf8 unit h.0.0, All-weaker FitsShortText IsUtf8 (λ x f. text_utf8 x f.0) skus n.each))
terms_are (spend rates) h e =
    let n = count_from_list 1 most_skus IsSpelledRate rates h in (
      record {
        some = n.some;
        few = n.few;
        each = All-weaker IsSpelledRate IsRate (λ r s. s.limits) rates n.each;
        rising = sorted_from_rise (map (λ r. r.sku) rates) e;
      },
      All-weaker IsSpelledRate (λ r. IsUtf8 r.sku) (λ r s. s.sku) rates n.each,
    )

terms_fit : (t : TermsValue) → IsTerms t → AreTermsUtf8 t → FitsCommitted (kind_of t) t × (skus_rise t ≡ true)
terms_fit (usage unit skus) h u =
    let each : All FitsShortText skus = λ k d lt. short_fits _ (h.1.named k d lt) (u.1 k d lt) in
    ((short_fits unit h.0 u.0, list_from_count 1 most_skus FitsShortText skus (omega arith) h.1.some h.1.few each), rise_from_sorted skus h.1.rising)
terms_fit (spend rates) h u =
    let each : All IsSpelledRate rates = λ k d lt. record { limits = h.each k d lt; sku = u k d lt } in
    (list_from_count 1 most_skus IsSpelledRate rates (omega arith) h.some h.few each, rise_from_sorted (map (λ r. r.sku) rates) h.rising)

account_is : (o : Option (List ℕ)) → FitsOptional FitsShortText o → IfSome o IsShortText
account_is None h = tt
account_is (Some x) h = short_is x h

account_fits : (o : Option (List ℕ)) → IfSome o IsShortText → IfSome o IsUtf8 → FitsOptional FitsShortText o
account_fits None h u = tt
account_fits (Some x) h u = short_fits x h u

tag_sized : (t : TagText) → FitsTag t → IsTagSized t
tag_sized t h = record { key = leb-true _ _ h.0.1; value = leb-true _ _ h.1.1 }

tag_fits : (t : TagText) → IsTagSized t → IsTagUtf8 t → FitsTag t
tag_fits t s u = ((text_fits longest_tag_text t.key (omega arith) s.key u.key, le-leb _ _ s.key), (text_fits longest_tag_text t.value (omega arith) s.value u.value, le-leb _ _ s.value))

tags_are : (ts : List TagText) → FitsTags ts → keys_rise ts ≡ true → IsTags ts
tags_are ts h e =
    let n = count_from_list 0 most_tags FitsTag ts h in
    record { rising = sorted_from_rise (map (λ t. t.key) ts) e; few = n.few; sized = All-weaker FitsTag IsTagSized tag_sized ts n.each }

tags_fit : (ts : List TagText) → IsTags ts → All IsTagUtf8 ts → FitsTags ts × (keys_rise ts ≡ true)
tags_fit ts h u =
    let each : All FitsTag ts = λ k d lt. tag_fits _ (h.sized k d lt) (u k d lt) in
    (list_from_count 0 most_tags FitsTag ts (omega arith) (omega arith) h.few each, rise_from_sorted (map (λ t. t.key) ts) h.rising)

purchases_are : (ps : List PurchaseValue) → FitsList 1 most_purchases IsSpelledPurchase ps → cost_of ps ≤ most_nanos → ArePurchases ps
purchases_are ps h cost =
    let n = count_from_list 1 most_purchases IsSpelledPurchase ps h in
    record { some = n.some; few = n.few; dated = All-weaker IsSpelledPurchase (λ p. p.at ≤ last_second) (λ p f. f.at) ps n.each; cost = cost }

purchases_fit : (ps : List PurchaseValue) → ArePurchases ps → FitsList 1 most_purchases IsSpelledPurchase ps
unfolding cost_of
purchases_fit ps h =
    let cost = h.cost in
    let each : All IsSpelledPurchase ps = λ k d lt. record { at = h.dated k d lt; billed = omega (arith, get_or-le-sum_by (λ p. p.billed) ps k d lt) } in
    list_from_count 1 most_purchases IsSpelledPurchase ps (omega arith) h.some h.few each

commitment_is : (c : CommitmentValue) → FitsCommitment c → IsSpelledCommitment c
unfolding commitment_rules
commitment_is c h =
    let names = h.0.0.0 in
    let rules = and_parts (keys_rise c.tags) (skus_rise c.terms && leb (cost_of c.purchases) most_nanos) h.1 in
    let rest = and_parts (skus_rise c.terms) (leb (cost_of c.purchases) most_nanos) rules.1 in
    let terms = terms_are c.terms h.0.1.0 rest.0 in
    let hours = and_parts _ _ h.0.0.1.1.0.1 in
    record {
      limits = record {
        id = short_is c.id names.0;
        terms = terms.0;
        sub_account = account_is c.sub_account names.1.1.0;
        tags = tags_are c.tags names.1.1.1 rules.0;
        start = leb-true _ _ h.0.0.1.0.1;
        hours_some = ltb-true _ _ hours.0;
        hours_most = leb-true _ _ hours.1;
        capacity_some = h.0.0.1.1.1.some;
        capacity_most = h.0.0.1.1.1.most;
        purchases = purchases_are c.purchases h.0.1.1 (leb-true _ _ rest.1);
      };
      id = text_utf8 c.id names.0.0;
      terms = terms.1;
      sub_account = account_utf8 c.sub_account names.1.1.0;
      tags = tags_utf8 c.tags names.1.1.1;
    }

commitment_fits : (c : CommitmentValue) → IsSpelledCommitment c → FitsCommitment c
unfolding commitment_rules
commitment_fits c s =
    let l = s.limits in
    let terms = terms_fit c.terms l.terms s.terms in
    let tagged = tags_fit c.tags l.tags s.tags in
    let names : FitsNames (c.id, (kind_of c.terms, (c.sub_account, c.tags))) = (short_fits c.id l.id s.id, (tt, (account_fits c.sub_account l.sub_account s.sub_account, tagged.0))) in
    let start : FitsChecked is_start Fits32 c.start = (lt-ltb _ _ (let m = l.start in omega arith), le-leb _ _ l.start) in
    let hours : FitsChecked is_hours Fits32 c.hours = (lt-ltb _ _ (let m = l.hours_most in omega arith), and_from _ _ (lt-ltb _ _ l.hours_some) (le-leb _ _ l.hours_most)) in
    let capacity : IsCapacity c.capacity = record { some = l.capacity_some; most = l.capacity_most } in
    (((names, (start, (hours, capacity))), (terms.0, purchases_fit c.purchases l.purchases)), and_from _ _ tagged.1 (and_from _ _ terms.1 (le-leb _ _ l.purchases.cost)))

pub commitment_format : IsFormat commitment_at commitment IsSpelledCommitment
commitment_format = told_format commitment_is commitment_fits fits_format

-- ---- the reader's steps

pub commitment_refused : (bytes : List ℕ) (f : Fields × List ℕ) → fields_at bytes ≡ Ok f → commitment_rules (commitment_from f.0) ≡ false → commitment_at bytes ≡ Err (length bytes)
unfolding commitment_at checked seen
commitment_refused bytes f e rules = rw (e, rules) refl

pub commitment_taken : (bytes : List ℕ) (f : Fields × List ℕ) → fields_at bytes ≡ Ok f → commitment_rules (commitment_from f.0) ≡ true → commitment_at bytes ≡ Ok (commitment_from f.0, f.1)
unfolding commitment_at checked seen
commitment_taken bytes f e rules = rw (e, rules) refl

-- fields that agree are those of a commitment
pub commitment_kept : (bytes : List ℕ) (f : Fields × List ℕ) → IsBytes bytes → fields_at bytes ≡ Ok f → commitment_rules (commitment_from f.0) ≡ true → IsCommitment (commitment_from f.0)
commitment_kept bytes f is e rules = (commitment_format.takes bytes (commitment_from f.0, f.1) is (commitment_taken bytes f e rules)).1.limits

pub few_purchases : (bytes : List ℕ) (f : Fields × List ℕ) → IsBytes bytes → fields_at bytes ≡ Ok f → length f.0.1.1 ≤ most_purchases
few_purchases bytes f is e = (count_from_list 1 most_purchases IsSpelledPurchase f.0.1.1 (fields_format.takes bytes f is e).1.1.1).few

commitment_fault : (bytes : List ℕ) (left : ℕ) → fields_at bytes ≡ Err left → commitment_at bytes ≡ Err left
unfolding commitment_at checked seen
commitment_fault bytes left e = rw e refl

pub commitment_fails : (bytes : List ℕ) (e : ReadError) → Fails e (fields_at bytes) → Fails e (commitment_at bytes)
commitment_fails bytes errors.NoMemory h = tt
commitment_fails bytes (errors.Corrupt left) h = commitment_fault bytes left h
