-- A field states at most one value.
use Rattle.std.proofs.Common.{◌≡◌, ℕ, ℤ, List, map, Option, Some, None, option_map, codes, refl, sym, ap, ◌∙◌, subst, Bor}
use Rattle.std.specs.List.{All, AllZip}
use Rattle.toml.specs.Data.{Data, Members, string}
use Rattle.fw_charge.specs.Tags.{TagText}
use Rattle.fw_terms.specs.Texts.{HasTwice}
use Rattle.fw_toml.specs.Tree.{IsThere, IsText, IsTableOf, IsArrayOf, AreTexts, AreTables, AreIntegers, AreNamedTexts, Anything}
use Rattle.fw_toml.proofs.Readings.{there, of_there, nothing_there, text, tables_are}
use Rattle.fw_commitment.specs.Fields.{AreTagsOf, IsPayment, in_byte_order}
use Rattle.fw_commitment.specs.Finding.{tag_shown}
use Rattle.fw_commitment.proofs.ListFacts.{map-one, map-map, zip-one, texts-one, tables-one, integers-one, named_texts-one, texts_are}
use Rattle.fw_commitment.proofs.ValueFacts.{second-one, amount-one}

-- a value stands there, or nothing does
not_both : (o : Option Data) (d : Data) → o ≡ Some d → o ≡ None → ⊥
not_both o d is none = let both = sym is ∙ none in absurd (cc)

same_value : (o : Option Data) (d e : Data) → o ≡ Some d → o ≡ Some e → d ≡ e
same_value o d e p q = let both = sym p ∙ q in cc

-- ---- the account

pub account-one : (o : Option Data) (a b : Option (List ℕ)) → o ≡ option_map string a → o ≡ option_map string b → a ≡ b
account-one o None None p q = refl
account-one o None (Some b) p q = absurd (not_both o (string b) q p)
account-one o (Some a) None p q = absurd (not_both o (string a) p q)
account-one o (Some a) (Some b) p q = let data_ = same_value o (string a) (string b) p q in let same : a ≡ b = cc in ap Some same

pub account-none : (o : Option Data) (d : Data) → o ≡ Some d → ¬ IsText Anything d → (a : Option (List ℕ)) → o ≡ option_map string a → ⊥
unfolding Anything
account-none o d is not None p = not_both o d is p
account-none o d is not (Some a) p = not (text Anything d a (same_value o d (string a) is p) tt)

-- ---- the tags

abbrev pub tag_pair : TagText → List ℕ × List ℕ
tag_pair t = (t.key, t.value)

tag-one : (a b : TagText) → tag_pair a ≡ tag_pair b → a ≡ b
tag-one a b e = same_tag a.key b.key a.value b.value (ap (λ (p : List ℕ × List ℕ). p.0) e) (ap (λ (p : List ℕ × List ℕ). p.1) e)
  where
    same_tag : (k l v w : List ℕ) → k ≡ l → v ≡ w → ◌≡◌ {A = TagText} (record { key = k; value = v }) (record { key = l; value = w })
    same_tag k l v w p q = rw (p, q) refl

pub tags-one : (o : Option Data) (a b : List TagText) → AreTagsOf o a → AreTagsOf o b → a ≡ b
tags-one None a b p q = p ∙ sym q
tags-one (Some d) a b p q = map-one tag_pair tag-one a b (named_texts-one d (map tag_pair a) (map tag_pair b) p q)

pub tags-stated : (texts : List (Bor (List ℕ) × Bor (List ℕ))) (tags : List TagText) → tags ≡ map tag_shown texts → map (λ e. (e.0.now, e.1.now)) texts ≡ map tag_pair tags
tags-stated texts tags is = sym (ap (map tag_pair) is ∙ map-map tag_pair tag_shown texts)

-- ---- the rates

pub rates-one : (o : Option Data) (a b : List (List ℕ × ℤ)) → IsThere o (AreIntegers a) → IsThere o (AreIntegers b) → a ≡ b
rates-one None a b p q = absurd (nothing_there (AreIntegers a) None refl p)
rates-one (Some d) a b p q = integers-one d a b (of_there (AreIntegers a) (Some d) d refl p) (of_there (AreIntegers b) (Some d) d refl q)

-- ---- the SKUs

abbrev pub AreSkusOf : List (List ℕ) → Data → Type 0
AreSkusOf skus d = (texts : List (List ℕ)) × AreTexts texts d × (¬ HasTwice texts) × (skus ≡ in_byte_order texts)

pub skus-one : (o : Option Data) (a b : List (List ℕ)) → IsThere o (AreSkusOf a) → IsThere o (AreSkusOf b) → a ≡ b
skus-one None a b p q = absurd (nothing_there (AreSkusOf a) None refl p)
skus-one (Some d) a b p q =
    let (ts, are, once, is) = of_there (AreSkusOf a) (Some d) d refl p in
    let (us, those, distinct, same) = of_there (AreSkusOf b) (Some d) d refl q in
    is ∙ (ap in_byte_order (texts-one d ts us are those) ∙ sym same)

-- ---- the purchases

payment-one : (ms : Members) (p q : ℕ × ℤ) → IsPayment ms p → IsPayment ms q → p ≡ q
payment-one ms p q a b =
    let seconds = second-one ms (codes "at") p.0 q.0 a.1 b.1 in
    let amounts = amount-one ms (codes "billed") p.1 q.1 a.2 b.2 in
    rw (seconds, amounts) refl

abbrev pub ArePaymentsOf : List (ℕ × ℤ) → Data → Type 0
ArePaymentsOf payments d = (ts : List Members) × AreTables ts d × AllZip IsPayment ts payments

pub payments-one : (o : Option Data) (a b : List (ℕ × ℤ)) → IsThere o (ArePaymentsOf a) → IsThere o (ArePaymentsOf b) → a ≡ b
payments-one None a b p q = absurd (nothing_there (ArePaymentsOf a) None refl p)
payments-one (Some d) a b p q =
    let (ts, are, paid) = of_there (ArePaymentsOf a) (Some d) d refl p in
    let (us, those, others) = of_there (ArePaymentsOf b) (Some d) d refl q in
    zip-one IsPayment payment-one us a b (subst (λ vs. AllZip IsPayment vs a) (tables-one d ts us are those) paid) others

-- ---- what was read from a value stands under its name. Each list is lent before it is read on, hence the equations

pub tags-found : (o : Option Data) (d : Data) (texts seen : List (Bor (List ℕ) × Bor (List ℕ))) → o ≡ Some d → AreNamedTexts (map (λ e. (e.0.now, e.1.now)) texts) d → seen ≡ texts → AreTagsOf o (map tag_shown seen)
tags-found o d texts seen is are same =
    let listed = tags-stated texts (map tag_shown seen) (ap (map tag_shown) same) in
    subst (λ v. AreTagsOf v (map tag_shown seen)) (sym is) (subst (λ ts. AreNamedTexts ts d) listed are)

pub rates-found : (o : Option Data) (d : Data) (entries seen : List (Bor (List ℕ) × ℤ)) → o ≡ Some d → AreIntegers (map (λ e. (e.0.now, e.1)) entries) d → seen ≡ entries → IsThere o (AreIntegers (map (λ e. (e.0.now, e.1)) seen))
rates-found o d entries seen is are same = there (AreIntegers (map (λ e. (e.0.now, e.1)) seen)) o d is (subst (λ es. AreIntegers (map (λ e. (e.0.now, e.1)) es) d) (sym same) are)

pub skus-found : (o : Option Data) (d : Data) (texts seen ordered again : List (Bor (List ℕ))) → o ≡ Some d → AreTexts (map (λ t. t.now) texts) d → seen ≡ texts → ¬ HasTwice (map (λ t. t.now) seen)
    → map (λ t. t.now) ordered ≡ in_byte_order (map (λ t. t.now) seen) → again ≡ ordered → IsThere o (AreSkusOf (map (λ t. t.now) again))
skus-found o d texts seen ordered again is are same once order lent =
    let now = λ (ts : List (Bor (List ℕ))). map (λ (t : Bor (List ℕ)). t.now) ts in
    there (AreSkusOf (now again)) o d is (now seen, subst (λ ts. AreTexts (now ts) d) (sym same) are, once, ap now lent ∙ order)

pub skus-twice : (o : Option Data) (d : Data) (texts seen : List (Bor (List ℕ))) → o ≡ Some d → AreTexts (map (λ t. t.now) texts) d → seen ≡ texts → HasTwice (map (λ t. t.now) seen) → (skus : List (List ℕ)) → ¬ IsThere o (AreSkusOf skus)
skus-twice o d texts seen is are same twice skus has =
    let (ts, those, once, order) = of_there (AreSkusOf skus) o d is has in
    once (subst HasTwice (texts-one d (map (λ t. t.now) seen) ts (subst (λ us. AreTexts (map (λ t. t.now) us) d) (sym same) are) those) twice)

pub skus-none : (o : Option Data) (d : Data) → o ≡ Some d → ¬ IsArrayOf (All (IsText Anything)) d → (skus : List (List ℕ)) → ¬ IsThere o (AreSkusOf skus)
skus-none o d is not skus has = let (ts, those, once, order) = of_there (AreSkusOf skus) o d is has in not (texts_are d ts those)

pub payments-found : {T : Type 0} (shows : T → Members) (o : Option Data) (d : Data) (tables seen : List T) (payments again : List (ℕ × ℤ)) → o ≡ Some d → AreTables (map shows tables) d → seen ≡ tables → AllZip IsPayment (map shows seen) payments
    → again ≡ payments → IsThere o (ArePaymentsOf again)
payments-found shows o d tables seen payments again is are same paid lent =
    there (ArePaymentsOf again) o d is (map shows seen, subst (λ ts. AreTables (map shows ts) d) (sym same) are, subst (AllZip IsPayment (map shows seen)) (sym lent) paid)

pub payments-not : {T : Type 0} (shows : T → Members) (o : Option Data) (d : Data) (tables seen : List T) → o ≡ Some d → AreTables (map shows tables) d → seen ≡ tables → ((ps : List (ℕ × ℤ)) → ¬ AllZip IsPayment (map shows seen) ps)
    → (payments : List (ℕ × ℤ)) → ¬ IsThere o (ArePaymentsOf payments)
payments-not shows o d tables seen is are same not payments has =
    let (ts, those, paid) = of_there (ArePaymentsOf payments) o d is has in
    let one = tables-one d ts (map shows seen) those (subst (λ us. AreTables (map shows us) d) (sym same) are) in
    not payments (subst (λ us. AllZip IsPayment us payments) one paid)

pub payments-none : (o : Option Data) (d : Data) → o ≡ Some d → ¬ IsArrayOf (All (IsTableOf Anything)) d → (payments : List (ℕ × ℤ)) → ¬ IsThere o (ArePaymentsOf payments)
payments-none o d is not payments has = let (ts, those, paid) = of_there (ArePaymentsOf payments) o d is has in not (tables_are d ts those)
