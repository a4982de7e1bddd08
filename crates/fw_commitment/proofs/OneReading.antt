-- A text reads as one commitment or one fault, failed allocations aside.
use Rattle.std.proofs.Common.{◌≡◌, ◌≢◌, ℕ, ℤ, pos, List, Option, Result, Ok, Err, codes, refl, sym, ap, ◌∙◌, subst}
use Rattle.toml.specs.Data.{Members}
use Rattle.fw_charge.specs.Tags.{TagText}
use Rattle.fw_rules.specs.Table.{FirstBroken}
use Rattle.fw_rules.proofs.TableLaws.{first-one, first-not_none}
use Rattle.fw_terms.specs.Commitment.{CommitmentValue, TermsValue, RateValue, PurchaseValue, kind_of}
use Rattle.fw_terms.specs.Commitment.TermsValue.{usage, spend}
use Rattle.fw_toml.specs.Tree.{IsTable, at}
use Rattle.fw_commitment.specs.Reading.{CommitmentReads, Stands, TermsStand}
use Rattle.fw_commitment.specs.Rules.{rules_of, rate_stated, rates_stated}
use Rattle.fw_commitment.specs.declared.fault.CommitmentFault.{CommitmentFault}
use Rattle.fw_commitment.specs.declared.fault.CommitmentFault.TheVariants as fault
use Rattle.fw_commitment.proofs.ListFacts.{map-one}
use Rattle.fw_commitment.proofs.TermFacts.{purchases-one}
use Rattle.fw_commitment.proofs.ValueFacts.{text-one, integer-one, amount-one, hour-one, kind-one}
use Rattle.fw_commitment.proofs.HasFacts.{account-one, tags-one, rates-one, skus-one, payments-one}

pub table-one : (text : List ℕ) (ms ns : Members) → IsTable text ms → IsTable text ns → ms ≡ ns
unfolding IsTable
table-one text ms ns a b = let both = sym a.1 ∙ b.1 in cc

rate-one : (a b : RateValue) → rate_stated a ≡ rate_stated b → a ≡ b
rate-one a b e =
    let skus = ap (λ (p : List ℕ × ℤ). p.0) e in
    let amounts : pos a.ppm ≡ pos b.ppm = ap (λ (p : List ℕ × ℤ). p.1) e in
    let same : a.ppm ≡ b.ppm = cc in
    same_rate a.sku b.sku a.ppm b.ppm skus same
  where
    same_rate : (s t : List ℕ) (m n : ℕ) → s ≡ t → m ≡ n → ◌≡◌ {A = RateValue} (record { sku = s; ppm = m }) (record { sku = t; ppm = n })
    same_rate s t m n p q = rw (p, q) refl

terms-one : (ms : Members) (a b : TermsValue) → kind_of a ≡ kind_of b → TermsStand ms a → TermsStand ms b → a ≡ b
terms-one ms (usage u us) (usage v vs) same p q =
    let units = text-one (at ms (codes "unit")) u v p.0 q.0 in
    let skus = skus-one (at ms (codes "skus")) us vs p.1 q.1 in rw (units, skus) refl
terms-one ms (usage u us) (spend rs) same p q = absurd (cc)
terms-one ms (spend rs) (usage v vs) same p q = absurd (cc)
terms-one ms (spend rs) (spend ss) same p q =
    let rates = map-one rate_stated rate-one rs ss (rates-one (at ms (codes "rates")) (rates_stated rs) (rates_stated ss) p q) in rw rates refl

same_commitment : (i i' : List ℕ) (t t' : TermsValue) (a a' : Option (List ℕ)) (g g' : List TagText) (s s' h h' k k' : ℕ) (p p' : List PurchaseValue)
    → i ≡ i' → t ≡ t' → a ≡ a' → g ≡ g' → s ≡ s' → h ≡ h' → k ≡ k' → p ≡ p'
    → ◌≡◌ {A = CommitmentValue} (record { id = i; terms = t; sub_account = a; tags = g; start = s; hours = h; capacity = k; purchases = p })
    (record { id = i'; terms = t'; sub_account = a'; tags = g'; start = s'; hours = h'; capacity = k'; purchases = p' })
same_commitment i i' t t' a a' g g' s s' h h' k k' p p' ei et ea eg es eh ek ep = rw (ei, et, ea, eg, es, eh, ek, ep) refl

pub natural-one : (m n : ℕ) → pos m ≡ pos n → m ≡ n
natural-one m n e = cc

stands-one : (ms : Members) (x y : CommitmentValue) → Stands ms x → Stands ms y → x ≡ y
stands-one ms x y a b =
    let hours = natural-one x.hours y.hours (integer-one (at ms (codes "hours")) (pos x.hours) (pos y.hours) a.hours b.hours) in
    let capacity = natural-one x.capacity y.capacity (amount-one ms (codes "capacity") (pos x.capacity) (pos y.capacity) a.capacity b.capacity) in
    same_commitment x.id y.id x.terms y.terms x.sub_account y.sub_account x.tags y.tags x.start y.start x.hours y.hours x.capacity y.capacity x.purchases y.purchases
    (text-one (at ms (codes "id")) x.id y.id a.id b.id)
    (terms-one ms x.terms y.terms (kind-one ms (kind_of x.terms) (kind_of y.terms) a.kind b.kind) a.terms b.terms)
    (account-one (at ms (codes "sub_account")) x.sub_account y.sub_account a.sub_account b.sub_account)
    (tags-one (at ms (codes "tags")) x.tags y.tags a.tags b.tags)
    (hour-one ms x.start y.start a.start b.start)
    hours
    capacity
    (purchases-one x.purchases y.purchases (payments-one (at ms (codes "purchase")) _ _ a.purchases b.purchases))

-- ---- the cases

abbrev Reading : Type 0
Reading = Result CommitmentValue CommitmentFault

-- the first fault of a table that the text is
abbrev FaultIs : List ℕ → CommitmentFault → Type 0
FaultIs text f = (ms : Members) × IsTable text ms × FirstBroken (rules_of ms) f

fault-one : (text : List ℕ) (f g : CommitmentFault) → FaultIs text f → FaultIs text g → ◌≡◌ {A = Reading} (Err f) (Err g)
fault-one text f g a b =
    let tables = table-one text a.0 b.0 a.1 b.1 in
    let first = subst (λ ms. FirstBroken (rules_of ms) f) tables a.2 in
    ap Err (first-one (rules_of b.0) f g first b.2)

fault-not_ok : (text : List ℕ) (f : CommitmentFault) (c : CommitmentValue) → FaultIs text f → CommitmentReads text (Ok c) → ⊥
unfolding CommitmentReads
fault-not_ok text f c a b =
    let tables = table-one text a.0 b.0 a.1 b.1 in
    first-not_none (rules_of b.0) f (subst (λ ms. FirstBroken (rules_of ms) f) tables a.2) b.2

pub text-one-reading : (text : List ℕ) (r s : Reading) → r ≢ Err fault.NoMemory → s ≢ Err fault.NoMemory → CommitmentReads text r → CommitmentReads text s → r ≡ s
unfolding CommitmentReads
text-one-reading text (Err fault.NoMemory) s p q a b = absurd (p refl)
text-one-reading text (Ok x) (Err fault.NoMemory) p q a b = absurd (q refl)
text-one-reading text (Ok x) (Err fault.Syntax) p q a b = absurd (b a.0 a.1)
text-one-reading text (Ok x) (Err (fault.Field g)) p q a b = absurd (fault-not_ok text (fault.Field g) x b a)
text-one-reading text (Ok x) (Err (fault.Limit g)) p q a b = absurd (fault-not_ok text (fault.Limit g) x b a)
text-one-reading text (Ok x) (Ok y) p q a b =
    let tables = table-one text a.0 b.0 a.1 b.1 in
    ap Ok (stands-one b.0 x y (subst (λ ms. Stands ms x) tables a.3) b.3)
text-one-reading text (Err fault.Syntax) (Err fault.NoMemory) p q a b = absurd (q refl)
text-one-reading text (Err fault.Syntax) (Err fault.Syntax) p q a b = refl
text-one-reading text (Err fault.Syntax) (Err (fault.Field g)) p q a b = absurd (a b.0 b.1)
text-one-reading text (Err fault.Syntax) (Err (fault.Limit g)) p q a b = absurd (a b.0 b.1)
text-one-reading text (Err fault.Syntax) (Ok y) p q a b = absurd (a b.0 b.1)
text-one-reading text (Err (fault.Field f)) (Err fault.NoMemory) p q a b = absurd (q refl)
text-one-reading text (Err (fault.Field f)) (Err fault.Syntax) p q a b = absurd (b a.0 a.1)
text-one-reading text (Err (fault.Field f)) (Err (fault.Field g)) p q a b = fault-one text (fault.Field f) (fault.Field g) a b
text-one-reading text (Err (fault.Field f)) (Err (fault.Limit g)) p q a b = fault-one text (fault.Field f) (fault.Limit g) a b
text-one-reading text (Err (fault.Field f)) (Ok y) p q a b = absurd (fault-not_ok text (fault.Field f) y a b)
text-one-reading text (Err (fault.Limit f)) (Err fault.NoMemory) p q a b = absurd (q refl)
text-one-reading text (Err (fault.Limit f)) (Err fault.Syntax) p q a b = absurd (b a.0 a.1)
text-one-reading text (Err (fault.Limit f)) (Err (fault.Field g)) p q a b = fault-one text (fault.Limit f) (fault.Field g) a b
text-one-reading text (Err (fault.Limit f)) (Err (fault.Limit g)) p q a b = fault-one text (fault.Limit f) (fault.Limit g) a b
text-one-reading text (Err (fault.Limit f)) (Ok y) p q a b = absurd (fault-not_ok text (fault.Limit f) y a b)
