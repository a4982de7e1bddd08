-- What a text reads as, from what is found in its table, where it is to be a purchase that is added; and that it reads as one.
use Rattle.std.proofs.Common.{◌≡◌, ◌≢◌, ℕ, pos, List, Result, Ok, Err, true, codes, refl, ap, subst, inl}
use Rattle.toml.specs.Data.{Members}
use Rattle.fw_rules.specs.Table.{FirstBroken, NoneBroken}
use Rattle.fw_rules.proofs.TableLaws.{first-one, first-not_none}
use Rattle.fw_toml.specs.Tree.{IsTable, HasOnly, at}
use Rattle.fw_commitment.specs.FieldNames.{added_names}
use Rattle.fw_commitment.specs.Finding.{Finds}
use Rattle.fw_terms.specs.Added.{AddedValue, added_value}
use Rattle.fw_commitment.specs.Added.{PurchaseReads, AddedStands, added_rules, other_rules}
use Rattle.fw_commitment.specs.declared.fault.CommitmentField.TheVariants as field
use Rattle.fw_commitment.specs.declared.fault.CommitmentFault.{CommitmentFault}
use Rattle.fw_commitment.specs.declared.fault.CommitmentFault.TheVariants as fault
use Rattle.fw_commitment.proofs.ReadFacts.{are_of_fields, first-of_field}
use Rattle.fw_commitment.proofs.OneReading.{table-one, natural-one}
use Rattle.fw_commitment.proofs.ValueFacts.{text-one, amount-one, second-one}

added-of_fields : (ms : Members) → are_of_fields (added_rules ms) ≡ true
unfolding added_rules
added-of_fields ms = refl

pub added-found : (text : List ℕ) (ms : Members) (r : Result AddedValue CommitmentFault) → IsTable text ms → Finds (added_rules ms) (AddedStands ms) r → PurchaseReads text r
unfolding PurchaseReads
added-found text ms (Ok a) is found = (ms, is, found.0, found.1)
added-found text ms (Err (fault.Field f)) is found = (ms, is, found (λ e. absurd (cc)))
added-found text ms (Err (fault.Limit f)) is found = (ms, is, found (λ e. absurd (cc)))
added-found text ms (Err fault.Syntax) is found = let not = first-of_field (added_rules ms) fault.Syntax (added-of_fields ms) (found (λ e. absurd (cc))) in absurd (cc)
added-found text ms (Err fault.NoMemory) is found = tt

-- ---- no other name

pub only-broken : (ms : Members) → ¬ HasOnly added_names ms → FirstBroken (other_rules ms) (fault.Field field.Unknown)
unfolding FirstBroken
only-broken ms not = inl (not, refl)

pub only-holds : (ms : Members) → HasOnly added_names ms → NoneBroken (other_rules ms)
unfolding NoneBroken
only-holds ms only = (λ not. not only, tt)

-- ---- a table states one purchase

same_added : (i j : List ℕ) (s t m n : ℕ) → i ≡ j → s ≡ t → m ≡ n → added_value i (record { at = s; billed = m }) ≡ added_value j (record { at = t; billed = n })
same_added i j s t m n ei es em = rw (ei, es, em) refl

added-stands-one : (ms : Members) (x y : AddedValue) → AddedStands ms x → AddedStands ms y → x ≡ y
added-stands-one ms x y a b =
    same_added x.id y.id x.purchase.at y.purchase.at x.purchase.billed y.purchase.billed
    (text-one (at ms (codes "id")) x.id y.id a.id b.id)
    (second-one ms (codes "at") x.purchase.at y.purchase.at a.at b.at)
    (natural-one x.purchase.billed y.purchase.billed (amount-one ms (codes "billed") (pos x.purchase.billed) (pos y.purchase.billed) a.billed b.billed))

-- ---- the cases

abbrev Reading : Type 0
Reading = Result AddedValue CommitmentFault

-- the first fault of a table that the text is
abbrev FaultIs : List ℕ → CommitmentFault → Type 0
FaultIs text f = (ms : Members) × IsTable text ms × FirstBroken (added_rules ms) f

fault-one : (text : List ℕ) (f g : CommitmentFault) → FaultIs text f → FaultIs text g → ◌≡◌ {A = Reading} (Err f) (Err g)
fault-one text f g a b =
    let tables = table-one text a.0 b.0 a.1 b.1 in
    let first = subst (λ ms. FirstBroken (added_rules ms) f) tables a.2 in
    ap Err (first-one (added_rules b.0) f g first b.2)

fault-not_ok : (text : List ℕ) (f : CommitmentFault) (a : AddedValue) → FaultIs text f → PurchaseReads text (Ok a) → ⊥
unfolding PurchaseReads
fault-not_ok text f c a b =
    let tables = table-one text a.0 b.0 a.1 b.1 in
    first-not_none (added_rules b.0) f (subst (λ ms. FirstBroken (added_rules ms) f) tables a.2) b.2

pub added-one-reading : (text : List ℕ) (r s : Reading) → r ≢ Err fault.NoMemory → s ≢ Err fault.NoMemory → PurchaseReads text r → PurchaseReads text s → r ≡ s
unfolding PurchaseReads
added-one-reading text (Err fault.NoMemory) s p q a b = absurd (p refl)
added-one-reading text (Ok x) (Err fault.NoMemory) p q a b = absurd (q refl)
added-one-reading text (Ok x) (Err fault.Syntax) p q a b = absurd (b a.0 a.1)
added-one-reading text (Ok x) (Err (fault.Field g)) p q a b = absurd (fault-not_ok text (fault.Field g) x b a)
added-one-reading text (Ok x) (Err (fault.Limit g)) p q a b = absurd (fault-not_ok text (fault.Limit g) x b a)
added-one-reading text (Ok x) (Ok y) p q a b =
    let tables = table-one text a.0 b.0 a.1 b.1 in
    ap Ok (added-stands-one b.0 x y (subst (λ ms. AddedStands ms x) tables a.3) b.3)
added-one-reading text (Err fault.Syntax) (Err fault.NoMemory) p q a b = absurd (q refl)
added-one-reading text (Err fault.Syntax) (Err fault.Syntax) p q a b = refl
added-one-reading text (Err fault.Syntax) (Err (fault.Field g)) p q a b = absurd (a b.0 b.1)
added-one-reading text (Err fault.Syntax) (Err (fault.Limit g)) p q a b = absurd (a b.0 b.1)
added-one-reading text (Err fault.Syntax) (Ok y) p q a b = absurd (a b.0 b.1)
added-one-reading text (Err (fault.Field f)) (Err fault.NoMemory) p q a b = absurd (q refl)
added-one-reading text (Err (fault.Field f)) (Err fault.Syntax) p q a b = absurd (b a.0 a.1)
added-one-reading text (Err (fault.Field f)) (Err (fault.Field g)) p q a b = fault-one text (fault.Field f) (fault.Field g) a b
added-one-reading text (Err (fault.Field f)) (Err (fault.Limit g)) p q a b = fault-one text (fault.Field f) (fault.Limit g) a b
added-one-reading text (Err (fault.Field f)) (Ok y) p q a b = absurd (fault-not_ok text (fault.Field f) y a b)
added-one-reading text (Err (fault.Limit f)) (Err fault.NoMemory) p q a b = absurd (q refl)
added-one-reading text (Err (fault.Limit f)) (Err fault.Syntax) p q a b = absurd (b a.0 a.1)
added-one-reading text (Err (fault.Limit f)) (Err (fault.Field g)) p q a b = fault-one text (fault.Limit f) (fault.Field g) a b
added-one-reading text (Err (fault.Limit f)) (Err (fault.Limit g)) p q a b = fault-one text (fault.Limit f) (fault.Limit g) a b
added-one-reading text (Err (fault.Limit f)) (Ok y) p q a b = absurd (fault-not_ok text (fault.Limit f) y a b)
