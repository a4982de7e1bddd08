-- A text reads as one thing under a currency, unless memory runs out.
use Rattle.std.proofs.Common.{◌≡◌, ◌≢◌, ℕ, ℤ, suc, ◌<◌, List, [], ◌∷◌, ◌++◌, length, Option, Some, None, Result, Ok, Err, refl, sym, ap, ◌∙◌, arith, length-append, subst, Bool, inl, inr}
use Rattle.std.specs.Prelude.{MatchOption}
use Rattle.std.specs.List.{AllZip, All}
use Rattle.fw_charge.proofs.ChargeFacts.{equal_fields}
use Rattle.fw_charge.specs.Charge.{Charge, DiscountText}
use Rattle.fw_charge.specs.Codes.{category_word, class_word, status_word}
use Rattle.fw_charge.proofs.CodeFacts.{category_word-one, class_word-one, kind_word-one, status_word-one}
use Rattle.fw_charge.specs.Tags.{TagText}
use Rattle.fw_charge.specs.declared.category.Category.{Category}
use Rattle.fw_charge.specs.declared.discount.DiscountKind.{DiscountKind}
use Rattle.fw_charge.specs.declared.discount.DiscountStatus.{DiscountStatus}
use Rattle.fw_charge.specs.declared.discount.DiscountStatus.TheVariants as status
use Rattle.fw_money.proofs.ReadingLaws.{reads-apart, reads-one}
use Rattle.fw_money.specs.Reading.{Reads}
use Rattle.fw_money.specs.declared.nanos.MoneyFault.TheVariants as money
use Rattle.fw_rules.proofs.TableLaws.{first-one, first-not_none}
use Rattle.fw_rows.specs.Columns.{Record, text_in, missing_column, double_column}
use Rattle.fw_rows.specs.Rules.{BreaksNoRule, DiscountStands, KindReads, QuantityReads, RecordReads, Stands, StatusReads, Texts, rules_of, tags_stated}
use Rattle.fw_rows.specs.Rows.{RecordsRead, RowsRead, IsHeader, records_of, header_of, body_of}
use Rattle.fw_rows.specs.declared.column.Column.{Column}
use Rattle.fw_rows.specs.declared.column.Column.TheVariants as column
use Rattle.fw_rows.specs.declared.fault.RecordFault.{RecordFault}
use Rattle.fw_rows.specs.declared.fault.RowFault.{RowFault}
use Rattle.fw_rows.specs.declared.fault.RowFault.TheVariants as fault
use Rattle.fw_rows.proofs.WordFacts.{second-one}

-- ---- a record stands for one row

category-one : (text : List ℕ) (j k : Category) → text ≡ category_word j → text ≡ category_word k → j ≡ k
category-one text j k a b = category_word-one j k (sym a ∙ b)

class-one : (text : List ℕ) (c d : Bool) → text ≡ class_word c → text ≡ class_word d → c ≡ d
class-one text c d a b = class_word-one c d (sym a ∙ b)

amount-one : (text : List ℕ) (m n : ℤ) → Reads text (Ok m) → Reads text (Ok n) → m ≡ n
amount-one text m n a b = let same = reads-one text (Ok m) (Ok n) a b in cc

quantity-one : (text : List ℕ) (p q : Option ℤ) → QuantityReads text p → QuantityReads text q → p ≡ q
unfolding QuantityReads
quantity-one text None None a b = refl
quantity-one text None (Some n) (inl null) b = absurd (b.0 null)
quantity-one text None (Some n) (inr past) b = absurd (reads-apart text n money.Range b.1 past)
quantity-one text (Some m) None a (inl null) = absurd (a.0 null)
quantity-one text (Some m) None a (inr past) = absurd (reads-apart text m money.Range a.1 past)
quantity-one text (Some m) (Some n) a b = ap Some (amount-one text m n a.1 b.1)

kind-one : (id text : List ℕ) (j k : DiscountKind) → KindReads id text (Some j) → KindReads id text (Some k) → j ≡ k
unfolding KindReads
kind-one id text j k a b = kind_word-one j k (sym a.1 ∙ b.1)

status_word-some : (s : DiscountStatus) → ¬ ([] ≡ status_word s)
unfolding status_word
status_word-some status.Used same = absurd (cc)
status_word-some status.Unused same = absurd (cc)

status-one : (category id text : List ℕ) (s t : Option DiscountStatus) → StatusReads category id text s → StatusReads category id text t → s ≡ t
unfolding StatusReads
status-one category id text None None a b = refl
status-one category id text None (Some t) a b = absurd (status_word-some t (sym a.0 ∙ b.1))
status-one category id text (Some s) None a b = absurd (status_word-some s (sym b.0 ∙ a.1))
status-one category id text (Some s) (Some t) a b = ap Some (status_word-one s t (sym a.1 ∙ b.1))

-- a discount that stands has an id
id_some : (at : Texts) (d : DiscountText) → DiscountStands at d → at column.CommitmentDiscountId ≡ [] → ⊥
unfolding KindReads
id_some at d stands null = stands.kind.0 null

discount_text-one : (at : Texts) (d e : DiscountText) → DiscountStands at d → DiscountStands at e → d ≡ e
discount_text-one at d e a b =
    let ids = sym a.id ∙ b.id in
    let kinds = kind-one (at column.CommitmentDiscountId) (at column.CommitmentDiscountCategory) d.kind e.kind a.kind b.kind in
    let states = status-one (at column.ChargeCategory) (at column.CommitmentDiscountId) (at column.CommitmentDiscountStatus) d.status e.status a.status b.status in
    λ i. record { id = ids i; kind = kinds i; status = states i }

discount-one : (at : Texts) (d e : Option DiscountText) → MatchOption d (at column.CommitmentDiscountId ≡ []) (DiscountStands at) → MatchOption e (at column.CommitmentDiscountId ≡ []) (DiscountStands at)
    → d ≡ e
discount-one at None None a b = refl
discount-one at None (Some e) a b = absurd (id_some at e b a)
discount-one at (Some d) None a b = absurd (id_some at d a b)
discount-one at (Some d) (Some e) a b = ap Some (discount_text-one at d e a b)

tags-one : (o : Option (List TagText)) (x y : List TagText) → o ≡ Some x → o ≡ Some y → x ≡ y
tags-one o x y a b = let both = sym a ∙ b in cc

stands-one : (at : Texts) (x y : Charge) → Stands at x → Stands at y → x ≡ y
stands-one at x y a b =
    let billed = amount-one (at column.BilledCost) x.billed y.billed a.billed b.billed in
    let effective = amount-one (at column.EffectiveCost) x.effective y.effective a.effective b.effective in
    let category = category-one (at column.ChargeCategory) x.category y.category a.category b.category in
    let is_correction = class-one (at column.ChargeClass) x.is_correction y.is_correction a.class b.class in
    let start = second-one (at column.ChargePeriodStart) x.start y.start a.start b.start in
    let end = second-one (at column.ChargePeriodEnd) x.end y.end a.end b.end in
    let discount = discount-one at x.discount y.discount a.discount b.discount in
    let quantity = quantity-one (at column.ConsumedQuantity) x.quantity y.quantity a.quantity b.quantity in
    let unit = a.unit ∙ sym b.unit in
    let sku = a.sku ∙ sym b.sku in
    let sub_account = a.sub_account ∙ sym b.sub_account in
    let tags = tags-one (tags_stated (at column.Tags)) x.tags y.tags a.tags b.tags in
    equal_fields x y billed effective category is_correction start end discount quantity unit sku sub_account tags

-- a record that breaks no rule has no fault
unbroken : (currency : List ℕ) (header fields : Record) (f : RecordFault) → BreaksNoRule currency header fields → RecordReads currency header fields (Err f) → ⊥
unfolding RecordReads
unbroken currency header fields f none first = first-not_none (rules_of currency header fields) f first none

fault-one : (currency : List ℕ) (header fields : Record) (f g : RecordFault) → RecordReads currency header fields (Err f) → RecordReads currency header fields (Err g) → f ≡ g
unfolding RecordReads
fault-one currency header fields f g a b = first-one (rules_of currency header fields) f g a b

rows-one : (currency : List ℕ) (header : Record) (body : List Record) (xs ys : List Charge) → AllZip (λ fields row. RecordReads currency header fields (Ok row)) body xs
    → AllZip (λ fields row. RecordReads currency header fields (Ok row)) body ys → xs ≡ ys
unfolding RecordReads
rows-one currency header [] [] [] a b = refl
rows-one currency header [] [] (y ∷ ys) a b = absurd b
rows-one currency header [] (x ∷ xs) ys a b = absurd a
rows-one currency header (f ∷ body) [] ys a b = absurd a
rows-one currency header (f ∷ body) (x ∷ xs) [] a b = absurd b
rows-one currency header (f ∷ body) (x ∷ xs) (y ∷ ys) a b =
    let one = stands-one (text_in header f) x y a.0.1 b.0.1 in let more = rows-one currency header body xs ys a.1 b.1 in rw (one, more) refl

-- ---- where a record breaks a rule

-- none of the records of rows breaks a rule
rows_unbroken : (currency : List ℕ) (header bad : Record) (before after : List Record) (rows : List Charge) (f : RecordFault)
    → AllZip (λ fields row. RecordReads currency header fields (Ok row)) (before ++ (bad ∷ after)) rows → RecordReads currency header bad (Err f) → ⊥
unfolding RecordReads
rows_unbroken currency header bad [] after [] f are broken = absurd are
rows_unbroken currency header bad [] after (x ∷ rows) f are broken = first-not_none (rules_of currency header bad) f broken are.0.0
rows_unbroken currency header bad (b ∷ before) after [] f are broken = absurd are
rows_unbroken currency header bad (b ∷ before) after (x ∷ rows) f are broken = rows_unbroken currency header bad before after rows f are.1 broken

AllTail : (P : Record → Type 0) (x : Record) (xs : List Record) → All P (x ∷ xs) → All P xs
AllTail P x xs all = λ k d lt. all (suc k) d (omega arith)

-- the first record that breaks a rule stands at one place
first_bad : (P : Record → Type 0) (before before2 after after2 : List Record) (bad bad2 : Record) → before ++ (bad ∷ after) ≡ before2 ++ (bad2 ∷ after2) → All P before → All P before2
    → ¬ P bad → ¬ P bad2 → (length before ≡ length before2) × (bad ≡ bad2)
first_bad P [] [] after after2 bad bad2 same all all2 broken broken2 =
    let e : bad ∷ after ≡ bad2 ∷ after2 = same in let here : bad ≡ bad2 = cc in (refl, here)
first_bad P [] (c ∷ before2) after after2 bad bad2 same all all2 broken broken2 =
    let e : bad ∷ after ≡ c ∷ (before2 ++ (bad2 ∷ after2)) = same in let here : bad ≡ c = cc in absurd (broken (subst P (sym here) (all2 0 c (omega arith))))
first_bad P (b ∷ before) [] after after2 bad bad2 same all all2 broken broken2 =
    let e : b ∷ (before ++ (bad ∷ after)) ≡ bad2 ∷ after2 = same in let here : bad2 ≡ b = cc in absurd (broken2 (subst P (sym here) (all 0 b (omega arith))))
first_bad P (b ∷ before) (c ∷ before2) after after2 bad bad2 same all all2 broken broken2 =
    let e : b ∷ (before ++ (bad ∷ after)) ≡ c ∷ (before2 ++ (bad2 ∷ after2)) = same in
    let rest : before ++ (bad ∷ after) ≡ before2 ++ (bad2 ∷ after2) = cc in
    let more = first_bad P before before2 after after2 bad bad2 rest (AllTail P b before all) (AllTail P c before2 all2) broken broken2 in
    (omega (arith, more.0), more.1)

-- a record that breaks a rule is none of more records that don't
not_among : (P : Record → Type 0) (before all after : List Record) (bad last : Record) → before ++ (bad ∷ after) ≡ all ++ (last ∷ []) → length before < length all → All P all → ¬ P bad → ⊥
not_among P [] [] after bad last same lt every broken = absurd (omega arith)
not_among P [] (c ∷ all) after bad last same lt every broken =
    let e : bad ∷ after ≡ c ∷ (all ++ (last ∷ [])) = same in let here : bad ≡ c = cc in broken (subst P (sym here) (every 0 c (omega arith)))
not_among P (b ∷ before) [] after bad last same lt every broken = absurd (omega arith)
not_among P (b ∷ before) (c ∷ all) after bad last same lt every broken =
    let e : b ∷ (before ++ (bad ∷ after)) ≡ c ∷ (all ++ (last ∷ [])) = same in
    let rest : before ++ (bad ∷ after) ≡ all ++ (last ∷ []) = cc in not_among P before all after bad last rest (omega arith) (AllTail P c all every) broken

-- ---- the cases

abbrev Reading : Type 0
Reading = Result (List Charge) RowFault

not_missing : (header : Record) (c : Column) → IsHeader header → missing_column header ≡ Some c → ⊥
not_missing header c whole missing = let both = sym whole.0 ∙ missing in absurd (cc)

not_double : (header : Record) (c : Column) → IsHeader header → double_column header ≡ Some c → ⊥
not_double header c whole double = let both = sym whole.1 ∙ double in absurd (cc)

record_not_rows : (currency : List ℕ) (header : Record) (body : List Record) (n : ℕ) (f : RecordFault) (rows : List Charge)
    → RecordsRead currency header body (Err (fault.Record n f)) → RecordsRead currency header body (Ok rows) → ⊥
record_not_rows currency header body n f rows a b =
    rows_unbroken currency header a.2 a.1 a.3 rows f (rw a.4 at b.3) a.8

record_not_full : (currency : List ℕ) (header : Record) (body : List Record) (n : ℕ) (f : RecordFault)
    → RecordsRead currency header body (Err (fault.Record n f)) → RecordsRead currency header body (Err fault.TooManyRows) → ⊥
record_not_full currency header body n f a b =
    not_among (BreaksNoRule currency header) a.1 b.1 a.3 a.2 b.2 (sym a.4 ∙ b.3) (omega (arith, a.5, a.6, b.4)) b.5 (λ none. unbroken currency header a.2 f none a.8)

record_not_none : (currency : List ℕ) (header : Record) (body : List Record) (n : ℕ) (f : RecordFault)
    → RecordsRead currency header body (Err (fault.Record n f)) → RecordsRead currency header body (Err fault.NoRows) → ⊥
record_not_none currency header body n f a b =
    let size = ap length (sym a.4 ∙ b.1) in omega (arith, size, length-append a.1 (a.2 ∷ a.3))

record-one : (currency : List ℕ) (header : Record) (body : List Record) (n m : ℕ) (f g : RecordFault)
    → RecordsRead currency header body (Err (fault.Record n f)) → RecordsRead currency header body (Err (fault.Record m g)) → ◌≡◌ {A = Reading} (Err (fault.Record n f)) (Err (fault.Record m g))
record-one currency header body n m f g a b =
    let at = first_bad (BreaksNoRule currency header) a.1 b.1 a.3 b.3 a.2 b.2 (sym a.4 ∙ b.4) a.7 b.7
    (λ none. unbroken currency header a.2 f none a.8) (λ none. unbroken currency header b.2 g none b.8) in
    let number : n ≡ m = omega (arith, a.5, b.5, at.0) in
    let same : f ≡ g = fault-one currency header b.2 f g (subst (λ x. RecordReads currency header x (Err f)) at.1 a.8) b.8 in
    rw (number, same) refl

full_not_rows : (currency : List ℕ) (header : Record) (body : List Record) (rows : List Charge)
    → RecordsRead currency header body (Err fault.TooManyRows) → RecordsRead currency header body (Ok rows) → ⊥
full_not_rows currency header body rows a b = omega (arith, ap length a.3, length-append a.1 (a.2 ∷ []), a.4, b.2)

full_not_none : (currency : List ℕ) (header : Record) (body : List Record)
    → RecordsRead currency header body (Err fault.TooManyRows) → RecordsRead currency header body (Err fault.NoRows) → ⊥
full_not_none currency header body a b =
    let size = ap length (sym a.3 ∙ b.1) in omega (arith, size, length-append a.1 (a.2 ∷ []))

rows_not_none : (currency : List ℕ) (header : Record) (body : List Record) (rows : List Charge)
    → RecordsRead currency header body (Ok rows) → RecordsRead currency header body (Err fault.NoRows) → ⊥
rows_not_none currency header body rows a b = omega (arith, ap length b.1, a.1)

records-one : (currency : List ℕ) (header : Record) (body : List Record) (r s : Reading) → r ≢ Err fault.NoMemory → s ≢ Err fault.NoMemory
    → RecordsRead currency header body r → RecordsRead currency header body s → r ≡ s
records-one currency header body (Err fault.NoMemory) s p q a b = absurd (p refl)
records-one currency header body (Err (fault.MissingColumn c)) (Err fault.NoMemory) p q a b = absurd (q refl)
records-one currency header body (Err (fault.MissingColumn c)) (Err (fault.MissingColumn d)) p q a b = let both = sym a ∙ b in let same : c ≡ d = cc in rw same refl
records-one currency header body (Err (fault.MissingColumn c)) (Err (fault.DoubleColumn d)) p q a b = absurd (let both = sym a ∙ b.0 in absurd (cc))
records-one currency header body (Err (fault.MissingColumn c)) (Err (fault.Record m g)) p q a b = absurd (not_missing header c b.0 a)
records-one currency header body (Err (fault.MissingColumn c)) (Err fault.NoRows) p q a b = absurd (not_missing header c b.0 a)
records-one currency header body (Err (fault.MissingColumn c)) (Err fault.TooManyRows) p q a b = absurd (not_missing header c b.0 a)
records-one currency header body (Err (fault.MissingColumn c)) (Ok rows) p q a b = absurd (not_missing header c b.0 a)
records-one currency header body (Err (fault.DoubleColumn c)) (Err fault.NoMemory) p q a b = absurd (q refl)
records-one currency header body (Err (fault.DoubleColumn c)) (Err (fault.MissingColumn d)) p q a b = absurd (let both = sym b ∙ a.0 in absurd (cc))
records-one currency header body (Err (fault.DoubleColumn c)) (Err (fault.DoubleColumn d)) p q a b = let both = sym a.1 ∙ b.1 in let same : c ≡ d = cc in rw same refl
records-one currency header body (Err (fault.DoubleColumn c)) (Err (fault.Record m g)) p q a b = absurd (not_double header c b.0 a.1)
records-one currency header body (Err (fault.DoubleColumn c)) (Err fault.NoRows) p q a b = absurd (not_double header c b.0 a.1)
records-one currency header body (Err (fault.DoubleColumn c)) (Err fault.TooManyRows) p q a b = absurd (not_double header c b.0 a.1)
records-one currency header body (Err (fault.DoubleColumn c)) (Ok rows) p q a b = absurd (not_double header c b.0 a.1)
records-one currency header body (Err (fault.Record n f)) (Err fault.NoMemory) p q a b = absurd (q refl)
records-one currency header body (Err (fault.Record n f)) (Err (fault.MissingColumn d)) p q a b = absurd (not_missing header d a.0 b)
records-one currency header body (Err (fault.Record n f)) (Err (fault.DoubleColumn d)) p q a b = absurd (not_double header d a.0 b.1)
records-one currency header body (Err (fault.Record n f)) (Err (fault.Record m g)) p q a b = record-one currency header body n m f g a b
records-one currency header body (Err (fault.Record n f)) (Err fault.NoRows) p q a b = absurd (record_not_none currency header body n f a b)
records-one currency header body (Err (fault.Record n f)) (Err fault.TooManyRows) p q a b = absurd (record_not_full currency header body n f a b)
records-one currency header body (Err (fault.Record n f)) (Ok rows) p q a b = absurd (record_not_rows currency header body n f rows a b)
records-one currency header body (Err fault.NoRows) (Err fault.NoMemory) p q a b = absurd (q refl)
records-one currency header body (Err fault.NoRows) (Err (fault.MissingColumn d)) p q a b = absurd (not_missing header d a.0 b)
records-one currency header body (Err fault.NoRows) (Err (fault.DoubleColumn d)) p q a b = absurd (not_double header d a.0 b.1)
records-one currency header body (Err fault.NoRows) (Err (fault.Record m g)) p q a b = absurd (record_not_none currency header body m g b a)
records-one currency header body (Err fault.NoRows) (Err fault.NoRows) p q a b = refl
records-one currency header body (Err fault.NoRows) (Err fault.TooManyRows) p q a b = absurd (full_not_none currency header body b a)
records-one currency header body (Err fault.NoRows) (Ok rows) p q a b = absurd (rows_not_none currency header body rows b a)
records-one currency header body (Err fault.TooManyRows) (Err fault.NoMemory) p q a b = absurd (q refl)
records-one currency header body (Err fault.TooManyRows) (Err (fault.MissingColumn d)) p q a b = absurd (not_missing header d a.0 b)
records-one currency header body (Err fault.TooManyRows) (Err (fault.DoubleColumn d)) p q a b = absurd (not_double header d a.0 b.1)
records-one currency header body (Err fault.TooManyRows) (Err (fault.Record m g)) p q a b = absurd (record_not_full currency header body m g b a)
records-one currency header body (Err fault.TooManyRows) (Err fault.NoRows) p q a b = absurd (full_not_none currency header body a b)
records-one currency header body (Err fault.TooManyRows) (Err fault.TooManyRows) p q a b = refl
records-one currency header body (Err fault.TooManyRows) (Ok rows) p q a b = absurd (full_not_rows currency header body rows a b)
records-one currency header body (Ok xs) (Err fault.NoMemory) p q a b = absurd (q refl)
records-one currency header body (Ok xs) (Err (fault.MissingColumn d)) p q a b = absurd (not_missing header d a.0 b)
records-one currency header body (Ok xs) (Err (fault.DoubleColumn d)) p q a b = absurd (not_double header d a.0 b.1)
records-one currency header body (Ok xs) (Err (fault.Record m g)) p q a b = absurd (record_not_rows currency header body m g xs b a)
records-one currency header body (Ok xs) (Err fault.NoRows) p q a b = absurd (rows_not_none currency header body xs a b)
records-one currency header body (Ok xs) (Err fault.TooManyRows) p q a b = absurd (full_not_rows currency header body xs b a)
records-one currency header body (Ok xs) (Ok ys) p q a b = let same = rows-one currency header body xs ys a.3 b.3 in rw same refl

-- a text reads as one thing
pub text-one : (currency text : List ℕ) (r s : Reading) → r ≢ Err fault.NoMemory → s ≢ Err fault.NoMemory → RowsRead currency text r → RowsRead currency text s → r ≡ s
unfolding RowsRead
text-one currency text r s p q a b = records-one currency (header_of (records_of text)) (body_of (records_of text)) r s p q a b
