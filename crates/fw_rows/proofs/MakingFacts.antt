-- The row that comes of a record.
use Rattle.std.proofs.Common.{◌≡◌, ◌≢◌, ◌≤◌, ℕ, List, [], ◌∷◌, length, Option, Some, None, Result, Ok, Err, refl, sym, ◌∙◌, ap, arith, subst, inr}
use Rattle.std.specs.Prelude.{IfSome, IsSome}
use Rattle.fw_charge.specs.Charge.{Charge, DiscountText, IsDiscountOf, IsShortText, longest_short_text}
use Rattle.fw_charge.specs.Codes.{category_word}
use Rattle.fw_charge.specs.declared.category.Category.{Category}
use Rattle.fw_charge.specs.declared.category.Category.TheVariants as category
use Rattle.fw_charge.specs.declared.discount.DiscountStatus.{DiscountStatus}
use Rattle.fw_rules.specs.Table.{FirstBroken, NoneBroken}
use Rattle.fw_rows.specs.Columns.{Record, text_in}
use Rattle.fw_rows.specs.Judged.{JudgedWithin}
use Rattle.fw_rows.specs.Parts.{AreCells, charged_rules, detail_rules, NamedOrNull, discount_text, texts_of}
use Rattle.fw_rows.specs.Rules.{KindReads, StatusReads, Texts, form_rules, not_null, rules_of, text_rules}
use Rattle.fw_rows.specs.declared.cells.Cells.{Cells}
use Rattle.fw_rows.specs.declared.column.Column.TheVariants as column
use Rattle.fw_rows.specs.declared.details.NamedDiscount.{NamedDiscount}
use Rattle.fw_rows.specs.declared.fault.Refusal.{Refusal}
use Rattle.fw_rows.specs.declared.fault.Refusal.TheVariants as refusal
use Rattle.fw_rows.proofs.JudgedFacts.{first-back, rules_parted}

-- ---- what the row keeps

-- a text that isn't null and isn't too long
pub short_text : (t : List ℕ) → t ≢ [] → length t ≤ longest_short_text → IsShortText t
short_text [] some few = absurd (some refl)
short_text (b ∷ t) some few = record { some = omega arith; few = few }

pub short_or_null : (t : List ℕ) (o : Option (List ℕ)) → o ≡ not_null t → length t ≤ longest_short_text → IfSome o IsShortText
unfolding not_null
short_or_null [] o is few = rw is tt
short_or_null (b ∷ t) o is few = rw is (record { some = omega arith; few = few })

-- a usage row's discount has a status
pub has_status : (c : Category) (text id status : List ℕ) (s : Option DiscountStatus) → text ≡ category_word c → id ≢ [] → StatusReads text id status s → c ≡ category.Usage → IsSome s
unfolding StatusReads
has_status c text id status None word some reads usage = absurd (reads.1 some (word ∙ ap category_word usage))
has_status c text id status (Some s) word some reads usage = refl

-- the id of a kind
id_some : (id kind : List ℕ) (n : NamedDiscount) → KindReads id kind (Some n.kind) → id ≢ []
unfolding KindReads
id_some id kind n reads = reads.0

pub discount_kept : (at : Texts) (c : Category) (named : Option NamedDiscount) (o : Option DiscountText) → o ≡ discount_text named → at column.ChargeCategory ≡ category_word c
    → length (at column.CommitmentDiscountId) ≤ longest_short_text → NamedOrNull at named → IfSome o (IsDiscountOf c)
discount_kept at c None o is word few stands = rw is tt
discount_kept at c (Some n) o is word few stands =
    let some = id_some (at column.CommitmentDiscountId) (at column.CommitmentDiscountCategory) n stands.kind in
    rw is (record {
      id = subst IsShortText (sym stands.id) (short_text (at column.CommitmentDiscountId) some few);
      status = has_status c (at column.ChargeCategory) (at column.CommitmentDiscountId) (at column.CommitmentDiscountStatus) n.status word some stands.status;
    })

-- ---- a record, by its cells

texts_are : (header fields : Record) (cells : Cells) → AreCells header fields cells → texts_of cells ≡ text_in header fields
texts_are header fields cells are = λ i c. are.texts c i

-- what the texts say is what the record says
pub record_judged : {A : Type 0} (P : Texts → A → Type 0) (currency : List ℕ) (header fields : Record) (cells : Cells) (r : Result A Refusal) → length fields ≡ length header → AreCells header fields cells
    → JudgedWithin (text_rules currency (texts_of cells)) (P (texts_of cells)) r → JudgedWithin (rules_of currency header fields) (P (text_in header fields)) r
unfolding rules_of form_rules NoneBroken FirstBroken
record_judged P currency header fields cells (Ok x) as_long are judged =
    let same = texts_are header fields cells are in
    ((λ other. other as_long, (are.all_text, subst (λ at. NoneBroken (text_rules currency at)) same judged.0)), subst (λ at. P at x) same judged.1)
record_judged P currency header fields cells (Err (refusal.Broken f)) as_long are judged =
    inr (λ other. other as_long, inr (are.all_text, subst (λ at. FirstBroken (text_rules currency at) f) (texts_are header fields cells are) judged))
record_judged P currency header fields cells (Err refusal.NoMemory) as_long are judged = tt

-- what it is charged for breaks a rule
pub details_fault : (currency : List ℕ) (at : Texts) (e : Refusal) → NoneBroken (charged_rules currency at) → JudgedWithin {A = Charge} (detail_rules at) (λ _. ⊥) (Err e)
    → JudgedWithin {A = Charge} (text_rules currency at) (λ _. ⊥) (Err e)
details_fault currency at (refusal.Broken f) none first =
    subst (λ rules. FirstBroken rules f) (sym (rules_parted currency at)) (first-back (charged_rules currency at) (detail_rules at) f none first)
details_fault currency at refusal.NoMemory none want = tt
