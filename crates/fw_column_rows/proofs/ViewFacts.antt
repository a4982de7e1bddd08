-- What the values of a record and its tags say of its row.
use Rattle.std.proofs.Common.{◌≡◌, ◌≢◌, ◌≤◌, ◌+◌, ◌++◌, arith, length-append, ◌∷◌, ◌∙◌, ℕ, List, [], length, Option, Some, None, Result, Ok, Err, inl, inr, refl, sym, subst}
use Rattle.std.specs.Prelude.{IfSome, MatchOption, OnOk}
use Rattle.fw_charge.specs.Charge.{Charge, DiscountText, IsCharge, IsDiscountOf, IsShortText, longest_short_text}
use Rattle.fw_charge.specs.Codes.{category_word}
use Rattle.fw_charge.specs.Tags.{TagText, IsTags}
use Rattle.fw_charge.specs.declared.category.Category.{Category}
use Rattle.fw_row_table.specs.Lending.{charge_with, discount_with}
use Rattle.fw_row_table.specs.declared.lending.RowView.{RowView}
use Rattle.fw_rules.specs.Table.{FirstBroken, NoneBroken}
use Rattle.fw_rows.specs.Judged.{JudgedWithin}
use Rattle.fw_rows.specs.Parts.{charged_rules, discount_rules, NamedOrNull, TextsAreShort, discount_text}
use Rattle.fw_rows.specs.Rules.{KindReads, DiscountStands, Stands, Texts, tags_stated, text_rules, word_rules, cost_rules, period_rules, kind_rules, status_rules, quantity_rules, length_rules}
use Rattle.fw_rows.specs.Sinks.{AddsRow, with_text}
use Rattle.fw_rows.specs.declared.column.Column.TheVariants as column
use Rattle.fw_rows.specs.declared.details.NamedDiscount.{NamedDiscount}
use Rattle.fw_rows.specs.declared.fault.RecordFault.{RecordFault}
use Rattle.fw_rows.specs.declared.fault.Refusal.{Refusal}
use Rattle.fw_rows.specs.declared.fault.Refusal.TheVariants as refusal
use Rattle.fw_rows.proofs.JudgedFacts.{first-back, first-front, none-both}
use Rattle.fw_rows.proofs.TagFacts.{all_short}
use Rattle.fw_rows.proofs.MakingFacts.{short_text, has_status, short_or_null}
use Rattle.fw_column_rows.specs.Filling.{AddsView, AreTagsOf, HasTagsOf, IsAdded}
use Rattle.fw_column_rows.proofs.FillFacts.{last_text, tags_kept}
use Rattle.fw_row_table.specs.Names.{Text}
use Rattle.fw_column_rows.specs.Views.{view_rules, ViewStands}

-- the discount that is named is what the texts say
pub named_stands : (at : Texts) (named : Option NamedDiscount) (o : Option DiscountText) → o ≡ discount_text named → NamedOrNull at named → MatchOption o (at column.CommitmentDiscountId ≡ []) (DiscountStands at)
named_stands at None o is h = rw is h
named_stands at (Some n) o is h = rw is (record { id = sym h.id; kind = h.kind; status = h.status })

-- a discount keeps the rules of one
discount_kept : (at : Texts) (c : Category) (o : Option DiscountText) → at column.ChargeCategory ≡ category_word c → length (at column.CommitmentDiscountId) ≤ longest_short_text
    → MatchOption o (at column.CommitmentDiscountId ≡ []) (DiscountStands at) → IfSome o (IsDiscountOf c)
unfolding KindReads
discount_kept at c None word few stands = tt
discount_kept at c (Some d) word few stands =
    let some : at column.CommitmentDiscountId ≢ [] = stands.kind.0 in
    record {
      id = subst IsShortText stands.id (short_text (at column.CommitmentDiscountId) some few);
      status = has_status c (at column.ChargeCategory) (at column.CommitmentDiscountId) (at column.CommitmentDiscountStatus) d.status word some stands.status;
    }

module _ (at : Texts) (row : RowView) (tags : List TagText) (stands : ViewStands at row) where
  -- values and tags stand for the row
  view_row : tags_stated (at column.Tags) ≡ Some tags → Stands at (charge_with row tags)
  view_row is = record {
    billed = stands.billed;
    effective = stands.effective;
    category = stands.category;
    class = stands.class;
    start = stands.start;
    end = stands.end;
    discount = stands.discount;
    quantity = stands.quantity;
    unit = stands.unit;
    sku = stands.sku;
    sub_account = stands.sub_account;
    tags = is;
  }

  -- and keep the rules of one
  pub view_charge : TextsAreShort at → IsTags tags → IsCharge (charge_with row tags)
  view_charge short kept = record {
    ordered = stands.ordered;
    dated = stands.dated;
    discount = discount_kept at row.category (discount_with row.discount row.kind row.status) stands.category short.id stands.discount;
    unit = short_or_null (at column.ConsumedUnit) _ stands.unit short.unit;
    sku = short_or_null (at column.SkuId) _ stands.sku short.sku;
    sub_account = short_or_null (at column.SubAccountId) _ stands.sub_account short.sub_account;
    tags = kept;
  }

-- the rules of the texts are those of the values, and then those of tags and lengths
pub view_parted : (currency : List ℕ) (at : Texts) → text_rules currency at ≡ view_rules currency at ++ length_rules at
unfolding text_rules view_rules charged_rules discount_rules word_rules cost_rules period_rules kind_rules status_rules quantity_rules length_rules
view_parted currency at = refl

pub all_judged : (currency : List ℕ) (at : Texts) (row : RowView) (old new : List Charge) (r : Result (Unit {0}) Refusal) → NoneBroken (view_rules currency at) → ViewStands at row
    → JudgedWithin (length_rules at) (λ _. AddsView at row old new) r → JudgedWithin (text_rules currency at) (λ _. AddsRow at old new) r
all_judged currency at row old new (Ok x) none stands h =
    let added = h.1 in
    (rw (view_parted currency at) (none-both (view_rules currency at) (length_rules at) none h.0), (charge_with row added.1, view_row at row added.1 stands added.2, added.3))
all_judged currency at row old new (Err (refusal.Broken f)) none stands h = rw (view_parted currency at) (first-back (view_rules currency at) (length_rules at) f none h)
all_judged currency at row old new (Err refusal.NoMemory) none stands h = tt

-- ---- another text of tags

view_rules_stay : (currency : List ℕ) (at : Texts) (text : List ℕ) → view_rules currency (with_text at text) ≡ view_rules currency at
unfolding view_rules charged_rules discount_rules word_rules cost_rules period_rules kind_rules status_rules quantity_rules
view_rules_stay currency at text = refl

discount_stays : (at : Texts) (text : List ℕ) (o : Option DiscountText) → MatchOption o (at column.CommitmentDiscountId ≡ []) (DiscountStands at)
    → MatchOption o (at column.CommitmentDiscountId ≡ []) (DiscountStands (with_text at text))
discount_stays at text None stands = stands
discount_stays at text (Some d) stands = record { id = stands.id; kind = stands.kind; status = stands.status }

view_stays : (at : Texts) (text : List ℕ) (row : RowView) → ViewStands at row → ViewStands (with_text at text) row
view_stays at text row stands = record {
  billed = stands.billed;
  effective = stands.effective;
  category = stands.category;
  class = stands.class;
  start = stands.start;
  end = stands.end;
  ordered = stands.ordered;
  dated = stands.dated;
  discount = discount_stays at text (discount_with row.discount row.kind row.status) stands.discount;
  quantity = stands.quantity;
  unit = stands.unit;
  sku = stands.sku;
  sub_account = stands.sub_account;
}

-- the row of a record with another text of tags
pub given_judged : (currency : List ℕ) (at : Texts) (text : List ℕ) (row : RowView) (old new : List Charge) (r : Result (Unit {0}) Refusal) → NoneBroken (view_rules currency at) → ViewStands at row
    → JudgedWithin (length_rules (with_text at text)) (λ _. AddsView (with_text at text) row old new) r → JudgedWithin (text_rules currency (with_text at text)) (λ _. AddsRow (with_text at text) old new) r
given_judged currency at text row old new r none stands h =
    all_judged currency (with_text at text) row old new r (subst NoneBroken (sym (view_rules_stay currency at text)) none) (view_stays at text row stands) h

-- its first fault, where this isn't one of tags or lengths
pub fault_given : (currency : List ℕ) (at : Texts) (text : List ℕ) (f : RecordFault) → FirstBroken (view_rules currency at) f → FirstBroken (text_rules currency (with_text at text)) f
fault_given currency at text f first =
    rw (view_parted currency (with_text at text)) (first-front (view_rules currency (with_text at text)) (length_rules (with_text at text)) f (subst (λ rules. FirstBroken rules f) (sym (view_rules_stay currency at text)) first))

-- ---- values and tags

short_stays : (at : Texts) (text : List ℕ) → TextsAreShort at → TextsAreShort (with_text at text)
short_stays at text short = record { id = short.id; unit = short.unit; sku = short.sku; sub_account = short.sub_account }

short_back : (at : Texts) (text : List ℕ) → TextsAreShort (with_text at text) → TextsAreShort at
short_back at text short = record { id = short.id; unit = short.unit; sku = short.sku; sub_account = short.sub_account }

-- what was added is the row of the record with another text of tags too
added_stays : (at : Texts) (text : List ℕ) (row : RowView) (tags : List TagText) (old new : List Charge) (r : Result (Unit {0}) Refusal) → IsAdded at row tags old new r → IsAdded (with_text at text) row tags old new r
added_stays at text row tags old new (Ok u) is = (short_stays at text is.0, is.1)
added_stays at text row tags old new (Err (refusal.Broken f)) is = ((λ short. is.0 (short_back at text short)), is.1)
added_stays at text row tags old new (Err refusal.NoMemory) is = tt

module _ (at : Texts) (row : RowView) (tags : List TagText) (old new : List Charge) (stated : tags_stated (at column.Tags) ≡ Some tags) (valid : IsTags tags) where
  -- values and tags of which the text of tags states these
  pub added_judged : (r : Result (Unit {0}) Refusal) → IsAdded at row tags old new r → JudgedWithin (length_rules at) (λ _. AddsView at row old new) r
  unfolding NoneBroken FirstBroken length_rules
  added_judged (Ok u) is =
      let short = all_short at tags stated (record { few = valid.few; sized = valid.sized }) is.0 in
      ((λ none. let both = sym stated ∙ none in absurd (cc), (λ long. long short, tt)), (short, tags, stated, is.1))
  added_judged (Err (refusal.Broken f)) is =
      inr ((λ none. let both = sym stated ∙ none in absurd (cc)), inl ((λ short. is.0 (record { id = short.id; unit = short.unit; sku = short.sku; sub_account = short.sub_account })), is.1))
  added_judged (Err refusal.NoMemory) is = tt

-- and where it is another text
pub added_given : (at : Texts) (text : List ℕ) (row : RowView) (tags : List TagText) (old new : List Charge) (r : Result (Unit {0}) Refusal) → tags_stated text ≡ Some tags → IsTags tags → IsAdded at row tags old new r
    → JudgedWithin (length_rules (with_text at text)) (λ _. AddsView (with_text at text) row old new) r
added_given at text row tags old new r stated valid is = added_judged (with_text at text) row tags old new stated valid r (added_stays at text row tags old new r is)

-- there is a row more, where there was no fault
pub added_more : (at : Texts) (row : RowView) (tags : List TagText) (old new : List Charge) (r : Result (Unit {0}) Refusal) → IsAdded at row tags old new r
    → OnOk r ((tags : List TagText) × (new ≡ old ++ charge_with row tags ∷ []))
added_more at row tags old new (Ok u) is = (tags, is.1)
added_more at row tags old new (Err e) is = tt

-- and that row has the tags of a text that states them
pub added_has : (t : List ℕ) (at : Texts) (row : RowView) (tags : List TagText) (old new : List Charge) (r : Result (Unit {0}) Refusal) → tags_stated t ≡ Some tags → IsTags tags → IsAdded at row tags old new r
    → OnOk r (HasTagsOf t (length old) new)
added_has t at row tags old new (Ok u) stated valid is = last_text t tags old new (charge_with row tags) is.1 refl stated valid
added_has t at row tags old new (Err e) stated valid is = tt

-- the texts and their rows stay
pub texts_stay : (names : List Text) (places : List ℕ) (most : ℕ) (row : RowView) (old new : List Charge) (r : Result (Unit {0}) Refusal) → AreTagsOf names places old → length names ≤ most + length old
    → OnOk r ((tags : List TagText) × (new ≡ old ++ charge_with row tags ∷ [])) → OnOk r (AreTagsOf names places new × (length names ≤ most + length new))
texts_stay names places most row old new (Ok u) are few more =
    let x = charge_with row more.0 in
    rw more.1 (tags_kept names places old x are, omega (arith, few, length-append old (x ∷ [])))
texts_stay names places most row old new (Err e) are few more = tt
