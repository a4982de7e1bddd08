-- A row with kept columns is the row that the record stands for without them, with their tags added.
use Rattle.std.proofs.Common.{◌≡◌, ◌≢◌, List, [], ◌∷◌, ◌++◌, Option, Some, None, Ok, sym, ap, subst, ◌∙◌, inl, inr}
use Rattle.std.specs.Prelude.{IfSome, MatchOption, ℕ}
use Rattle.fw_charge.specs.Charge.{Charge, DiscountText}
use Rattle.fw_charge.specs.Tags.{TagText}
use Rattle.fw_instants.specs.Instants.{IsSecond}
use Rattle.fw_money.specs.Reading.{Reads}
use Rattle.fw_rules.specs.Table.{NoneBroken}
use Rattle.fw_tags.specs.Reading.{AreSized}
use Rattle.fw_rows.specs.Columns.{Record, text_in}
use Rattle.fw_rows.specs.Keeps.{KeepText}
use Rattle.fw_rows.specs.Kept.{RecordKept, StatesTags, StatesWith, kept_texts, row_with, tags_kept, with_tags}
use Rattle.fw_rows.specs.Rules.{DiscountStands, KindReads, QuantityReads, Rule, Stands, StatusReads, Texts, not_null, tags_stated, text_rules, word_rules, cost_rules, period_rules, kind_rules, status_rules, quantity_rules, length_rules}
use Rattle.fw_rows.specs.declared.column.Column.{Column}
use Rattle.fw_rows.specs.declared.column.Column.TheVariants as column

none_later : (front back : List Rule) → NoneBroken (front ++ back) → NoneBroken back
unfolding NoneBroken
none_later [] back none = none
none_later (r ∷ front) back none = none_later front back none.1

-- the rules of lengths are among those of texts
lengths_hold : (currency : List ℕ) (at : Texts) → NoneBroken (text_rules currency at) → NoneBroken (length_rules at)
unfolding text_rules
lengths_hold currency at none =
    none_later (quantity_rules at) _ (none_later (status_rules at) _ (none_later (kind_rules at) _ (none_later (period_rules at) _ (none_later (cost_rules currency at) _ (none_later (word_rules at) _ none)))))

-- tags that a record states under these rules are tags that a row may have
not_untagged : (at : Texts) (tags : List TagText) → NoneBroken (length_rules at) → tags_stated (at column.Tags) ≡ Some tags → ¬ ¬ StatesTags (at column.Tags) tags
unfolding length_rules NoneBroken
not_untagged at tags none is never = none.1.0 (λ short. never (is, subst (λ o. IfSome o AreSized) is short.tags))

-- the texts of a record but for its tags are those of another
abbrev Alike : Texts → Texts → Type 0
Alike at other = (c : Column) → c ≢ column.Tags → at c ≡ other c

discount_moves : (at other : Texts) (discount : Option DiscountText) → Alike at other → MatchOption discount (at column.CommitmentDiscountId ≡ []) (DiscountStands at)
    → MatchOption discount (other column.CommitmentDiscountId ≡ []) (DiscountStands other)
discount_moves at other None alike stands = sym (alike column.CommitmentDiscountId (λ e. cc)) ∙ stands
discount_moves at other (Some d) alike stands =
    let id = alike column.CommitmentDiscountId (λ e. cc) in
    let kind = alike column.CommitmentDiscountCategory (λ e. cc) in
    let status = alike column.CommitmentDiscountStatus (λ e. cc) in
    let category = alike column.ChargeCategory (λ e. cc) in
    record {
      id = sym id ∙ stands.id;
      kind = subst (λ t. KindReads t (other column.CommitmentDiscountCategory) (Some d.kind)) id (subst (λ t. KindReads (at column.CommitmentDiscountId) t (Some d.kind)) kind stands.kind);
      status =
          subst (λ t. StatusReads t (other column.CommitmentDiscountId) (other column.CommitmentDiscountStatus) d.status) category
          (subst (λ t. StatusReads (at column.ChargeCategory) t (other column.CommitmentDiscountStatus) d.status) id
          (subst (λ t. StatusReads (at column.ChargeCategory) (at column.CommitmentDiscountId) t d.status) status stands.status));
    }

-- what other texts say is the row with their tags
row_moves : (at other : Texts) (row : Charge) (tags : List TagText) → Alike at other → Stands at row → tags_stated (other column.Tags) ≡ Some tags → Stands other (record row { tags = tags })
row_moves at other row tags alike stands stated = record {
  billed = subst (λ t. Reads t (Ok row.billed)) (alike column.BilledCost (λ e. cc)) stands.billed;
  effective = subst (λ t. Reads t (Ok row.effective)) (alike column.EffectiveCost (λ e. cc)) stands.effective;
  category = sym (alike column.ChargeCategory (λ e. cc)) ∙ stands.category;
  class = sym (alike column.ChargeClass (λ e. cc)) ∙ stands.class;
  start = subst (λ t. IsSecond t row.start) (alike column.ChargePeriodStart (λ e. cc)) stands.start;
  end = subst (λ t. IsSecond t row.end) (alike column.ChargePeriodEnd (λ e. cc)) stands.end;
  discount = discount_moves at other row.discount alike stands.discount;
  quantity = subst (λ t. QuantityReads t row.quantity) (alike column.ConsumedQuantity (λ e. cc)) stands.quantity;
  unit = stands.unit ∙ ap not_null (alike column.ConsumedUnit (λ e. cc));
  sku = stands.sku ∙ ap not_null (alike column.SkuId (λ e. cc));
  sub_account = stands.sub_account ∙ ap not_null (alike column.SubAccountId (λ e. cc));
  tags = stated;
}

-- the row, where the texts of a record state tags with others added
row_of : (at other : Texts) (row : Charge) (added : List TagText) → Alike at other → NoneBroken (length_rules at) → Stands at row → StatesWith added (other column.Tags) (at column.Tags)
    → (plain : Charge) × Stands other plain × (row ≡ row_with added plain)
row_of at other row added alike none stands (inl with) =
    let tags : Some row.tags ≡ Some (with_tags added with.0) = sym stands.tags ∙ with.2 in
    let same : row.tags ≡ with_tags added with.0 = cc in
    (record row { tags = with.0 }, row_moves at other row with.0 alike stands with.1.0, ap (λ t. record row { tags = t }) same)
row_of at other row added alike none stands (inr as_is) =
    absurd (not_untagged at row.tags none stands.tags (λ states. as_is.0 row.tags (subst (λ t. StatesTags t row.tags) as_is.1 states)))

pub plain_row : (currency : List ℕ) (keeps : List KeepText) (header fields : Record) (row : Charge) → RecordKept currency keeps header fields (Ok row)
    → (plain : Charge) × Stands (text_in header fields) plain × (row ≡ row_with (tags_kept keeps (kept_texts keeps header fields)) plain)
unfolding RecordKept
plain_row currency keeps header fields row reads =
    row_of reads.1 (text_in header fields) row (tags_kept keeps (kept_texts keeps header fields)) reads.2.others (lengths_hold currency reads.1 reads.3) reads.4 reads.2.tags
