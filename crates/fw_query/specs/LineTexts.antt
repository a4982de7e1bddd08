-- The texts of a line's record. The private functions of the listing cite it.
use Rattle.std.specs.Prelude.{◌≡◌, ℕ, List, [], ◌∷◌}
use Rattle.fw_query.specs.declared.line_text.ChargeTexts.{ChargeTexts}
use Rattle.fw_query.specs.declared.line_text.MeasureTexts.{MeasureTexts}

-- the fields of a record, in the order of the columns
abbrev pub texts_of : ChargeTexts → MeasureTexts → List (List ℕ)
texts_of c m =
    c.hour.now ∷ (c.category.now ∷ (c.id.now ∷ (c.kind.now ∷ (c.status.now
    ∷ (m.billed.now ∷ (m.effective.now ∷ (m.quantity.now ∷ (m.sku.now ∷ (m.sub_account.now ∷ [])))))))))

-- these are the first five texts
pub record AreChargeTexts (c : ChargeTexts) (hour category id kind status : List ℕ) : Type 0 where
  pub hour_is : c.hour.now ≡ hour
  pub category_is : c.category.now ≡ category
  pub id_is : c.id.now ≡ id
  pub kind_is : c.kind.now ≡ kind
  pub status_is : c.status.now ≡ status

-- these are the last five texts
pub record AreMeasureTexts (m : MeasureTexts) (billed effective quantity sku sub_account : List ℕ) : Type 0 where
  pub billed_is : m.billed.now ≡ billed
  pub effective_is : m.effective.now ≡ effective
  pub quantity_is : m.quantity.now ≡ quantity
  pub sku_is : m.sku.now ≡ sku
  pub sub_account_is : m.sub_account.now ≡ sub_account
