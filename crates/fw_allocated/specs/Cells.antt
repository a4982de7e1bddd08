-- What a row has in each column.
use Rattle.std.specs.Prelude.{ℕ, Bool, true, false, List, [], ◌∷◌, Option, Some, None, codes, option_and_then, option_map}
use Rattle.serde_json.specs.Data as json
use Rattle.serde_json.specs.Written.{compact_text}
use Rattle.fw_money.specs.Writing.{text_of}
use Rattle.fw_charge.specs.Charge.{Charge}
use Rattle.fw_charge.specs.Codes.{category_word, kind_word, status_word}
use Rattle.fw_charge.specs.Tags.{TagText}

-- the names of the columns, without the one of the tags, which is the last
unfoldable pub column_names : List (List ℕ)
column_names =
    codes "BilledCost" ∷ (codes "EffectiveCost" ∷ (codes "BillingCurrency" ∷ (codes "ChargeCategory" ∷ (codes "ChargePeriodStart" ∷ (codes "ChargePeriodEnd"
    ∷ (codes "ChargeClass" ∷ (codes "CommitmentDiscountId" ∷ (codes "CommitmentDiscountCategory" ∷ (codes "CommitmentDiscountStatus"
    ∷ (codes "ConsumedQuantity" ∷ (codes "ConsumedUnit" ∷ (codes "SkuId" ∷ (codes "SubAccountId" ∷ [])))))))))))))

-- the class of a correction, and null for any other row
unfoldable pub class_cell : Bool → Option (List ℕ)
class_cell false = None
class_cell true = Some (codes "Correction")

-- the texts of a row in these columns, where costs are in this currency and the period has these texts; what is null has none. Costs and the quantity
-- have nine digits behind the point
unfoldable pub cells_of : List ℕ → Charge → List ℕ → List ℕ → List (Option (List ℕ))
cells_of currency row start end =
    Some (text_of row.billed) ∷ (Some (text_of row.effective) ∷ (Some currency ∷ (Some (category_word row.category) ∷ (Some start ∷ (Some end
    ∷ (class_cell row.is_correction ∷ (option_map (λ d. d.id) row.discount ∷ (option_map (λ d. kind_word d.kind) row.discount
    ∷ (option_and_then (λ d. option_map status_word d.status) row.discount
    ∷ (option_map text_of row.quantity ∷ (row.unit ∷ (row.sku ∷ (row.sub_account ∷ [])))))))))))))

-- tags as the members of a JSON object: a key, and the text under it
abbrev pub tag_members : List TagText → json.Members
tag_members [] = json.no_members
tag_members (tag ∷ tags) = json.member tag.key (json.string tag.value) (tag_members tags)

-- the JSON object of tags, which has no member where there is no tag
abbrev pub tags_object : List TagText → json.Data
tags_object tags = json.object (tag_members tags)

unfoldable pub tags_text : List TagText → List ℕ
tags_text tags = compact_text (tags_object tags)
