-- The words and the numbers that stand for a row's category, its class, and the kind and the status of its discount: the words in a
-- CSV text, the numbers where rows are kept.
use Rattle.std.specs.Prelude.{ℕ, zero, suc, Bool, true, false, List, [], codes, Option, Some, None}
use Rattle.fw_charge.specs.declared.category.Category.{Category}
use Rattle.fw_charge.specs.declared.category.Category.TheVariants as category
use Rattle.fw_charge.specs.declared.discount.DiscountKind.{DiscountKind}
use Rattle.fw_charge.specs.declared.discount.DiscountKind.TheVariants as kind
use Rattle.fw_charge.specs.declared.discount.DiscountStatus.{DiscountStatus}
use Rattle.fw_charge.specs.declared.discount.DiscountStatus.TheVariants as status

-- ---- categories

unfoldable pub category_word : Category → List ℕ
category_word category.Usage = codes "Usage"
category_word category.Purchase = codes "Purchase"
category_word category.Tax = codes "Tax"
category_word category.Credit = codes "Credit"
category_word category.Adjustment = codes "Adjustment"

unfoldable pub category_code : Category → ℕ
category_code category.Usage = 1
category_code category.Purchase = 2
category_code category.Tax = 3
category_code category.Credit = 4
category_code category.Adjustment = 5

-- how many categories there are; their codes are 1 to this
abbrev pub category_count : ℕ
category_count = 5

-- the category with a code
abbrev pub category_of : ℕ → Option Category
category_of zero = None
category_of (suc zero) = Some category.Usage
category_of (suc (suc zero)) = Some category.Purchase
category_of (suc (suc (suc zero))) = Some category.Tax
category_of (suc (suc (suc (suc zero)))) = Some category.Credit
category_of (suc (suc (suc (suc (suc zero))))) = Some category.Adjustment
category_of (suc (suc (suc (suc (suc (suc b)))))) = None

-- ---- classes: whether a row is a correction

-- null, or the word of a correction
unfoldable pub class_word : Bool → List ℕ
class_word false = []
class_word true = codes "Correction"

unfoldable pub class_code : Bool → ℕ
class_code false = 0
class_code true = 1

-- the class with a code
abbrev pub class_of : ℕ → Option Bool
class_of zero = Some false
class_of (suc zero) = Some true
class_of (suc (suc b)) = None

-- ---- kinds of discounts

unfoldable pub kind_word : DiscountKind → List ℕ
kind_word kind.Usage = codes "Usage"
kind_word kind.Spend = codes "Spend"

-- the code of a kind that may be null: 0 for null
unfoldable pub kind_code : Option DiscountKind → ℕ
kind_code None = 0
kind_code (Some kind.Usage) = 1
kind_code (Some kind.Spend) = 2

-- the kind with a code; null isn't one
abbrev pub kind_of : ℕ → Option DiscountKind
kind_of zero = None
kind_of (suc zero) = Some kind.Usage
kind_of (suc (suc zero)) = Some kind.Spend
kind_of (suc (suc (suc b))) = None

-- ---- statuses of discounts

unfoldable pub status_word : DiscountStatus → List ℕ
status_word status.Used = codes "Used"
status_word status.Unused = codes "Unused"

-- the code of a status that may be null: 0 for null
unfoldable pub status_code : Option DiscountStatus → ℕ
status_code None = 0
status_code (Some status.Used) = 1
status_code (Some status.Unused) = 2

-- the status with a code; null isn't one
abbrev pub status_of : ℕ → Option DiscountStatus
status_of zero = None
status_of (suc zero) = Some status.Used
status_of (suc (suc zero)) = Some status.Unused
status_of (suc (suc (suc b))) = None
