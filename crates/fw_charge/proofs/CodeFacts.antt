-- Each code stands for one category, class, kind or status, and each of them has one code; no two of them have one word.
use Rattle.std.proofs.Common.{◌≡◌, ◌≤◌, ℕ, zero, suc, Bool, true, false, Some, length, get_or, refl, sym, ap, ◌∙◌, arith}
use Rattle.std.specs.Prelude.{if◌then◌else◌, ◌==◌}
use Rattle.fw_charge.specs.Codes.{category_word, category_code, category_count, category_of, class_word, class_code, class_of, kind_word, kind_code, kind_of, status_word, status_code, status_of}
use Rattle.fw_charge.specs.declared.category.Category.{Category}
use Rattle.fw_charge.specs.declared.category.Category.TheVariants as category
use Rattle.fw_charge.specs.declared.discount.DiscountKind.{DiscountKind}
use Rattle.fw_charge.specs.declared.discount.DiscountKind.TheVariants as kind
use Rattle.fw_charge.specs.declared.discount.DiscountStatus.{DiscountStatus}
use Rattle.fw_charge.specs.declared.discount.DiscountStatus.TheVariants as status

-- what has a code, has that code
same_code : {A : Type 0} (code : A → ℕ) (x y : A) → Some x ≡ Some y → code y ≡ code x
same_code code x y e = cc

pub category_back : (b : ℕ) (x : Category) → category_of b ≡ Some x → category_code x ≡ b
unfolding category_code
category_back zero x e = absurd cc
category_back (suc zero) x e = same_code category_code category.Usage x e
category_back (suc (suc zero)) x e = same_code category_code category.Purchase x e
category_back (suc (suc (suc zero))) x e = same_code category_code category.Tax x e
category_back (suc (suc (suc (suc zero)))) x e = same_code category_code category.Credit x e
category_back (suc (suc (suc (suc (suc zero))))) x e = same_code category_code category.Adjustment x e
category_back (suc (suc (suc (suc (suc (suc b)))))) x e = absurd cc

pub category_there : (x : Category) → category_of (category_code x) ≡ Some x
unfolding category_code
category_there category.Usage = refl
category_there category.Purchase = refl
category_there category.Tax = refl
category_there category.Credit = refl
category_there category.Adjustment = refl

pub category_within : (k : Category) → (1 ≤ category_code k) × (category_code k ≤ category_count)
unfolding category_code
category_within category.Usage = (omega arith, omega arith)
category_within category.Purchase = (omega arith, omega arith)
category_within category.Tax = (omega arith, omega arith)
category_within category.Credit = (omega arith, omega arith)
category_within category.Adjustment = (omega arith, omega arith)

pub class_back : (b : ℕ) (x : Bool) → class_of b ≡ Some x → class_code x ≡ b
unfolding class_code
class_back zero x e = same_code class_code false x e
class_back (suc zero) x e = same_code class_code true x e
class_back (suc (suc b)) x e = absurd cc

pub class_there : (x : Bool) → class_of (class_code x) ≡ Some x
unfolding class_code
class_there false = refl
class_there true = refl

pub kind_back : (b : ℕ) (x : DiscountKind) → kind_of b ≡ Some x → kind_code (Some x) ≡ b
unfolding kind_code
kind_back zero x e = absurd cc
kind_back (suc zero) x e = same_code (λ k. kind_code (Some k)) kind.Usage x e
kind_back (suc (suc zero)) x e = same_code (λ k. kind_code (Some k)) kind.Spend x e
kind_back (suc (suc (suc b))) x e = absurd cc

pub kind_there : (x : DiscountKind) → kind_of (kind_code (Some x)) ≡ Some x
unfolding kind_code
kind_there kind.Usage = refl
kind_there kind.Spend = refl

pub status_back : (b : ℕ) (x : DiscountStatus) → status_of b ≡ Some x → status_code (Some x) ≡ b
unfolding status_code
status_back zero x e = absurd cc
status_back (suc zero) x e = same_code (λ s. status_code (Some s)) status.Used x e
status_back (suc (suc zero)) x e = same_code (λ s. status_code (Some s)) status.Unused x e
status_back (suc (suc (suc b))) x e = absurd cc

pub status_there : (x : DiscountStatus) → status_of (status_code (Some x)) ≡ Some x
unfolding status_code
status_there status.Used = refl
status_there status.Unused = refl

-- ---- words

-- the words of the categories differ in their lengths
of_length : ℕ → Category
of_length n = if n == 5 then category.Usage else (if n == 8 then category.Purchase else (if n == 3 then category.Tax else (if n == 6 then category.Credit else category.Adjustment)))

length_back : (k : Category) → of_length (length (category_word k)) ≡ k
unfolding category_word of_length
length_back category.Usage = refl
length_back category.Purchase = refl
length_back category.Tax = refl
length_back category.Credit = refl
length_back category.Adjustment = refl

pub category_word-one : (j k : Category) → category_word j ≡ category_word k → j ≡ k
category_word-one j k same = sym (length_back j) ∙ (ap (λ word. of_length (length word)) same ∙ length_back k)

pub class_word-one : (c d : Bool) → class_word c ≡ class_word d → c ≡ d
unfolding class_word
class_word-one false false same = refl
class_word-one false true same = absurd (cc)
class_word-one true false same = absurd (cc)
class_word-one true true same = refl

pub kind_word-one : (j k : DiscountKind) → kind_word j ≡ kind_word k → j ≡ k
unfolding kind_word
kind_word-one kind.Usage kind.Usage same = refl
kind_word-one kind.Usage kind.Spend same = let letter : 85 ≡ 83 = ap (λ word. get_or word 0 0) same in absurd (omega (arith, letter))
kind_word-one kind.Spend kind.Usage same = let letter : 83 ≡ 85 = ap (λ word. get_or word 0 0) same in absurd (omega (arith, letter))
kind_word-one kind.Spend kind.Spend same = refl

pub status_word-one : (s t : DiscountStatus) → status_word s ≡ status_word t → s ≡ t
unfolding status_word
status_word-one status.Used status.Used same = refl
status_word-one status.Used status.Unused same = absurd (cc)
status_word-one status.Unused status.Used same = absurd (cc)
status_word-one status.Unused status.Unused same = refl
