-- What lent rows read of columns.
use Rattle.std.proofs.Common.{◌≡◌, ℕ, zero, suc, true, false, ◌+◌, ◌<◌, ◌≤◌, ◌/◌, List, [], ◌∷◌, length, drop, get_or, Option, Some, None, refl, ap, ◌∙◌, arith}
use Rattle.std.specs.Str.{bytes_eq}
use Rattle.fw_charge.specs.Tags.{TagText, tag_under, value_under, group_of}
use Rattle.fw_row_table.specs.Names.{Text}
use Rattle.fw_charge.specs.Codes.{status_of}
use Rattle.fw_charge.specs.declared.discount.DiscountKind.{DiscountKind}
use Rattle.fw_charge.specs.declared.discount.DiscountStatus.{DiscountStatus}
use Rattle.std.specs.Borrow.{Bor}
use Rattle.std.specs.Prelude.{option_copied}
use Rattle.fw_row_table.specs.Lending.{discount_with}
use Rattle.fw_row_table.specs.Table.{discount_of, kind_at, tag_of, tags_of}

pub group_first : (key : Text) (t : TagText) (ts : List TagText) → bytes_eq t.key key ≡ true → group_of key (t ∷ ts) ≡ t.value
unfolding group_of value_under tag_under
group_first key t ts same = rw same refl

pub group_behind : (key : Text) (t : TagText) (ts : List TagText) → bytes_eq t.key key ≡ false → group_of key (t ∷ ts) ≡ group_of key ts
unfolding group_of value_under tag_under
group_behind key t ts other = rw other refl

pub group_nowhere : (key : Text) → group_of key [] ≡ []
unfolding group_of value_under tag_under
group_nowhere key = refl

-- the discount that is lent of codes is the one that they stand for
pub discount_kept : (id : Option (Bor Text)) (kind : DiscountKind) (status : Option DiscountStatus) (text : Option Text) (k s : ℕ) → option_copied id ≡ text → kind ≡ kind_at k → status ≡ status_of s
    → discount_with id kind status ≡ discount_of text k s
unfolding discount_of
discount_kept None kind status text k s is kind_is status_is = ap (λ (t : Option Text). discount_of t k s) is
discount_kept (Some id) kind status text k s is kind_is status_is =
    (λ j. Some (record { id = id.now; kind = kind_is j; status = status_is j })) ∙ ap (λ (t : Option Text). discount_of t k s) is

pub tags_counted : (names : List Text) (places : List ℕ) → length places / 2 ≡ length (tags_of names places)
unfolding tags_of
tags_counted names [] = refl
tags_counted names (key ∷ []) = refl
tags_counted names (key ∷ value ∷ places) =
    let behind : length places / 2 ≡ length (tags_of names places) = tags_counted names places in
    omega (arith, behind)

-- the tags from one on, and from the next one on
pub tags_from : (names : List Text) (list : List ℕ) (i j k d e : ℕ) → j ≡ i + 1 → k ≡ i + 2 → j < length list → tags_of names (drop i list) ≡ tag_of names (get_or list i d) (get_or list j e) ∷ tags_of names (drop k list)
unfolding tags_of
tags_from names [] i j k d e one two below = absurd (omega (arith, below))
tags_from names (x ∷ []) zero j k d e one two below = absurd (omega (arith, one, below))
tags_from names (x ∷ y ∷ list) zero j k d e one two below = rw (one, two) refl
tags_from names (x ∷ list) (suc i) zero k d e one two below = absurd (omega (arith, one))
tags_from names (x ∷ list) (suc i) (suc j) zero d e one two below = absurd (omega (arith, two))
tags_from names (x ∷ list) (suc i) (suc j) (suc k) d e one two below = tags_from names list i j k d e (omega (arith, one)) (omega (arith, two)) (omega (arith, below))

-- fewer than two places are no tag
pub tags_short : (names : List Text) (list : List ℕ) → length list ≤ 1 → tags_of names list ≡ []
unfolding tags_of
tags_short names [] few = refl
tags_short names (x ∷ []) few = refl
tags_short names (x ∷ y ∷ list) few = absurd (omega (arith, few))
