-- Which rules fields that agree keep as a row, and the other way round.
use Rattle.std.proofs.Common.{◌≡◌, ◌≤◌, ℕ, Bool, true, false, List, [], ◌∷◌, length, map, Option, Some, None, All, ltb, cond, refl}
use Rattle.std.specs.Prelude.{IfSome, IsSome}
use Rattle.std.specs.List.{AllByRecursion}
use Rattle.std.proofs.lemmas.Bool.{and_parts, leb-true, ltb-true, ltb-false}
use Rattle.std.proofs.lemmas.List.Elements.{All-cons, All-nil}
use Rattle.fw_bytes.specs.Spelling.{FitsOptional, within}
use Rattle.fw_bytes.proofs.Rising.{sorted_from_rise, rise_from_sorted}
use Rattle.fw_charge.specs.Charge.{DiscountText, IsShortText, IsDiscountOf}
use Rattle.fw_charge.specs.Tags.{TagText, IsTagSized, IsTags, most_tags}
use Rattle.fw_charge.specs.declared.category.Category.{Category}
use Rattle.fw_charge.specs.declared.category.Category.TheVariants as category
use Rattle.fw_charge.specs.declared.discount.DiscountKind.{DiscountKind}
use Rattle.fw_charge.specs.declared.discount.DiscountStatus.{DiscountStatus}
use Rattle.fw_charge.specs.Spelling.{FitsShortText, FitsTag, FitsTags, keys_rise, FitsDiscount}
use Rattle.fw_fields.specs.Row.{DiscountParts, discount_agrees, discount_from}

-- ---- tags

not_above : (low high : Bool) → cond low false (cond high false true) ≡ true → high ≡ false
not_above true high e = absurd cc
not_above false true e = absurd cc
not_above false false e = refl

few : (n : ℕ) → within 0 most_tags n ≡ true → n ≤ most_tags
few n e = ltb-false most_tags n (not_above (ltb n 0) (ltb most_tags n) e)

sized : (ts : List TagText) → AllByRecursion FitsTag ts → All IsTagSized ts
sized [] h = All-nil IsTagSized
sized (t ∷ ts) h = All-cons IsTagSized t ts (record { key = leb-true _ _ h.0.0.1; value = leb-true _ _ h.0.1.1 }) (sized ts h.1)

-- tags that are within their limits and in order are tags
pub is_tags : (ts : List TagText) → FitsTags ts → keys_rise ts ≡ true → IsTags ts
is_tags ts h rising = record { rising = sorted_from_rise (map (λ t. t.key) ts) rising; few = few (length ts) h.1; sized = sized ts h.2 }

pub tags_rise : (ts : List TagText) → IsTags ts → keys_rise ts ≡ true
tags_rise ts h = rise_from_sorted (map (λ t. t.key) ts) h.rising

-- ---- texts

pub is_short_text : (text : List ℕ) → FitsShortText text → IsShortText text
is_short_text text h = let p = and_parts _ _ h.1 in record { some = ltb-true _ _ p.0; few = leb-true _ _ p.1 }

pub are_short_texts : (text : Option (List ℕ)) → FitsOptional FitsShortText text → IfSome text IsShortText
are_short_texts None h = tt
are_short_texts (Some text) h = is_short_text text h

-- ---- the discount

-- a discount's parts, each of which may be null
abbrev pub parts_of : Option DiscountText → DiscountParts
parts_of None = (None, (None, None))
parts_of (Some d) = (Some d.id, (Some d.kind, d.status))

pub same_parts : (c : Category) (p : DiscountParts) → discount_agrees c p ≡ true → parts_of (discount_from p) ≡ p
same_parts c (None, (None, None)) e = refl
same_parts c (None, (None, Some s)) e = absurd cc
same_parts c (None, (Some k, s)) e = absurd cc
same_parts c (Some id, (None, s)) e = absurd cc
same_parts c (Some id, (Some k, s)) e = refl

pub same_discount : (d : Option DiscountText) → discount_from (parts_of d) ≡ d
same_discount None = refl
same_discount (Some d) = refl

-- parts that agree make a discount of the row's category
pub is_discount_from : (c : Category) (p : DiscountParts) → FitsOptional FitsShortText p.0 → discount_agrees c p ≡ true → IfSome (discount_from p) (IsDiscountOf c)
is_discount_from c (None, rest) h e = tt
is_discount_from c (Some id, (None, s)) h e = tt
is_discount_from c (Some id, (Some k, Some s)) h e = record { id = is_short_text id h; status = λ usage. refl }
is_discount_from category.Usage (Some id, (Some k, None)) h e = absurd cc
is_discount_from category.Purchase (Some id, (Some k, None)) h e = record { id = is_short_text id h; status = λ usage. absurd cc }
is_discount_from category.Tax (Some id, (Some k, None)) h e = record { id = is_short_text id h; status = λ usage. absurd cc }
is_discount_from category.Credit (Some id, (Some k, None)) h e = record { id = is_short_text id h; status = λ usage. absurd cc }
is_discount_from category.Adjustment (Some id, (Some k, None)) h e = record { id = is_short_text id h; status = λ usage. absurd cc }

pub fits_discount_from : (p : DiscountParts) → FitsOptional FitsShortText p.0 → FitsOptional FitsDiscount (discount_from p)
fits_discount_from (None, rest) h = tt
fits_discount_from (Some id, (None, s)) h = tt
fits_discount_from (Some id, (Some k, s)) h = h

pub fits_parts : (d : Option DiscountText) → FitsOptional FitsDiscount d → FitsOptional FitsShortText (parts_of d).0
fits_parts None h = tt
fits_parts (Some d) h = h

status_there : (c : Category) (id : List ℕ) (k : DiscountKind) (s : Option DiscountStatus) → (c ≡ category.Usage → IsSome s) → discount_agrees c (Some id, (Some k, s)) ≡ true
status_there c id k (Some s) h = refl
status_there category.Usage id k None h = let none : false ≡ true = h refl in absurd cc
status_there category.Purchase id k None h = refl
status_there category.Tax id k None h = refl
status_there category.Credit id k None h = refl
status_there category.Adjustment id k None h = refl

-- the parts of a discount of the row's category agree
pub parts_agree : (c : Category) (d : Option DiscountText) → IfSome d (IsDiscountOf c) → discount_agrees c (parts_of d) ≡ true
parts_agree c None h = refl
parts_agree c (Some d) h = status_there c d.id d.kind d.status h.status
