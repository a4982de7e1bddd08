-- What keeps the rules of a row's fields is in the ranges of their spelling.
use Rattle.std.proofs.Common.{◌≡◌, ◌≤◌, ◌<◌, ◌^◌, ℕ, ℤ, pos, negsuc, nat_abs, Bool, true, false, cond, List, length, All, refl, arith}
use Rattle.std.specs.Str.{IsUtf8}
use Rattle.std.proofs.lemmas.Bool.{and_from, le-leb, lt-ltb, le-ltb}
use Rattle.std.proofs.lemmas.Str.{is_utf8-from_IsUtf8}
use Rattle.std.proofs.lemmas.List.Elements.{recursion_from_All}
use Rattle.fw_bytes.specs.Spelling.{FitsText}
use Rattle.fw_money.specs.Amount.{most_nanos}
use Rattle.fw_charge.specs.Charge.{IsShortText, longest_short_text}
use Rattle.fw_charge.specs.Tags.{TagText, IsTagSized, IsTags, most_tags, longest_tag_text}
use Rattle.fw_charge.specs.Spelling.{FitsNanos, FitsShortText, FitsTagText, FitsTag, FitsTags}

pub fits_nanos : (z : ℤ) → nat_abs z ≤ most_nanos → FitsNanos z
fits_nanos (pos n) le = (lt-ltb n (2 ^ 63) (omega (arith, le)), le-leb n most_nanos le)
fits_nanos (negsuc n) le = (lt-ltb n (2 ^ 63) (omega (arith, le)), le-leb _ most_nanos le)

fits_text : (text : List ℕ) → length text < 2 ^ 32 → IsUtf8 text → FitsText text
fits_text text lt is = (lt-ltb (length text) (2 ^ 32) lt, is_utf8-from_IsUtf8 text is)

pub fits_short_text : (text : List ℕ) → IsShortText text → IsUtf8 text → FitsShortText text
fits_short_text text short is = (fits_text text (omega (arith, short.few)) is, and_from _ _ (lt-ltb 0 (length text) short.some) (le-leb (length text) longest_short_text short.few))

fits_tag_text : (text : List ℕ) → length text ≤ longest_tag_text → IsUtf8 text → FitsTagText text
fits_tag_text text le is = (fits_text text (omega (arith, le)) is, le-leb (length text) longest_tag_text le)

pub fits_tag : (t : TagText) → IsTagSized t → IsUtf8 t.key → IsUtf8 t.value → FitsTag t
fits_tag t sized key value = (fits_tag_text t.key sized.key key, fits_tag_text t.value sized.value value)

inside : (low high : Bool) → low ≡ false → high ≡ false → cond low false (cond high false true) ≡ true
inside true high l h = absurd cc
inside false true l h = absurd cc
inside false false l h = refl

pub fits_tags : (ts : List TagText) → IsTags ts → All FitsTag ts → FitsTags ts
fits_tags ts are fit =
    (lt-ltb (length ts) (2 ^ 32) (omega (arith, are.few)), inside _ _ (le-ltb (length ts) 0 (omega arith)) (le-ltb most_tags (length ts) are.few), recursion_from_All FitsTag ts fit)
