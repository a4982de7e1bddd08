-- What the tests of single fields and of counts say.
use Rattle.std.proofs.Common.{◌≡◌, ℕ, ◌^◌, ◌<◌, ◌≤◌, Bool, true, false, cond, ltb, List, length, refl, arith}
use Rattle.std.specs.List.{All}
use Rattle.std.specs.Str.{IsUtf8}
use Rattle.std.proofs.lemmas.Bool.{lt-ltb, ltb-false, le-ltb}
use Rattle.std.proofs.lemmas.List.Elements.{All-from_recursion, recursion_from_All}
use Rattle.std.proofs.lemmas.Str.{IsUtf8-from_is_utf8, is_utf8-from_IsUtf8}
use Rattle.fw_bytes.specs.Spelling.{FitsText, FitsList}

within_true : (low high : Bool) → cond low false (cond high false true) ≡ true → (low ≡ false) × (high ≡ false)
within_true true high e = absurd cc
within_true false true e = absurd cc
within_true false false e = (refl, refl)

within_from : (low high : Bool) → low ≡ false → high ≡ false → cond low false (cond high false true) ≡ true
within_from true high l h = absurd cc
within_from false true l h = absurd cc
within_from false false l h = refl

-- ---- a list

pub record FitsCount {A : Type 0} (least most : ℕ) (Fits : A → Type 0) (xs : List A) : Type 0 where
  pub some : least ≤ length xs
  pub few : length xs ≤ most
  pub each : All Fits xs

pub count_from_list : {A : Type 0} (least most : ℕ) (Fits : A → Type 0) (xs : List A) → FitsList least most Fits xs → FitsCount least most Fits xs
count_from_list least most Fits xs h =
    let w = within_true (ltb (length xs) least) (ltb most (length xs)) h.1 in
    record { some = ltb-false _ _ w.0; few = ltb-false _ _ w.1; each = All-from_recursion Fits xs h.2 }

pub list_from_count : {A : Type 0} (least most : ℕ) (Fits : A → Type 0) (xs : List A) → most < 2 ^ 32 → least ≤ length xs → length xs ≤ most → All Fits xs → FitsList least most Fits xs
list_from_count least most Fits xs small some few each =
    (lt-ltb _ _ (omega arith), within_from (ltb (length xs) least) (ltb most (length xs)) (le-ltb _ _ some) (le-ltb _ _ few), recursion_from_All Fits xs each)

-- ---- a text

pub text_fits : (most : ℕ) (bytes : List ℕ) → most < 2 ^ 32 → length bytes ≤ most → IsUtf8 bytes → FitsText bytes
text_fits most bytes small short utf8 = (lt-ltb _ _ (omega arith), is_utf8-from_IsUtf8 bytes utf8)

pub text_utf8 : (bytes : List ℕ) → FitsText bytes → IsUtf8 bytes
text_utf8 bytes h = IsUtf8-from_is_utf8 bytes h.1
