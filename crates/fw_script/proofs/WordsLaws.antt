-- A text splits at the first and at the last such byte in one way; digits are ASCII.
use Rattle.std.proofs.Common.{◌≡◌, ◌≢◌, ℕ, ◌<◌, List, [], ◌∷◌, ◌++◌, get_or, refl, sym, ap, subst, ◌∙◌, arith, zero, suc, Option, Some, None, Result, Ok, Err}
use Rattle.std.proofs.lemmas.List.{append_cancel_left}
use Rattle.std.specs.List.{Contains}
use Rattle.std.proofs.lemmas.List.Elements.{Contains-append_right}
use Rattle.std.specs.Prelude.{IsUtf8, MatchOption, MatchResult}
use Rattle.std.specs.Result.{result_ok}
use Rattle.std.specs.Borrow.{Bor}
use Rattle.std.specs.Str.Parse.{AllDigits}
use Rattle.std.proofs.lemmas.Str.Parse.{digit_from_value}
use Rattle.std.proofs.lemmas.Str.{IsUtf8-from_ascii}
use Rattle.fw_script.specs.Splits.{FirstSplit, LastSplit}
use Rattle.fw_script.specs.Words.{space}

pub Contains-middle : (byte : ℕ) (before after : List ℕ) → Contains (before ++ byte ∷ after) byte
Contains-middle byte before after = Contains-append_right before (byte ∷ after) byte (0, omega arith, refl)

-- no text without the byte is parted by it
pub unparted : (byte : ℕ) (text before after : List ℕ) → ¬ Contains text byte → text ≡ before ++ byte ∷ after → ⊥
unparted byte text before after none e = none (subst (λ t. Contains t byte) (sym e) (Contains-middle byte before after))

Contains-more : (x byte : ℕ) (xs : List ℕ) → Contains xs byte → Contains (x ∷ xs) byte
Contains-more x byte xs h = Contains-append_right (x ∷ []) xs byte h

first_parts : (byte : ℕ) (a b c d : List ℕ) → a ++ byte ∷ b ≡ c ++ byte ∷ d → ¬ Contains a byte → ¬ Contains c byte → (a ≡ c) × (b ≡ d)
first_parts byte [] b [] d e p q = (refl, cc)
first_parts byte [] b (y ∷ c) d e p q = absurd (q (0, omega arith, cc))
first_parts byte (x ∷ a) b [] d e p q = absurd (p (0, omega arith, cc))
first_parts byte (x ∷ a) b (y ∷ c) d e p q =
    let tails : a ++ byte ∷ b ≡ c ++ byte ∷ d = cc in
    let r = first_parts byte a b c d tails (λ h. p (Contains-more x byte a h)) (λ h. q (Contains-more y byte c h)) in
    (cc, r.1)

last_parts : (byte : ℕ) (a b c d : List ℕ) → a ++ byte ∷ b ≡ c ++ byte ∷ d → ¬ Contains b byte → ¬ Contains d byte → (a ≡ c) × (b ≡ d)
last_parts byte [] b [] d e p q = (refl, cc)
last_parts byte [] b (y ∷ c) d e p q = absurd (unparted byte b c d p cc)
last_parts byte (x ∷ a) b [] d e p q = absurd (unparted byte d a b q cc)
last_parts byte (x ∷ a) b (y ∷ c) d e p q =
    let tails : a ++ byte ∷ b ≡ c ++ byte ∷ d = cc in
    let r = last_parts byte a b c d tails p q in
    (cc, r.1)

pub FirstSplit-one : (byte : ℕ) (text a b c d : List ℕ) → FirstSplit byte text a b → FirstSplit byte text c d → (a ≡ c) × (b ≡ d)
FirstSplit-one byte text a b c d h k = first_parts byte a b c d (sym h.in_turn ∙ k.in_turn) h.clear k.clear

pub LastSplit-one : (byte : ℕ) (text a b c d : List ℕ) → LastSplit byte text a b → LastSplit byte text c d → (a ≡ c) × (b ≡ d)
LastSplit-one byte text a b c d h k = last_parts byte a b c d (sym h.in_turn ∙ k.in_turn) h.clear k.clear

-- what follows a word and a space
pub arguments-one : (word line a b : List ℕ) → line ≡ word ++ space ∷ a → line ≡ word ++ space ∷ b → a ≡ b
arguments-one word line a b h k = let tails = append_cancel_left word (space ∷ a) (space ∷ b) (sym h ∙ k) in cc

digit_below : (ds : List ℕ) → AllDigits 10 ds → (i : ℕ) → get_or ds i 0 < 128
digit_below [] h i = omega arith
digit_below (c ∷ cs) h zero = let r = digit_from_value c h.0 in omega arith
digit_below (c ∷ cs) h (suc i) = digit_below cs h.1 i

pub digits-IsUtf8 : (ds : List ℕ) → AllDigits 10 ds → IsUtf8 ds
digits-IsUtf8 ds h = IsUtf8-from_ascii ds (digit_below ds h)

-- what an `Err` whose value was dropped had said
pub refused : {T E N : Type 0} (P : T → Type 0) (Q : E → Type 0) (r : Result T E) → MatchResult r P (λ e. N × Q e) → result_ok r ≡ None → N
refused P Q (Ok x) h e = absurd (cc)
refused P Q (Err e) h none = h.0

-- a prefix taken off in two steps
pub prefix_twice : (line word first : List ℕ) (byte : ℕ) (r : Option (Bor (List ℕ))) → line ≡ word ++ first
    → MatchOption r ((rest : List ℕ) → first ≢ (byte ∷ []) ++ rest) (λ rest. first ≡ (byte ∷ []) ++ rest.now)
    → MatchOption r ((rest : List ℕ) → line ≢ word ++ byte ∷ rest) (λ rest. line ≡ word ++ byte ∷ rest.now)
prefix_twice line word first byte None h k = λ rest e. k rest (append_cancel_left word first (byte ∷ rest) (sym h ∙ e))
prefix_twice line word first byte (Some x) h k = h ∙ ap (λ t. word ++ t) k
