-- Characters that act on a terminal, and what stands for them.
use Rattle.std.proofs.Common.{◌≡◌, ◌+◌, ◌/◌, ◌%◌, ◌<◌, ◌≤◌, ℕ, Bool, true, false, not, ◌==◌, cond, List, [], ◌∷◌, ◌++◌, encode_utf8, encode_utf8_all, length, nat_lt, refl, sym, ap, ◌∙◌, arith, append-nil}
use Rattle.std.specs.Char.{digit_char}
use Rattle.std.specs.Char.Escape.{escape_unicode, hex_digit_at}
use Rattle.std.specs.List.{flat_map}
use Rattle.std.specs.Str.{IsUtf8, NonePass, NoCharPasses, chars}
use Rattle.std.proofs.lemmas.Bool.{cases_Bool, cond_both, ltb-true, and_right}
use Rattle.std.proofs.lemmas.Bool.Decides.{nat_tests}
use Rattle.std.proofs.lemmas.List.Concat.{flat_map-cons}
use Rattle.std.proofs.lemmas.Str.{chars_past_char, encodes-append, chars_from_encodes, NoCharPasses-append}
use Rattle.fw_table.specs.Shown.{is_acting, is_acting_in_lines, AreShownLines, shown, shown_text}

-- what prints in ASCII acts on nothing
plain : (c : ℕ) → 32 ≤ c → c ≤ 126 → is_acting c ≡ false
unfolding is_acting
plain c low high = grind (arith, nat_tests)

digit_plain : (d : ℕ) → d < 16 → is_acting (digit_char d) ≡ false
digit_plain d few =
    cond_both (nat_lt d 10) (48 + d) (87 + d) (λ x. is_acting x ≡ false)
    (λ small. plain (48 + d) (omega arith) (omega (arith, ltb-true d 10 small)))
    (λ large. plain (87 + d) (omega arith) (omega (arith, few)))

none_escaped : (c : ℕ) → NonePass is_acting (escape_unicode c)
none_escaped c =
    let slash = plain 92 (omega arith) (omega arith) in
    let u = plain 117 (omega arith) (omega arith) in
    let from = plain 123 (omega arith) (omega arith) in
    let to = plain 125 (omega arith) (omega arith) in
    let P : List ℕ → Type 0 = λ cs. NonePass is_acting cs in
    let digit : (p : ℕ) → is_acting (hex_digit_at p c) ≡ false = λ p. digit_plain (c / p % 16) (omega arith) in
    cond_both (nat_lt c 0x10) _ _ P (λ _. (slash, (u, (from, (digit 1, (to, tt)))))) (λ _.
    cond_both (nat_lt c 0x100) _ _ P (λ _. (slash, (u, (from, (digit 0x10, (digit 1, (to, tt))))))) (λ _.
    cond_both (nat_lt c 0x1000) _ _ P (λ _. (slash, (u, (from, (digit 0x100, (digit 0x10, (digit 1, (to, tt)))))))) (λ _.
    cond_both (nat_lt c 0x1_0000) _ _ P (λ _. (slash, (u, (from, (digit 0x1000, (digit 0x100, (digit 0x10, (digit 1, (to, tt))))))))) (λ _.
    cond_both (nat_lt c 0x10_0000) _ _ P (λ _. (slash, (u, (from, (digit 0x1_0000, (digit 0x1000, (digit 0x100, (digit 0x10, (digit 1, (to, tt)))))))))) (λ _.
    (slash, (u, (from, (digit 0x10_0000, (digit 0x1_0000, (digit 0x1000, (digit 0x100, (digit 0x10, (digit 1, (to, tt)))))))))))))))

none_in_both : (xs ys : List ℕ) → NonePass is_acting xs → NonePass is_acting ys → NonePass is_acting (xs ++ ys)
none_in_both [] ys none also = also
none_in_both (x ∷ xs) ys none also = (none.0, none_in_both xs ys none.1 also)

none_in_one : (c : ℕ) → NonePass is_acting (shown c)
unfolding shown
none_in_one c = cond_both (is_acting c) (escape_unicode c) (c ∷ []) (λ cs. NonePass is_acting cs) (λ _. none_escaped c) (λ quiet. (quiet, tt))

none_shown : (cs : List ℕ) → NonePass is_acting (flat_map shown cs)
none_shown [] = tt
none_shown (c ∷ cs) = rw flat_map-cons (none_in_both (shown c) (flat_map shown cs) (none_in_one c) (none_shown cs))

pub shown_acts_nowhere : (text : List ℕ) → NoCharPasses is_acting (shown_text text)
unfolding shown_text
shown_acts_nowhere text = (flat_map shown (chars text), refl, none_shown (chars text))

as_it_is : (c : ℕ) → is_acting c ≡ false → shown c ≡ c ∷ []
unfolding shown
as_it_is c quiet = ap (λ (b : Bool). cond b (escape_unicode c) (c ∷ [])) quiet

all_as_they_are : (cs : List ℕ) → NonePass is_acting cs → flat_map shown cs ≡ cs
all_as_they_are [] none = refl
all_as_they_are (c ∷ cs) none = flat_map-cons shown c cs ∙ ap (λ (l : List ℕ). l ++ flat_map shown cs) (as_it_is c none.0) ∙ ap (λ (l : List ℕ). c ∷ l) (all_as_they_are cs none.1)

pub quiet_as_it_is : (text : List ℕ) → NoCharPasses is_acting text → IsUtf8 text → shown_text text ≡ text
unfolding shown_text
quiet_as_it_is text none utf8 =
    ap (λ (cs : List ℕ). encode_utf8_all (flat_map shown cs)) (sym (chars_from_encodes none.0 text utf8 none.1))
    ∙ ap (λ (cs : List ℕ). encode_utf8_all cs) (all_as_they_are none.0 none.2) ∙ none.1

pub shown_empty : (text : List ℕ) → length text ≡ 0 → shown_text text ≡ []
unfolding shown_text chars
shown_empty [] none = refl
shown_empty (b ∷ text) none = absurd (omega (arith, none))

-- one character more
pub shown_step : (text rest : List ℕ) (c : ℕ) → IsUtf8 text → text ≡ encode_utf8 c ++ rest → shown_text text ≡ encode_utf8_all (shown c) ++ shown_text rest
unfolding shown_text
shown_step text rest c utf8 is =
    ap (λ (cs : List ℕ). encode_utf8_all (flat_map shown cs)) (chars_past_char text rest c utf8 is)
    ∙ ap (λ (cs : List ℕ). encode_utf8_all cs) (flat_map-cons shown c (chars rest))
    ∙ encodes-append (shown c) (flat_map shown (chars rest))

-- ---- lines

quiet_in_lines : (c : ℕ) → is_acting c ≡ false → is_acting_in_lines c ≡ false
unfolding is_acting_in_lines
quiet_in_lines c quiet = and_right (not (c == 10)) (is_acting c) quiet

none_in_lines : (cs : List ℕ) → NonePass is_acting cs → NonePass is_acting_in_lines cs
none_in_lines [] none = tt
none_in_lines (c ∷ cs) none = (quiet_in_lines c none.0, none_in_lines cs none.1)

-- a shown text behind lines
pub one_text_more : (lines text : List ℕ) → AreShownLines lines → NoCharPasses is_acting text → AreShownLines (lines ++ text)
unfolding AreShownLines
one_text_more lines text are quiet = NoCharPasses-append is_acting_in_lines lines text are (quiet.0, quiet.1, none_in_lines quiet.0 quiet.2)

-- a character behind lines
pub one_character_more : (lines : List ℕ) (c : ℕ) → AreShownLines lines → is_acting_in_lines c ≡ false → AreShownLines (lines ++ encode_utf8 c)
unfolding AreShownLines
one_character_more lines c are quiet = NoCharPasses-append is_acting_in_lines lines (encode_utf8 c) are (c ∷ [], append-nil (encode_utf8 c), (quiet, tt))

pub no_lines : AreShownLines []
unfolding AreShownLines
no_lines = ([], refl, tt)
