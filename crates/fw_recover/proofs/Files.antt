-- The fields of a file, read where they were written.
use Rattle.std.proofs.Common.{◌≡◌, ℕ, ◌+◌, ◌^◌, ◌<◌, List, ◌∷◌, ◌++◌, length, take, drop, get_or, refl, sym, ◌∙◌, ap, arith}
use Rattle.std.proofs.lemmas.List.{take_at, drop_at, drop-drop}
use Rattle.std.proofs.lemmas.Nat.{from_le_bytes-to_le_bytes_8}
use Rattle.fw_entry_bytes.specs.declared.form.Form.{Form}
use Rattle.fw_entry_bytes.specs.declared.form.Form.TheVariants.{One, Two}
use Rattle.fw_recover.specs.Sides.{made_of, generation_of, body_len_of, body_of, log_start_of, HasMagic}

-- the two magic words differ in their last byte
not_both : (file : List ℕ) → HasMagic One file → HasMagic Two file → ⊥
not_both file a b =
    let last : 49 ≡ 50 = ap (λ (l : List ℕ). get_or l 7 0) (sym a ∙ b) in
    omega (arith, last)

-- a file has the magic word of one form
pub form_one : (file : List ℕ) (f g : Form) → HasMagic f file → HasMagic g file → f ≡ g
form_one file One One a b = refl
form_one file One Two a b = absurd (not_both file a b)
form_one file Two One a b = absurd (not_both file b a)
form_one file Two Two a b = refl

pub made_magic : (form : Form) (generation : ℕ) (body log file : List ℕ) → file ≡ 1 ∷ (made_of form generation body ++ log) → HasMagic form file
unfolding made_of
made_magic One generation body log file is = ap (λ (l : List ℕ). take 8 (drop 1 l)) is
made_magic Two generation body log file is = ap (λ (l : List ℕ). take 8 (drop 1 l)) is

-- the generation that it was made with
pub made_generation : (form : Form) (generation : ℕ) (body log file : List ℕ) → generation < 2 ^ 64 → file ≡ 1 ∷ (made_of form generation body ++ log) → generation_of file ≡ generation
unfolding made_of generation_of
made_generation One generation body log file fits is = ap (λ (l : List ℕ). generation_of l) is ∙ from_le_bytes-to_le_bytes_8 generation fits
made_generation Two generation body log file fits is = ap (λ (l : List ℕ). generation_of l) is ∙ from_le_bytes-to_le_bytes_8 generation fits

-- what stands behind the body doesn't change the generation
pub same_generation : (form : Form) (generation : ℕ) (body log logs file files : List ℕ) → file ≡ 1 ∷ (made_of form generation body ++ log) → files ≡ 1 ∷ (made_of form generation body ++ logs)
    → generation_of file ≡ generation_of files
unfolding made_of generation_of
same_generation One generation body log logs file files is are = ap (λ (l : List ℕ). generation_of l) is ∙ sym (ap (λ (l : List ℕ). generation_of l) are)
same_generation Two generation body log logs file files is are = ap (λ (l : List ℕ). generation_of l) is ∙ sym (ap (λ (l : List ℕ). generation_of l) are)

-- a header has 25 bytes with its gate
pub length-made : (form : Form) (generation : ℕ) (body : List ℕ) → length (made_of form generation body) ≡ 24 + length body
unfolding made_of
length-made One generation body = omega arith
length-made Two generation body = omega arith

made_behind : (form : Form) (generation : ℕ) (body log file : List ℕ) → file ≡ 1 ∷ (made_of form generation body ++ log) → drop 25 file ≡ body ++ log
unfolding made_of
made_behind One generation body log file is = ap (λ (l : List ℕ). drop 25 l) is
made_behind Two generation body log file is = ap (λ (l : List ℕ). drop 25 l) is

pub made_len : (form : Form) (generation : ℕ) (body log file : List ℕ) → length body < 2 ^ 64 → file ≡ 1 ∷ (made_of form generation body ++ log) → body_len_of file ≡ length body
unfolding made_of body_len_of
made_len One generation body log file fits is = ap (λ (l : List ℕ). body_len_of l) is ∙ from_le_bytes-to_le_bytes_8 (length body) fits
made_len Two generation body log file fits is = ap (λ (l : List ℕ). body_len_of l) is ∙ from_le_bytes-to_le_bytes_8 (length body) fits

pub made_body : (form : Form) (generation : ℕ) (body log file : List ℕ) → length body < 2 ^ 64 → file ≡ 1 ∷ (made_of form generation body ++ log) → body_of file ≡ body
made_body form generation body log file fits is =
    ap (λ (n : ℕ). take n (drop 25 file)) (made_len form generation body log file fits is)
    ∙ ap (λ (l : List ℕ). take (length body) l) (made_behind form generation body log file is)
    ∙ take_at body log (length body) refl

pub made_log : (form : Form) (generation : ℕ) (body log file : List ℕ) → length body < 2 ^ 64 → file ≡ 1 ∷ (made_of form generation body ++ log) → drop (log_start_of file) file ≡ log
made_log form generation body log file fits is =
    ap (λ (n : ℕ). drop (25 + n) file) (made_len form generation body log file fits is)
    ∙ sym (drop-drop (length body) 25 file)
    ∙ ap (λ (l : List ℕ). drop (length body) l) (made_behind form generation body log file is)
    ∙ drop_at body log (length body) refl
