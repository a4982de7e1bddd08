-- A header, read from the front of a file.
use Rattle.std.proofs.Common.{◌≡◌, ℕ, ◌+◌, ◌≤◌, ◌<◌, List, [], ◌∷◌, ◌++◌, length, take, drop, get_or, sym, ◌∙◌, ap, arith, take-append-drop}
use Rattle.std.proofs.lemmas.List.{append-nil, drop_all, get_or-take, drop-drop, drop-take, take-take}
use Rattle.fw_bytes.specs.Spelling.{number64}
use Rattle.std.specs.Int.{from_le_bytes}
use Rattle.std.specs.Int.Width.{w64}
use Rattle.fw_entry_bytes.specs.declared.form.Form.{Form}
use Rattle.fw_recover.specs.Sides.{magic, generation_of, body_len_of, HasMagic, IsOpen}
use Rattle.fw_recover.specs.Corrupt.{IsSigned}

pub header_is : (file into : List ℕ) → length into ≡ 25 → into ≡ take (length into) (drop 0 file) → into ≡ take 25 file
header_is file into long is = is ∙ ap (λ (n : ℕ). take n file) long

-- eight bytes of a header are those of the file
pub field : (file : List ℕ) (k m : ℕ) → 8 ≤ m → k + m ≡ 25 → take 8 (drop k (take 25 file)) ≡ take 8 (drop k file)
field file k m some all =
    ap (λ (n : ℕ). take 8 (drop k (take n file))) (sym all)
    ∙ ap (λ (l : List ℕ). take 8 l) (drop-take k m file)
    ∙ take-take 8 m (drop k file) some

first_is : (xs rest : List ℕ) → 0 < length xs → get_or xs 0 0 ≡ 1 → drop 1 xs ≡ rest → xs ≡ 1 ∷ rest
first_is [] rest some gate behind = absurd (omega arith)
first_is (x ∷ xs) rest some gate behind = cc

module _ (file header : List ℕ) (is : header ≡ take 25 file) where
  gate_is : get_or header 0 0 ≡ get_or file 0 0
  gate_is = ap (λ (l : List ℕ). get_or l 0 0) is ∙ get_or-take 25 file 0 0 (omega arith)

  word_is : take 8 (drop 1 header) ≡ take 8 (drop 1 file)
  word_is = ap (λ (l : List ℕ). take 8 (drop 1 l)) is ∙ field file 1 24 (omega arith) (omega arith)

  pub generation_is : from_le_bytes w64 (take 8 (drop 9 header)) ≡ generation_of file
  unfolding generation_of
  generation_is = ap (λ (l : List ℕ). from_le_bytes w64 l) (ap (λ (l : List ℕ). take 8 (drop 9 l)) is ∙ field file 9 16 (omega arith) (omega arith))

  pub body_len_is : from_le_bytes w64 (take 8 (drop 17 header)) ≡ body_len_of file
  unfolding body_len_of
  body_len_is = ap (λ (l : List ℕ). from_le_bytes w64 l) (ap (λ (l : List ℕ). take 8 (drop 17 l)) is ∙ field file 17 8 (omega arith) (omega arith))

  pub opened : get_or header 0 0 ≡ 1 → 26 ≤ length file → IsOpen file
  opened gate long = record { long = long; gate = sym gate_is ∙ gate }

  pub signed : (form : Form) → take 8 (drop 1 header) ≡ magic form → HasMagic form file
  signed form word = sym word_is ∙ word

  pub unsigned : ((form : Form) → take 8 (drop 1 header) ≡ magic form → ⊥) → IsSigned file → ⊥
  unsigned none signs = none signs.0 (word_is ∙ signs.1)

-- the first 25 bytes of a file: its gate, its magic word and two numbers
pub front_is : (form : Form) (header : List ℕ) (g n : ℕ) → length header ≡ 25 → get_or header 0 0 ≡ 1 → take 8 (drop 1 header) ≡ magic form → number64 g ≡ take 8 (drop 9 header) → number64 n ≡ take 8 (drop 17 header)
    → header ≡ 1 ∷ (magic form ++ (number64 g ++ number64 n))
front_is form header g n long gate word generation len =
    let rest : drop 25 header ≡ [] = drop_all 25 header (omega (arith, long)) in
    let last : drop 17 header ≡ number64 n =
    sym (take-append-drop 8 (drop 17 header)) ∙ ap (λ (l : List ℕ). l ++ drop 8 (drop 17 header)) (sym len)
    ∙ ap (λ (l : List ℕ). number64 n ++ l) (drop-drop 8 17 header ∙ rest) ∙ append-nil (number64 n) in
    let third : drop 9 header ≡ number64 g ++ number64 n =
    sym (take-append-drop 8 (drop 9 header)) ∙ ap (λ (l : List ℕ). l ++ drop 8 (drop 9 header)) (sym generation)
    ∙ ap (λ (l : List ℕ). number64 g ++ l) (drop-drop 8 9 header ∙ last) in
    let second : drop 1 header ≡ magic form ++ (number64 g ++ number64 n) =
    sym (take-append-drop 8 (drop 1 header)) ∙ ap (λ (l : List ℕ). l ++ drop 8 (drop 1 header)) word
    ∙ ap (λ (l : List ℕ). magic form ++ l) (drop-drop 8 1 header ∙ third) in
    first_is header (magic form ++ (number64 g ++ number64 n)) (omega (arith, long)) gate second
