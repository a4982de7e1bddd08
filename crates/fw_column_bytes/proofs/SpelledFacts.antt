-- Lists of places whose bytes are known.
use Rattle.std.proofs.Common.{◌≡◌, ℕ, ◌+◌, ◌-◌, ◌<◌, ◌≤◌, Bool, true, false, List, [], ◌∷◌, ◌++◌, length, get_or, take, Some, Ok, refl, sym, ap, ◌∙◌, ltb, length-append, arith}
use Rattle.std.specs.Prelude.{slice_get}
use Rattle.std.proofs.lemmas.Bool.{ltb-true, ltb-false}
use Rattle.std.proofs.lemmas.List.{get_or_append_left, get_or_push, take_at}
use Rattle.std.proofs.lemmas.Option.{get_or_from_slice_get, slice_get_within}
use Rattle.fw_bytes.proofs.Laws.{IsBytes}
use Rattle.fw_row_table.specs.Names.{Text}
use Rattle.fw_row_table.specs.Texts.{with_texts}
use Rattle.fw_row_table.proofs.TextFacts.{with_texts-append, with_texts-grows}
use Rattle.fw_column_bytes.specs.Reading.{tag_places_at}
use Rattle.fw_column_bytes.specs.Spelled.{AreSpelled}
use Rattle.fw_column_bytes.proofs.Copied.{places_spelled}
use Rattle.fw_column_bytes.proofs.PartsFormat.{tag_places_format}

-- what reads as a list, reads as it whatever follows
pub reads_again : (names : List Text) (bytes list after : List ℕ) → IsBytes bytes → tag_places_at names bytes ≡ Ok (list, after)
    → (length after ≤ length bytes) × ((more : List ℕ) → tag_places_at names (take (length bytes - length after) bytes ++ more) ≡ Ok (list, more))
reads_again names bytes list after is e =
    let t = (tag_places_format names).takes bytes (list, after) is e in
    let spelled = places_spelled list in
    let size : length bytes ≡ length spelled + length after = ap length t.0.parts ∙ length-append spelled after in
    let n = length bytes - length after in
    let front : take n bytes ≡ spelled = ap (take n) t.0.parts ∙ take_at spelled after n (omega (arith, size)) in
    (omega (arith, size), λ more. ap (λ xs. tag_places_at names (xs ++ more)) front ∙ (tag_places_format names).again list more t.1)

-- the lists stay spelled once a row has one more
pub stay_spelled : (names : List Text) (before now spelled : List (List ℕ)) (list : List ℕ) → now ≡ before ++ list ∷ [] → AreSpelled names before spelled → AreSpelled names now spelled
stay_spelled names before now spelled list is are =
    let grown = with_texts-grows (with_texts [] before) (list ∷ []) in
    let all : with_texts [] now ≡ with_texts [] before ++ grown.0 = ap (with_texts []) is ∙ (with_texts-append [] before (list ∷ []) ∙ grown.1) in
    record {
      few = omega (arith, are.few, ap length all, length-append (with_texts [] before) grown.0);
      each =
          λ k lt more.
          let here : get_or (with_texts [] now) k [] ≡ get_or (with_texts [] before) k [] = ap (λ xs. get_or xs k []) all ∙ get_or_append_left (with_texts [] before) grown.0 [] k (omega (arith, lt, are.few)) in
          are.each k lt more ∙ ap (λ xs. Ok (xs, more)) (sym here);
    }

-- and one more is spelled
pub one_more_spelled : (names : List Text) (lists spelled : List (List ℕ)) (front list : List ℕ) → AreSpelled names lists spelled → slice_get (with_texts [] lists) (length spelled) ≡ Some list
    → ((more : List ℕ) → tag_places_at names (front ++ more) ≡ Ok (list, more)) → AreSpelled names lists (spelled ++ front ∷ [])
one_more_spelled names lists spelled front list are there reads =
    let size = length-append spelled (front ∷ []) in
    record { few = omega (arith, size, slice_get_within (with_texts [] lists) (length spelled) list there); each = λ k lt more. by k more (omega (arith, lt, size)) (ltb k (length spelled)) refl }
  where
    by : (k : ℕ) (more : List ℕ) → k < length spelled + 1 → (b : Bool) → ltb k (length spelled) ≡ b → tag_places_at names (get_or (spelled ++ front ∷ []) k [] ++ more) ≡ Ok (get_or (with_texts [] lists) k [], more)
    by k more lt true e =
        let below : k < length spelled = ltb-true k (length spelled) e in
        ap (λ xs. tag_places_at names (xs ++ more)) (get_or_append_left spelled (front ∷ []) [] k below) ∙ are.each k below more
    by k more lt false e =
        let same : k ≡ length spelled = omega (arith, lt, ltb-false k (length spelled) e) in
        let last : get_or (spelled ++ front ∷ []) k [] ≡ front = ap (λ n. get_or (spelled ++ front ∷ []) n []) same ∙ get_or_push spelled front [] (length spelled) refl in
        let list_is : get_or (with_texts [] lists) k [] ≡ list = ap (λ n. get_or (with_texts [] lists) n []) same ∙ get_or_from_slice_get (with_texts [] lists) (length spelled) list [] there in
        ap (λ xs. tag_places_at names (xs ++ more)) last ∙ (reads more ∙ ap (λ xs. Ok (xs, more)) (sym list_is))

pub none_spelled : (names : List Text) → AreSpelled names [] []
none_spelled names = record { few = omega arith; each = λ k lt more. absurd (omega (arith, lt)) }
