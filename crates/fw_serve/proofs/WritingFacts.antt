-- Lemmas on what a writer got.
use Rattle.std.proofs.Common.{◌≡◌, ◌∙◌, ℕ, ◌+◌, ◌<◌, List, [], ◌∷◌, ◌++◌, length, map, take, drop, get_or, sym, ap, append-nil, append_assoc, Option}
use Rattle.std.specs.List.{concat}
use Rattle.std.specs.Io.KnownBytes.{Appends}
use Rattle.std.proofs.KnownBytes.{Appends-trans}
use Rattle.std.proofs.lemmas.List.{take_more, map-append, take-append-drop}
use Rattle.std.proofs.lemmas.List.Folds.{concat-append}
use Rattle.fw_serve.specs.Writing.{WritesPart}

-- a text before it was written whole
pub WritesPart-after : (a b c : Option (List ℕ)) (xs ys : List ℕ) → Appends a b xs → WritesPart b c ys → WritesPart a c (xs ++ ys)
WritesPart-after a b c xs ys first part = record {
  written = xs ++ part.written;
  unwritten = part.unwritten;
  whole = ap (λ l. xs ++ l) part.whole ∙ sym (append_assoc xs part.written part.unwritten);
  writes = Appends-trans a b c xs part.written first part.writes;
}

-- a text after it was not reached
pub WritesPart-before : (a b : Option (List ℕ)) (xs ys : List ℕ) → WritesPart a b xs → WritesPart a b (xs ++ ys)
WritesPart-before a b xs ys part = record {
  written = part.written;
  unwritten = part.unwritten ++ ys;
  whole = ap (λ l. l ++ ys) part.whole ∙ append_assoc part.written part.unwritten ys;
  writes = part.writes;
}

-- the parts up to and with one of them
pub concat-more : {X : Type 0} (f : X → List ℕ) (parts : List X) (i : ℕ) (d : X) → i < length parts
    → concat (map f (take (i + 1) parts)) ≡ concat (map f (take i parts)) ++ f (get_or parts i d)
concat-more f parts i d below =
    ap (λ l. concat (map f l)) (take_more parts i d below)
    ∙ ap concat (map-append f (take i parts) (get_or parts i d ∷ []))
    ∙ concat-append (map f (take i parts)) (f (get_or parts i d) ∷ [])
    ∙ ap (λ l. concat (map f (take i parts)) ++ l) (append-nil (f (get_or parts i d)))

-- all parts are those before one of them, that one, and those after it
pub concat-split : {X : Type 0} (f : X → List ℕ) (parts : List X) (i : ℕ) (d : X) → i < length parts
    → concat (map f parts) ≡ (concat (map f (take i parts)) ++ f (get_or parts i d)) ++ concat (map f (drop (i + 1) parts))
concat-split f parts i d below =
    ap (λ l. concat (map f l)) (sym (take-append-drop (i + 1) parts))
    ∙ ap concat (map-append f (take (i + 1) parts) (drop (i + 1) parts))
    ∙ concat-append (map f (take (i + 1) parts)) (map f (drop (i + 1) parts))
    ∙ ap (λ l. l ++ concat (map f (drop (i + 1) parts))) (concat-more f parts i d below)
